-- What puts one after another leave in a sink, whether or not its bytes are told.
use Rattle.std.proofs.Common.{◌≡◌, ℕ, ◌≤◌, List, [], ◌++◌, None, Some, Option, Result, Ok, Err, refl, sym, ap, ◌∙◌, append_assoc, append-nil, arith}
use Rattle.std.proofs.KnownBytes.{Appends-nil, Appends-trans}
use Rattle.axp_io.specs.Causes.{Appends, Keeps, AppendsFront, PutTaken, Rose, raised}
use Rattle.axp_io.specs.declared.SinkFault.{SinkFault}
use Rattle.axp_io.specs.declared.SinkFault.TheVariants as sink

-- the whole piece is a front of it
pub front_whole : (before now : Option (List ℕ)) (piece : List ℕ) → Appends before now piece → AppendsFront before now piece
front_whole before now piece whole = (piece, [], sym (append-nil piece), whole)

-- nothing is a front of any piece
pub front_none : (held : Option (List ℕ)) (piece : List ℕ) → AppendsFront held held piece
front_none held piece = ([], piece, refl, Appends-nil held)

-- what stays grew by nothing
pub appends_none : (before now : Option (List ℕ)) → Keeps before now → Appends before now []
appends_none None now kept = tt
appends_none (Some xs) None kept = absurd kept
appends_none (Some xs) (Some ys) kept = kept ∙ sym (append-nil xs)

pub front_kept : (before now : Option (List ℕ)) (piece : List ℕ) → Keeps before now → AppendsFront before now piece
front_kept before now piece kept = ([], piece, refl, appends_none before now kept)

-- whatever a put answers, a front of its piece was taken
pub front_put : {T : Type 0} (before now : Option (List ℕ)) (piece : List ℕ) (result : Result T SinkFault) → PutTaken before now piece result → AppendsFront before now piece
front_put before now piece (Ok _) taken = front_whole before now piece taken
front_put before now piece (Err sink.Failed) taken = taken
front_put before now piece (Err sink.Memory) taken = front_kept before now piece taken

-- a front of a text is a front of a longer one
pub front_longer : (before now : Option (List ℕ)) (text more : List ℕ) → AppendsFront before now text → AppendsFront before now (text ++ more)
front_longer before now text more (front, rest, split, taken) = (front, rest ++ more, ap (λ xs. xs ++ more) split ∙ append_assoc front rest more, taken)

-- a whole text, and then a front of the next
pub front_after : (before between now : Option (List ℕ)) (text piece : List ℕ) → Appends before between text → AppendsFront between now piece → AppendsFront before now (text ++ piece)
front_after before between now text piece whole (front, rest, split, taken) =
    (text ++ front, rest, ap (λ xs. text ++ xs) split ∙ sym (append_assoc text front rest), Appends-trans before between now text front whole taken)

-- a count that rose has risen still after it grew further, and one that grew before
pub rose_later : (before between now : ℕ) → Rose before between → between ≤ now → Rose before now
rose_later before between now rose more = omega arith

pub rose_earlier : (before between now : ℕ) → before ≤ between → Rose between now → Rose before now
rose_earlier before between now more rose = omega arith

-- a count that rose by one has risen
pub rose_by_one : (before now : ℕ) → now ≡ raised before 1 → Rose before now
rose_by_one before now is = omega arith
