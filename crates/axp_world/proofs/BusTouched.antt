-- The quadwords that the bus's calls wrote are those that the history's writes did. A byte was written exactly
-- where it is the same whatever memory had there at the start.
use Rattle.std.proofs.Common.{◌≡◌, ℕ, zero, suc, ◌+◌, ◌*◌, Bool, true, false, ◌||◌, ⊎_elim, List, [], ◌∷◌, Option, Some, None, is_some, refl, sym, ap, ◌∙◌}
use Rattle.std.specs.Prelude.{◌==◌}
use Rattle.std.proofs.lemmas.Bool.{cases_Bool, eq-eqb}
use Rattle.axp_access.specs.Numbering.{NumberedAccess}
use Rattle.axp_access.specs.declared.Record.{Record}
use Rattle.axp_base.specs.declared.parts.TheConstants.{QUADWORD_BYTES}
use Rattle.axp_line.specs.BusCalls as calls
use Rattle.axp_line.specs.BusCalls.{BusCall, Written, writes_byte, writes_bytes}
use Rattle.axp_line.proofs.QuadwordLemmas.{reached_by_bytes}
use Rattle.axp_model.specs.Accesses.{accesses, times}
use Rattle.axp_model.specs.Memory.{is_touched, is_written, memory_byte, memory_source}
use Rattle.axp_model.specs.Sources.{byte_of_source}
use Rattle.axp_model.specs.Turns.{turns}
use Rattle.axp_world.proofs.Agreement.{BusAgrees}
use Rattle.axp_laws.proofs.SourceWritten.{or_swap}

-- memory of zeros, and of ones
abbrev zeros : ℕ → ℕ
zeros at = 0

abbrev ones : ℕ → ℕ
ones at = 1

-- some call wrote the byte at an address, one of the n bytes from it on
abbrev byte_written : ℕ → List BusCall → Bool
byte_written at [] = false
byte_written at (c ∷ cs) = writes_byte at (calls.write_made c.ask c.answer) || byte_written at cs

abbrev bytes_written : ℕ → ℕ → List BusCall → Bool
bytes_written at zero cs = false
bytes_written at (suc n) cs = bytes_written at n cs || byte_written (at + n) cs

none_first : (at n : ℕ) → bytes_written at n [] ≡ false
none_first at zero = refl
none_first at (suc n) = rw (none_first at n) refl

one_call_more : (at n : ℕ) (c : BusCall) (cs : List BusCall) → (writes_bytes at n (calls.write_made c.ask c.answer) || bytes_written at n cs) ≡ bytes_written at n (c ∷ cs)
one_call_more at zero c cs = refl
one_call_more at (suc n) c cs =
    or_swap (writes_bytes at n (calls.write_made c.ask c.answer)) (writes_byte (at + n) (calls.write_made c.ask c.answer)) (bytes_written at n cs) (byte_written (at + n) cs)
    ∙ ap (λ b. b || (writes_byte (at + n) (calls.write_made c.ask c.answer) || byte_written (at + n) cs)) (one_call_more at n c cs)

touched_by_bytes : (q : ℕ) (cs : List BusCall) → calls.is_touched q cs ≡ bytes_written (q * QUADWORD_BYTES) QUADWORD_BYTES cs
touched_by_bytes q [] = sym (none_first (q * QUADWORD_BYTES) QUADWORD_BYTES)
touched_by_bytes q (c ∷ cs) =
    ap (λ b. b || calls.is_touched q cs) (reached_by_bytes q (calls.write_made c.ask c.answer))
    ∙ ap (λ b. writes_bytes (q * QUADWORD_BYTES) QUADWORD_BYTES (calls.write_made c.ask c.answer) || b) (touched_by_bytes q cs)
    ∙ one_call_more (q * QUADWORD_BYTES) QUADWORD_BYTES c cs

-- a written byte does not depend on what was there
same_itself : (n : ℕ) → true ≡ (n == n)
same_itself n = sym (eq-eqb n n refl)

wrote_over : (w : Option Written) (at : ℕ) (f g : ℕ → ℕ) (older : Bool) → older ≡ (f at == g at) → (writes_byte at w || older) ≡ (calls.overwritten w f at == calls.overwritten w g at)
wrote_over None at f g older same = same
wrote_over (Some w) at f g older same =
    ⊎_elim
    (λ (here : writes_byte at (Some w) ≡ true). rw here (same_itself _))
    (λ (elsewhere : writes_byte at (Some w) ≡ false). rw elsewhere same)
    (cases_Bool (writes_byte at (Some w)))

byte_by_memory : (at : ℕ) (cs : List BusCall) → byte_written at cs ≡ (calls.memory zeros cs at == calls.memory ones cs at)
byte_by_memory at [] = refl
byte_by_memory at (c ∷ cs) = wrote_over (calls.write_made c.ask c.answer) at (calls.memory zeros cs) (calls.memory ones cs) (byte_written at cs) (byte_by_memory at cs)

source_by_memory : (o : Option NumberedAccess) (at : ℕ) → (byte_of_source zeros at o == byte_of_source ones at o) ≡ is_some o
source_by_memory None at = refl
source_by_memory (Some u) at = sym (same_itself _)

byte_agrees : (image : ℕ → ℕ) (h : List Record) (cs : List BusCall) (at : ℕ) → BusAgrees image h cs → byte_written at cs ≡ is_some (memory_source (times h) (turns h) at (accesses h))
byte_agrees image h cs at bus =
    byte_by_memory at cs
    ∙ ap (λ n. n == calls.memory ones cs at) (bus.bytes zeros at)
    ∙ ap (λ n. memory_byte zeros h (turns h) at == n) (bus.bytes ones at)
    ∙ source_by_memory (memory_source (times h) (turns h) at (accesses h)) at

bytes_agree : (image : ℕ → ℕ) (h : List Record) (cs : List BusCall) (at n : ℕ) → BusAgrees image h cs → bytes_written at n cs ≡ is_written h at n
bytes_agree image h cs at zero bus = refl
bytes_agree image h cs at (suc n) bus = rw (bytes_agree image h cs at n bus, byte_agrees image h cs (at + n) bus) refl

pub touched_agrees : (image : ℕ → ℕ) (h : List Record) (cs : List BusCall) → BusAgrees image h cs → (q : ℕ) → calls.is_touched q cs ≡ is_touched h q
touched_agrees image h cs bus q = touched_by_bytes q cs ∙ bytes_agree image h cs (q * QUADWORD_BYTES) QUADWORD_BYTES bus
