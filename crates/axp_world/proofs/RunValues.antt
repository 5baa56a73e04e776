-- The value that an access finds in a copy, or in a line from the bus, is that of its sources.
use Rattle.std.proofs.Common.{true, false, ℕ, zero, suc, ◌+◌, ◌*◌, ◌%◌, ◌^◌, ◌<◌, ◌≤◌, ◌≡◌, List, length, get_or, slice_index, Option, Some, None, is_some, refl, sym, ap, ◌∙◌, subst, arith}
use Rattle.std.specs.Option.{option_map, option_or}
use Rattle.std.proofs.lemmas.Bool.{false≢true}
use Rattle.axp_bank.specs.Copies.{get_of, stamp_of}
use Rattle.axp_bank.proofs.HeldCopyLemmas.{held_get}
use Rattle.axp_base.specs.Cpus.{cpu_number}
use Rattle.axp_base.specs.Lines.{line_number, line_at, line_of}
use Rattle.axp_base.specs.Parts.{number_at, part}
use Rattle.axp_base.specs.declared.lines.TheConstants.{LINE_BYTES}
use Rattle.axp_base.specs.declared.processors.Cpu.{Cpu}
use Rattle.axp_access.specs.declared.Access.{Access}
use Rattle.axp_access.specs.declared.Place.TheVariants.{At}
use Rattle.axp_access.specs.declared.Record.{Record}
use Rattle.axp_access.specs.declared.Wanted.{Wanted}
use Rattle.axp_line.specs.Lines.{bytes_of_line}
use Rattle.axp_line.specs.declared.contents.LineData.{LineData}
use Rattle.axp_lsu.specs.Going.{fetched_value, part_of, read_value, stamp_or_none}
use Rattle.axp_lsu.specs.Keeping.{LocalMemory, data_copies}
use Rattle.axp_line.specs.BusReply.{bytes_from, line_of_memory}
use Rattle.axp_model.specs.Entries.{buffer, has_line}
use Rattle.axp_model.specs.Late.{code_held, held}
use Rattle.axp_model.specs.Memory.{memory_byte, memory_source, newest_waiting}
use Rattle.axp_model.specs.Processors.{IsInLine}
use Rattle.axp_model.specs.Accesses.{accesses, times}
use Rattle.axp_access.specs.Numbering.{NumberedAccess, next_access}
use Rattle.axp_model.specs.Sources.{byte_of_source, source_byte, source_value}
use Rattle.axp_model.specs.Turns.{code_stamp, read_place, stamp, turns}
use Rattle.axp_laws.proofs.SourceClosedForm.{fetch_source, read_source}
use Rattle.axp_laws.proofs.RunRecords.{line_at-number}
use Rattle.axp_laws.proofs.OrderCounts.{stamp_most}
use Rattle.axp_laws.proofs.SourceCopies.{held_memory}
use Rattle.axp_laws.proofs.RunFacts.{Fitting}
use Rattle.axp_laws.proofs.SourceRuns.{none_waits}
use Rattle.axp_regs.specs.declared.asks.Kind.{Kind}
use Rattle.axp_regs.specs.declared.asks.Kind.TheVariants as kind
use Rattle.axp_wbuf.specs.Pending.{overlaid}
use Rattle.axp_world.proofs.Agreement.{BanksAgree, BufferAgrees, HasMemory, byte_or}
use Rattle.axp_world.proofs.BusWrites.{data_of-bytes}
use Rattle.axp_world.proofs.BusLines.{length_from}

-- numbers of the same bytes at two places
number_at_moved : (f g : ℕ → ℕ) (a b n : ℕ) → ((k : ℕ) → k < n → f (a + k) ≡ g (b + k)) → number_at f a n ≡ number_at g b n
unfolding number_at
number_at_moved f g a b zero same = refl
number_at_moved f g a b (suc n) same =
    let low : number_at f a n ≡ number_at g b n = number_at_moved f g a b n (λ k less. same k (omega (arith, less))) in
    let top : f (a + n) ≡ g (b + n) = same n (omega arith) in
    rw (low, top) refl

-- a part of a line's bytes is the number of the bytes at its addresses
line_part : (f : ℕ → ℕ) (bytes : List ℕ) (a s : ℕ) → IsInLine a s → ((at : ℕ) → line_of at ≡ line_of a → slice_index bytes (at % LINE_BYTES) ≡ f at) → part bytes (a % LINE_BYTES) s ≡ number_at f a s
line_part f bytes a s inside each =
    let within = inside.within in
    number_at_moved (slice_index bytes) f (a % LINE_BYTES) a s (λ k less.
    let place : a % LINE_BYTES + k ≡ (a + k) % LINE_BYTES = omega (arith, within, less) in
    ap (λ n. get_or bytes n 0) place ∙ each (a + k) (omega (arith, within, less)))

-- the part of a held copy, with what is put over it
copy_part : (image : ℕ → ℕ) (h : List Record) (f : ℕ → ℕ) (change : List ℕ → List ℕ) (a s turn : ℕ) (o : Option (ℕ × LineData)) → IsInLine a s → HasMemory image h (line_of a) o turn → is_some o ≡ true
    → ((bytes : List ℕ) (at : ℕ) → length bytes ≡ LINE_BYTES → line_of at ≡ line_of a → slice_index bytes (at % LINE_BYTES) ≡ memory_byte image h turn at → slice_index (change bytes) (at % LINE_BYTES) ≡ f at)
    → part_of o change (a % LINE_BYTES) s ≡ number_at f a s
copy_part image h f change a s turn None inside has some each = absurd (false≢true some)
copy_part image h f change a s turn (Some (stamp, d)) inside has some each =
    line_part f (change (bytes_of_line d)) a s inside (λ at line. each (bytes_of_line d) at d.whole line (has.1 at line))

-- and its stamp
copy_stamp : (image : ℕ → ℕ) (h : List Record) (l turn : ℕ) (o : Option (ℕ × LineData)) → HasMemory image h l o turn → is_some o ≡ true → stamp_or_none (option_map (λ s. s.0) o) ≡ turn
copy_stamp image h l turn None has some = absurd (false≢true some)
copy_stamp image h l turn (Some (stamp, d)) has some = has.0

-- the access that a read or fetch is to be
abbrev pub to_read : Kind → Cpu → ℕ → ℕ → ℕ → Access
to_read k c a s turn = record { cpu = c; kind = k; address = a; size = s; value = 0; yes = false; place = At turn }

-- a fetch
pub code_stamp_agrees : (image : ℕ → ℕ) (p l : ℕ) (h : List Record) (u : LocalMemory) → BanksAgree image p h u → code_held p l h ≡ true → stamp_or_none (stamp_of l u.code) ≡ code_stamp p l h
code_stamp_agrees image p l h u banks holds = copy_stamp image h l (code_stamp p l h) (get_of l u.code) (banks.code_memory l) (sym (held_get l u.code) ∙ banks.code_lines_held l ∙ holds)

pub fetched_agrees : (image : ℕ → ℕ) (c : Cpu) (w : Wanted) (h : List Record) (u : LocalMemory) → BanksAgree image (cpu_number c) h u → IsInLine w.address w.size → code_held (cpu_number c) (line_of w.address) h ≡ true
    → fetched_value w u ≡ source_value image h (next_access (accesses h) (to_read kind.Fetch c w.address w.size (code_stamp (cpu_number c) (line_of w.address) h)))
fetched_agrees image c w h u banks inside holds =
    let l : ℕ = line_of w.address in
    let n : ℕ = code_stamp (cpu_number c) l h in
    let v : NumberedAccess = next_access (accesses h) (to_read kind.Fetch c w.address w.size n) in
    copy_part image h (source_byte image h v) (λ bytes. bytes) w.address w.size n (get_of l u.code) inside (banks.code_memory l) (sym (held_get l u.code) ∙ banks.code_lines_held l ∙ holds)
    (λ bytes at whole line has. has ∙ sym (ap (byte_of_source image at) (fetch_source (times h) n at v (accesses h) refl refl refl)))

-- a plain read
pub stamp_agrees : (image : ℕ → ℕ) (p l : ℕ) (h : List Record) (u : LocalMemory) → BanksAgree image p h u → held p l h ≡ true → stamp_or_none (stamp_of l (data_copies l u)) ≡ stamp p l h
stamp_agrees image p l h u banks holds = copy_stamp image h l (stamp p l h) (get_of l (data_copies l u)) (banks.line_memory l) (sym (held_get l (data_copies l u)) ∙ banks.lines l ∙ holds)

over_source : (image : ℕ → ℕ) (at : ℕ) (o m : Option NumberedAccess) → byte_or o at (byte_of_source image at m) ≡ byte_of_source image at (option_or o m)
over_source image at None m = refl
over_source image at (Some u) m = refl

stamp_below : (p l : ℕ) (h : List Record) → stamp p l h ≤ read_place p l h
stamp_below p l h = omega arith

read_byte : (image : ℕ → ℕ) (c : Cpu) (a s at : ℕ) (h : List Record) → Fitting h → line_of at ≡ line_of a → held (cpu_number c) (line_of a) h ≡ true
    → byte_or (newest_waiting (cpu_number c) at h) at (memory_byte image h (stamp (cpu_number c) (line_of a) h) at)
    ≡ source_byte image h (next_access (accesses h) (to_read kind.Read c a s (read_place (cpu_number c) (line_of a) h))) at
read_byte image c a s at h fit line holds =
    let p : ℕ = cpu_number c in
    let v : NumberedAccess = next_access (accesses h) (to_read kind.Read c a s (read_place p (line_of a) h)) in
    let same : memory_source (times h) (read_place p (line_of a) h) at (accesses h) ≡ memory_source (times h) (stamp p (line_of a) h) at (accesses h) =
    subst (λ l. memory_source (times h) (read_place p l h) at (accesses h) ≡ memory_source (times h) (stamp p l h) at (accesses h)) line (held_memory h p at fit (rw line holds)) in
    let less : stamp p (line_of at) h ≤ read_place p (line_of a) h = subst (λ l. stamp p l h ≤ read_place p (line_of a) h) (sym line) (stamp_below p (line_of a) h) in
    let source = read_source h p at (read_place p (line_of a) h) v fit refl refl refl refl less (omega arith) (newest_waiting p at h) refl in
    over_source image at (newest_waiting p at h) (memory_source (times h) (stamp p (line_of a) h) at (accesses h))
    ∙ ap (λ m. byte_of_source image at (option_or (newest_waiting p at h) m)) (sym same)
    ∙ sym (ap (byte_of_source image at) source)

pub read_agrees : (image : ℕ → ℕ) (c : Cpu) (w : Wanted) (h : List Record) (u : LocalMemory) → Fitting h → BufferAgrees (cpu_number c) h u.buffer → BanksAgree image (cpu_number c) h u → IsInLine w.address w.size → held (cpu_number c) (line_of w.address) h ≡ true
    → read_value w u ≡ source_value image h (next_access (accesses h) (to_read kind.Read c w.address w.size (read_place (cpu_number c) (line_of w.address) h)))
read_agrees image c w h u fit buffers banks inside holds =
    let p : ℕ = cpu_number c in
    let l : ℕ = line_of w.address in
    let v : NumberedAccess = next_access (accesses h) (to_read kind.Read c w.address w.size (read_place p l h)) in
    copy_part image h (source_byte image h v) (overlaid l u.buffer.kept) w.address w.size (stamp p l h) (get_of l (data_copies l u)) inside (banks.line_memory l) (sym (held_get l (data_copies l u)) ∙ banks.lines l ∙ holds)
    (λ bytes at whole line has.
    subst (λ k. slice_index (overlaid k u.buffer.kept bytes) (at % LINE_BYTES) ≡ byte_or (newest_waiting p at h) at (slice_index bytes (at % LINE_BYTES))) line (buffers.over at bytes whole)
    ∙ ap (byte_or (newest_waiting p at h) at) has
    ∙ read_byte image c w.address w.size at h fit line holds)

-- a load-locked
bytes_from-at : (memory : ℕ → ℕ) (at n k : ℕ) → k < n → get_or (bytes_from memory at n) k 0 ≡ memory (at + k)
unfolding bytes_from
bytes_from-at memory at zero k less = absurd (omega (arith, less))
bytes_from-at memory at (suc n) zero less = ap memory (omega arith)
bytes_from-at memory at (suc n) (suc k) less = bytes_from-at memory (at + 1) n k (omega (arith, less)) ∙ ap memory (omega arith)

memory_line_byte : (memory : ℕ → ℕ) (a at : ℕ) → a < 2 ^ 64 → line_of at ≡ line_of a → slice_index (bytes_of_line (line_of_memory memory (line_at a))) (at % LINE_BYTES) ≡ memory at
memory_line_byte memory a at small line =
    ap (λ bytes. get_or bytes (at % LINE_BYTES) 0) (data_of-bytes (bytes_from memory (line_number (line_at a) * LINE_BYTES) LINE_BYTES) (length_from memory (line_number (line_at a) * LINE_BYTES) LINE_BYTES))
    ∙ bytes_from-at memory (line_number (line_at a) * LINE_BYTES) LINE_BYTES (at % LINE_BYTES) (omega arith)
    ∙ ap memory (omega (arith, line_at-number a small, line))

pub locked_agrees : (image memory : ℕ → ℕ) (c : Cpu) (w : Wanted) (h : List Record) → Fitting h → IsInLine w.address w.size → has_line (line_of w.address) (buffer (cpu_number c) h).waiting ≡ false → ((at : ℕ) → memory at ≡ memory_byte image h (turns h) at)
    → part (bytes_of_line (line_of_memory memory (line_at w.address))) (w.address % LINE_BYTES) w.size ≡ source_value image h (next_access (accesses h) (to_read kind.Locked c w.address w.size (turns h)))
locked_agrees image memory c w h fit inside none same =
    let p : ℕ = cpu_number c in
    let v : NumberedAccess = next_access (accesses h) (to_read kind.Locked c w.address w.size (turns h)) in
    line_part (source_byte image h v) (bytes_of_line (line_of_memory memory (line_at w.address))) w.address w.size inside
    (λ at line.
    memory_line_byte memory w.address at inside.addressed line
    ∙ same at
    ∙ sym (ap (byte_of_source image at) (read_source h p at (turns h) v fit refl refl refl refl (stamp_most p (line_of at) h) (omega arith) None (none_waits h p at fit (rw line none)))))
