-- What an executable is read as is valid, and has the file's bytes.
use Rattle.std.proofs.Common.{◌≡◌, ℕ, zero, suc, ◌+◌, ◌%◌, ◌≤◌, Bool, true, false, cond, eqb, leb, List, [], ◌∷◌, ◌++◌, length, drop, Option, Some, None, refl, sym, subst, ◌∙◌, add-one, arith}
use Rattle.std.specs.Prelude.{All}
use Rattle.std.specs.Option.{option_or, is_none}
use Rattle.std.proofs.lemmas.Bool.{and_parts, eqb-true, leb-true}
use Rattle.std.proofs.lemmas.List.Elements.{All-nil, All-cons, All-append, filter-append}
use Rattle.axp_image.specs.declared.limits.TheConstants.{KSEG, INSTRUCTION_BYTES}
use Rattle.axp_image.specs.Contents.{Contents, contents, AreBytes, IsValid, last_end}
use Rattle.axp_image.specs.Grammar.{is_entry}
use Rattle.axp_image.specs.Faults.{number_in}
use Rattle.axp_image.proofs.ValidityLemmas.{guard_some}
use Rattle.axp_elf.specs.declared.faults.ElfField.{ElfField}
use Rattle.axp_elf.specs.declared.faults.ElfField.TheVariants as field
use Rattle.axp_elf.specs.declared.headers.ProgramHeader.{ProgramHeader}
use Rattle.axp_elf.specs.declared.layout.TheConstants.{ENTRY_AT, START_AT, COUNT_AT}
use Rattle.axp_elf.specs.Headers.{header_in, header_at, headers_in, headers_of, has_bytes, end_past, headers_with_bytes, segments_in, end_of_all}
use Rattle.axp_elf.specs.Faults.{Fault, Part, tested_part, fault_of, first_of, file_parts, header_parts, first_fault}
use Rattle.axp_elf.specs.Executables.{IsSetting, parts_fault, with_header, image_in, image_of}
use Rattle.axp_elf.proofs.PlacingLemmas.{bytes_within, valid_more}
use Rattle.axp_elf.proofs.LoadingLemmas.{Loads, first_of-append, none_loaded, next_first, header_passes}

-- ---- no fault

front_none : (front rest : Option Fault) → option_or front rest ≡ None → front ≡ None
front_none None rest none = refl
front_none (Some f) rest none = absurd cc

rest_none : (front rest : Option Fault) → option_or front rest ≡ None → rest ≡ None
rest_none None rest none = none
rest_none (Some f) rest none = absurd cc

pub without_fault : (bytes : List ℕ) (memory stack table : ℕ) (c : Contents) → image_of bytes memory stack table ≡ Some c
    → (first_fault bytes memory ≡ None) × (c ≡ image_in bytes memory stack table)
unfolding image_of
without_fault bytes memory stack table c read =
    let passed = guard_some (is_none (first_fault bytes memory)) (image_in bytes memory stack table) c read in
    (none_is (first_fault bytes memory) passed.0, sym passed.1)
  where
    none_is : (o : Option Fault) → is_none o ≡ true → o ≡ None
    none_is None is = refl
    none_is (Some f) is = absurd cc

-- what is behind so many parts of a file without a fault has none
drop_none : (k len : ℕ) (ps : List Part) → first_of len ps ≡ None → first_of len (drop k ps) ≡ None
drop_none zero len ps none = none
drop_none (suc k) len [] none = refl
drop_none (suc k) len (p ∷ ps) none = drop_none k len ps (rest_none (fault_of len p) (first_of len ps) none)

test_passes : (len at size : ℕ) (f : ElfField) (passes : Bool) → fault_of len (tested_part at size f passes) ≡ None → passes ≡ true
test_passes len at size f true none = refl
test_passes len at size f false none = absurd (grind arith)

-- where the file header has no fault, its entry is one that an image may have
entry_passes : (bytes : List ℕ) (memory : ℕ) → first_of (length bytes) (file_parts bytes memory) ≡ None → is_entry memory (number_in bytes ENTRY_AT 8) ≡ true
entry_passes bytes memory none =
    let len = length bytes in
    let from_entry = drop_none 7 len (file_parts bytes memory) none in
    let passes = is_entry memory (number_in bytes ENTRY_AT 8) in
    test_passes len ENTRY_AT 8 field.Entry passes (front_none (fault_of len (tested_part ENTRY_AT 8 field.Entry passes)) (first_of len (drop 8 (file_parts bytes memory))) from_entry)

start_valid : (memory entry stack table : ℕ) → IsSetting memory stack table → is_entry memory entry ≡ true → IsValid (contents memory entry stack table [])
start_valid memory entry stack table setting good =
    let aligned = and_parts (eqb (entry % INSTRUCTION_BYTES) 0) _ good in
    let limits = and_parts (leb KSEG entry) _ aligned.1 in
    record {
      whole_pages = setting.whole_pages;
      least_size = setting.least_memory;
      most_size = setting.most_memory;
      entry_aligned = eqb-true _ _ aligned.0;
      least_entry = leb-true _ _ limits.0;
      most_entry = leb-true _ _ limits.1;
      stack_word = setting.stack_word;
      table_page = setting.table_page;
      count = omega arith;
      placed = tt;
    }

-- ---- headers without a fault

-- a property of an image, the end of the last loaded header, and the headers that it was loaded by, is kept by one more
abbrev pub IsKept : List ℕ → (Contents → ℕ → List ProgramHeader → Type 0) → Type 0
IsKept bytes P = (c : Contents) (from at : ℕ) (headers : List ProgramHeader) → parts_fault bytes c from at ≡ None → last_end c.segments ≤ from → P c from headers
    → P (with_header bytes c (header_in bytes at)) (end_past from (header_in bytes at)) (headers ++ header_in bytes at ∷ [])

-- it holds behind so many more headers without a fault
kept_after : (P : Contents → ℕ → List ProgramHeader → Type 0) (k : ℕ) (bytes : List ℕ) (memory entry stack table start count n : ℕ) (c : Contents) (from : ℕ) → n + k ≡ count
    → IsKept bytes P → Loads bytes memory entry stack table start count n c from None → P c from (headers_in bytes start n)
    → let headers = headers_in bytes start count in P (contents memory entry stack table (segments_in bytes headers)) (end_of_all headers) headers
kept_after P zero bytes memory entry stack table start count n c from is kept loads holds =
    let same : n ≡ count = omega arith in
    let front = headers_in bytes start n in
    subst (λ (m : ℕ). P (contents memory entry stack table (segments_in bytes (headers_in bytes start m))) (end_of_all (headers_in bytes start m)) (headers_in bytes start m)) same
    (subst (λ (x : Contents). P x (end_of_all front) front) loads.image (subst (λ (x : ℕ). P c x front) loads.end holds))
kept_after P (suc k) bytes memory entry stack table start count n c from is kept loads holds =
    let h = header_in bytes (header_at start n) in
    let next = next_first bytes memory entry stack table start count n c from None loads (omega arith) in
    let none = front_none (parts_fault bytes c from (header_at start n)) _ next in
    let more = header_passes bytes memory entry stack table start count n c from None (with_header bytes c h) (end_past from h) loads (omega arith) none refl refl in
    kept_after P k bytes memory entry stack table start count (n + 1) (with_header bytes c h) (end_past from h) (omega arith) kept more
    (rw add-one (kept c from (header_at start n) (headers_in bytes start n) none loads.behind holds))

-- it holds of an executable, where it holds before any header
pub kept_by_all : (P : Contents → ℕ → List ProgramHeader → Type 0) (bytes : List ℕ) (memory stack table : ℕ) (c : Contents) → IsKept bytes P → image_of bytes memory stack table ≡ Some c
    → (is_entry memory (number_in bytes ENTRY_AT 8) ≡ true → P (contents memory (number_in bytes ENTRY_AT 8) stack table []) 0 [])
    → P c (end_of_all (headers_of bytes)) (headers_of bytes)
unfolding first_fault
kept_by_all P bytes memory stack table c kept read holds =
    let len = length bytes in
    let start = number_in bytes START_AT 8 in
    let count = number_in bytes COUNT_AT 2 in
    let entry = number_in bytes ENTRY_AT 8 in
    let no = without_fault bytes memory stack table c read in
    let file = first_of len (file_parts bytes memory) in
    let headers = first_of len (header_parts bytes memory start 0 count) in
    let parts : option_or file headers ≡ None = sym (first_of-append len (file_parts bytes memory) (header_parts bytes memory start 0 count)) ∙ no.0 in
    let first : Contents = contents memory entry stack table [] in
    let loads = none_loaded bytes memory entry stack table start count first None refl (rest_none file headers parts) in
    let good = entry_passes bytes memory (front_none file headers parts) in
    subst (λ (x : Contents). P x (end_of_all (headers_of bytes)) (headers_of bytes)) (sym no.1) (kept_after P count bytes memory entry stack table start count 0 first 0 (omega arith) kept loads (holds good))

-- ---- the image

abbrev pub IsInFile : List ℕ → ProgramHeader → Type 0
IsInFile bytes h = h.offset + h.file_size ≤ length bytes

-- an image is valid, and the bytes of the headers that it was loaded by are the file's
pub record IsSound (bytes : List ℕ) (c : Contents) (from : ℕ) (headers : List ProgramHeader) : Type 0 where
  pub valid : IsValid c
  pub in_file : All (IsInFile bytes) (headers_with_bytes headers)

in_file_alone : (bytes : List ℕ) (h : ProgramHeader) (b : Bool) → (b ≡ true → IsInFile bytes h) → All (IsInFile bytes) (cond b (h ∷ []) [])
in_file_alone bytes h true within = All-cons (IsInFile bytes) h [] (within refl) (All-nil (IsInFile bytes))
in_file_alone bytes h false within = All-nil (IsInFile bytes)

sound_kept : (bytes : List ℕ) → AreBytes bytes → IsKept bytes (IsSound bytes)
sound_kept bytes all c from at headers none behind sound =
    let h = header_in bytes at in
    let within = bytes_within (length bytes) c.size from (length c.segments) at h none in
    record {
      valid = valid_more bytes c from at all none behind sound.valid;
      in_file = rw (filter-append has_bytes headers (h ∷ [])) (All-append (IsInFile bytes) (headers_with_bytes headers) (headers_with_bytes (h ∷ [])) sound.in_file (in_file_alone bytes h (has_bytes h) within));
    }

pub executable_sound : (bytes : List ℕ) (memory stack table : ℕ) (c : Contents) → AreBytes bytes → IsSetting memory stack table → image_of bytes memory stack table ≡ Some c
    → IsSound bytes c (end_of_all (headers_of bytes)) (headers_of bytes)
executable_sound bytes memory stack table c all setting read =
    kept_by_all (IsSound bytes) bytes memory stack table c (sound_kept bytes all) read
    (λ good. record { valid = start_valid memory (number_in bytes ENTRY_AT 8) stack table setting good; in_file = All-nil (IsInFile bytes) })

pub executable_valid : (bytes : List ℕ) (memory stack table : ℕ) (c : Contents) → AreBytes bytes → IsSetting memory stack table → image_of bytes memory stack table ≡ Some c → IsValid c
executable_valid bytes memory stack table c all setting read = (executable_sound bytes memory stack table c all setting read).valid
