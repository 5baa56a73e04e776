-- A translation buffer is seen as the list of its entries, in the order in which they were put.
use Rattle.std.specs.Prelude.{ℕ, List, ◌≡◌, ◌∷◌, [], ◌++◌, Bool, true, false, not, ◌==◌, ◌&&◌, ◌||◌, if◌then◌else◌, length, filter, fold, All, Option, Some, None}
use Rattle.axp_pte.specs.Entries.{has_asm, pte_word}
use Rattle.axp_pte.specs.declared.entries.Pte.{Pte}
use Rattle.axp_tb.specs.declared.buffers.TheConstants.{TB_ENTRIES}
use Rattle.axp_tb.specs.declared.entries.TbEntry.{TbEntry}

-- an entry of this page that serves this address space: it was put for it, or has ASM
abbrev pub is_match : ℕ → ℕ → TbEntry → Bool
is_match page asn entry = (entry.page == page) && ((entry.asn == asn) || has_asm (pte_word entry.pte))

-- of the entries that match, the one that was put last takes the place of those before it
abbrev pub found : List TbEntry → ℕ → ℕ → Option Pte
found entries page asn = fold (λ earlier entry. if is_match page asn entry then Some entry.pte else earlier) None entries

-- an entry with this PTE matches, and none that was put later does
abbrev pub IsLastMatch : List TbEntry → ℕ → ℕ → Pte → Type 0
IsLastMatch entries page asn pte =
    (before : List TbEntry) × (entry : TbEntry) × (after : List TbEntry)
    × (entries ≡ before ++ entry ∷ after) × (is_match page asn entry ≡ true) × (entry.pte ≡ pte) × All (λ later. is_match page asn later ≡ false) after

-- a full buffer is emptied before an entry is put
abbrev pub with_put : List TbEntry → ℕ → ℕ → Pte → List TbEntry
with_put entries page asn pte =
    (if length entries == TB_ENTRIES then [] else entries) ++ record { page = page; asn = asn; pte = pte } ∷ []

-- only the entries with ASM
abbrev pub without_process : List TbEntry → List TbEntry
without_process entries = filter (λ entry. has_asm (pte_word entry.pte)) entries

-- only the entries that do not match
abbrev pub without_page : List TbEntry → ℕ → ℕ → List TbEntry
without_page entries page asn = filter (λ entry. not (is_match page asn entry)) entries
