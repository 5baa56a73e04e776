-- Names that stand once, where a branch leads, and a source worked out by hand.
use Rattle.std.specs.Prelude.{◌≡◌, ◌≢◌, ℕ, ◌+◌, ◌*◌, nat_lt, if◌then◌else◌, List, [], ◌∷◌, ◌++◌, AllPairs, codes}
use Rattle.std.specs.List.{flat_map}
use Rattle.axp_image.specs.declared.limits.TheConstants.{INSTRUCTION_BYTES}
use Rattle.axp_image.specs.Contents.{Contents, contents, segment_of}
use Rattle.axp_trace.specs.declared.files.TheConstants.{LINE_FEED}
use Rattle.axp_source.specs.declared.numbers.TheConstants.{BRANCH_HALF}
use Rattle.axp_asm.specs.Labels.{Named, labels_of}
use Rattle.axp_asm.specs.Lines.{said_in}

-- no two labels have one name
abbrev pub AreNamedApart : List Named → Type 0
AreNamedApart labels = AllPairs (λ a b. a.name ≢ b.name) labels

-- the labels of a text, in the order of their lines
abbrev pub labels_in : List ℕ → List Named
labels_in text = labels_of 1 0 (said_in text)

-- a branch leads from the address behind it to a target: by as many instructions as its bits say, where from half of their range
-- on they stand for a negative number
abbrev pub Leads : ℕ → ℕ → ℕ → Type 0
Leads from bits target = from + INSTRUCTION_BYTES * bits ≡ target + (if nat_lt bits BRANCH_HALF then 0 else INSTRUCTION_BYTES * (2 * BRANCH_HALF))

-- the text of lines
abbrev pub text_of : List (List ℕ) → List ℕ
text_of lines = flat_map (λ line. line ++ LINE_FEED ∷ []) lines

-- four first lines
abbrev pub first_lines : List (List ℕ)
first_lines = codes ".memory 32768" ∷ codes ".entry FFFFFC0000002000" ∷ codes ".stack FFFFFC0000004000" ∷ codes ".table 0" ∷ []

-- the text of these and others behind them
abbrev pub text_behind : List (List ℕ) → List ℕ
text_behind lines = text_of (first_lines ++ lines)

-- a load-locked and a store-conditional
abbrev pub locked_text : List ℕ
locked_text = text_behind (codes ".at 00002000" ∷ codes "LDQ_L R1,0(R30)" ∷ codes "STQ_C R1,16(R30)" ∷ codes "halt" ∷ [])

-- the image of the four first lines, with bytes at one address
abbrev pub image_with : ℕ → List ℕ → Contents
image_with address bytes = contents 32768 0xFFFFFC0000002000 0xFFFFFC0000004000 0 (segment_of address bytes ∷ [])

abbrev pub locked_image : Contents
locked_image = image_with 0x2000 (0 ∷ 0 ∷ 0x3E ∷ 0xAC ∷ 0x10 ∷ 0 ∷ 0x3E ∷ 0xBC ∷ 0 ∷ 0 ∷ 0 ∷ 0 ∷ [])

-- a branch to a label behind it, and one to a label before it
abbrev pub labelled_text : List ℕ
labelled_text = text_behind (codes ".at 00000100" ∷ codes "BR R31,end" ∷ codes "again:" ∷ codes "halt" ∷ codes "end:" ∷ codes "BEQ R0,again" ∷ [])

abbrev pub labelled_image : Contents
labelled_image = image_with 0x100 (0x01 ∷ 0 ∷ 0xE0 ∷ 0xC3 ∷ 0 ∷ 0 ∷ 0 ∷ 0 ∷ 0xFE ∷ 0xFF ∷ 0x1F ∷ 0xE4 ∷ [])
