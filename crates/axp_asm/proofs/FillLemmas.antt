-- Statements with bytes fill a segment.
use Rattle.std.proofs.Common.{◌≡◌, ℕ, suc, ◌+◌, ◌≤◌, List, [], ◌∷◌, ◌++◌, length, map, Some, refl, ap, ◌∙◌, append_assoc, arith}
use Rattle.std.specs.Int.{w32, to_le_bytes}
use Rattle.std.specs.List.{flat_map}
use Rattle.std.proofs.lemmas.Bool.{le-leb}
use Rattle.std.proofs.lemmas.List.{append-nil, length-append}
use Rattle.axp_image.specs.Contents.{Contents, segment_of}
use Rattle.axp_decode.specs.Format.{word_of}
use Rattle.axp_source.specs.Items.{Item, Directs, Instruction}
use Rattle.axp_source.specs.declared.statements.Directive.TheVariants as directive
use Rattle.axp_asm.specs.Lines.{Lines}
use Rattle.axp_asm.specs.Labels.{Named}
use Rattle.axp_asm.specs.Drafts.{Draft, draft, with_bytes, with_item}
use Rattle.axp_asm.specs.Sources.{image_behind}

-- the bytes that a statement puts into memory, without those of branches to labels
abbrev pub bytes_of : Item → List ℕ
bytes_of (Directs (directive.Byte b)) = b ∷ []
bytes_of (Directs (directive.Word w)) = to_le_bytes w32 w
bytes_of (Instruction i) = to_le_bytes w32 (word_of i)
bytes_of _ = []

-- a statement that puts its bytes into memory, whatever stands around it
pub record Puts (item : Item) : Type 0 where
  pub bytes : (labels : List Named) (line : ℕ) (rest : Lines) (d : Draft) → with_item labels line rest d item ≡ with_bytes d (bytes_of item)

abbrev pub AllPut : List Item → Type 0
AllPut [] = Unit {0}
AllPut (item ∷ rest) = Puts item × AllPut rest

-- the segment at an address with these bytes, behind an image
abbrev pub filled_to : Contents → ℕ → List ℕ → Draft
filled_to image address bytes = draft image (Some (segment_of address bytes))

bytes_fit : (image : Contents) (address : ℕ) (front back : List ℕ) → address + length (front ++ back) ≤ image.size → with_bytes (filled_to image address front) back ≡ Some (filled_to image address (front ++ back))
bytes_fit image address front back fits = let sum = length-append front back in rw (le-leb (address + length front + length back) image.size (omega arith)) refl

-- statements fill a segment with their bytes
pub segment_fills : (labels : List Named) (line : ℕ) (image : Contents) (address : ℕ) (front : List ℕ) (items : List Item) (rest : Lines) → AllPut items
    → address + length (front ++ flat_map bytes_of items) ≤ image.size
    → image_behind labels line (filled_to image address front) (map Some items ++ rest) ≡ image_behind labels (line + length items) (filled_to image address (front ++ flat_map bytes_of items)) rest
segment_fills labels line image address front [] rest put fits = let none : line + 0 ≡ line = omega arith in rw (append-nil front, none) refl
segment_fills labels line image address front (item ∷ items) rest put fits =
    let bytes = bytes_of item in
    let behind = flat_map bytes_of items in
    let joined : (front ++ bytes) ++ behind ≡ front ++ (bytes ++ behind) = append_assoc front bytes behind in
    let all : length ((front ++ bytes) ++ behind) ≡ length (front ++ (bytes ++ behind)) = ap length joined in
    let some : length ((front ++ bytes) ++ behind) ≡ length (front ++ bytes) + length behind = length-append (front ++ bytes) behind in
    let first = put.0.bytes labels line (map Some items ++ rest) (filled_to image address front) ∙ bytes_fit image address front bytes (omega arith) in
    let others = segment_fills labels (line + 1) image address (front ++ bytes) items rest put.1 (omega arith) in
    let count : line + 1 + length items ≡ line + suc (length items) = omega arith in
    rw first (others ∙ rw (joined, count) refl)
