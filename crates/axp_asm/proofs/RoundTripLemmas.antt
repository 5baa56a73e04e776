-- The listing of an image is a source that gives it.
use Rattle.std.proofs.Common.{◌≡◌, ◌≢◌, ℕ, ◌+◌, ◌/◌, ◌<◌, ◌≤◌, true, ltb, List, [], ◌∷◌, ◌++◌, length, map, Option, Some, None, Result, Ok, refl, sym, ap, ◌∙◌, append_assoc, arith}
use Rattle.std.specs.List.{flat_map}
use Rattle.std.proofs.lemmas.Bool.{and_from, eq-eqb, le-leb, lt-ltb, ne_eqb}
use Rattle.std.proofs.lemmas.List.{append-nil, length-append, map-append}
use Rattle.axp_image.specs.Contents.{Contents, Segment, contents, with_segment, ArePlaced, IsPlaced, IsValid}
use Rattle.axp_image.specs.Grammar.{is_memory_size, is_entry}
use Rattle.axp_image.specs.declared.limits.TheConstants.{PAGE_BYTES, MAX_SEGMENTS}
use Rattle.axp_trace.specs.declared.files.TheConstants.{LINE_FEED}
use Rattle.axp_trace.specs.Files.{lines_of}
use Rattle.axp_trace.proofs.FileLemmas.{lines_of-begin}
use Rattle.axp_source.specs.Items.{Item}
use Rattle.axp_source.specs.Texts.{item_text}
use Rattle.axp_source.proofs.BackLemmas.{item_back}
use Rattle.axp_source.proofs.WholeLemmas.{whole_item}
use Rattle.axp_asm.specs.declared.layout.TheConstants.{BODY_LINE}
use Rattle.axp_asm.specs.Lines.{Lines, first_formless, said_in}
use Rattle.axp_asm.specs.Labels.{Named, labels_of}
use Rattle.axp_asm.specs.Drafts.{Draft, closed, draft, end_of_draft, may_begin, with_last}
use Rattle.axp_asm.specs.Heads.{head_of}
use Rattle.axp_asm.specs.Sources.{assembled, image_behind, of_lines}
use Rattle.axp_asm.specs.Listings.{content_listed, head_listed, items_of, line_of, listing, segment_listed}
use Rattle.axp_asm.proofs.FillLemmas.{bytes_of, filled_to, segment_fills}
use Rattle.axp_asm.proofs.ListedLemmas.{AllFit, content_begins, content_is_listed, items_fit}

-- ---- lines

-- the lines of statements say them
said_back : (items : List Item) → AllFit items → said_in (flat_map line_of items) ≡ map Some items
unfolding said_in
said_back [] fit = refl
said_back (item ∷ items) fit =
    let rest = flat_map line_of items in
    let text : line_of item ++ rest ≡ item_text item ++ LINE_FEED ∷ rest = append_assoc (item_text item) (LINE_FEED ∷ []) rest in
    let lines : lines_of (line_of item ++ rest) ≡ Some (item_text item) ∷ lines_of rest = ap lines_of text ∙ lines_of-begin (item_text item) rest (whole_item item fit.0) in
    rw (lines, item_back item fit.0) (ap (λ (ls : Lines). Some item ∷ ls) (said_back items fit.1))

none_formless : (line : ℕ) (items : List Item) → first_formless line (map Some items) ≡ None
none_formless line [] = refl
none_formless line (item ∷ items) = none_formless (line + 1) items

-- ---- the first four lines

head_back : (c : Contents) (rest : Lines) → IsValid c → head_of (map Some (head_listed c) ++ rest) ≡ Ok (contents c.size c.entry c.stack c.table [], rest)
unfolding head_of
head_back c rest valid =
    let size : is_memory_size c.size ≡ true = and_from _ _ (eq-eqb _ _ valid.whole_pages) (and_from _ _ (le-leb _ _ valid.least_size) (le-leb _ _ valid.most_size)) in
    let entry : is_entry c.size c.entry ≡ true = and_from _ _ (eq-eqb _ _ valid.entry_aligned) (and_from _ _ (le-leb _ _ valid.least_entry) (le-leb _ _ valid.most_entry)) in
    let table : ltb c.table (c.size / PAGE_BYTES) ≡ true = lt-ltb _ _ valid.table_page in
    rw (size, entry, table) refl

-- ---- segments

-- an image with more segments
abbrev with_segments : Contents → List Segment → Contents
with_segments c segments = contents c.size c.entry c.stack c.table (c.segments ++ segments)

closed_full : (c : Contents) (s : Segment) → 1 ≤ length s.bytes → with_last c (Some s) ≡ with_segment c s
closed_full c s some = let has : length s.bytes ≢ 0 = omega arith in rw (ne_eqb (length s.bytes) 0 has) refl

-- a placed segment may begin
begins : (d : Draft) (s : Segment) (rest : Lines) → IsPlaced d.image.size (end_of_draft d) s → length (closed d).segments < MAX_SEGMENTS
    → may_begin (map Some (content_listed s) ++ rest) d s.address ≡ true
begins d s rest placed room =
    let inside : s.address < d.image.size = omega (arith, placed.within, placed.not_empty) in
    and_from _ _ (le-leb _ _ placed.above) (and_from _ _ (lt-ltb _ _ inside) (and_from _ _ (lt-ltb _ _ room) (content_begins s rest placed.bytes placed.not_empty)))

segments_behind : (labels : List Named) (line : ℕ) (d : Draft) (segments : List Segment) → ArePlaced d.image.size (end_of_draft d) segments → (closed d).size ≡ d.image.size
    → length (closed d).segments + length segments ≤ MAX_SEGMENTS
    → image_behind labels line d (map Some (flat_map segment_listed segments)) ≡ Ok (with_segments (closed d) segments)
segments_behind labels line d [] placed same room = ap Ok (ap (λ (all : List Segment). contents (closed d).size (closed d).entry (closed d).stack (closed d).table all) (sym (append-nil (closed d).segments)))
segments_behind labels line d (s ∷ segments) placed same room =
    let image = closed d in
    let others : Lines = map Some (flat_map segment_listed segments) in
    let listed = content_is_listed s placed.0.bytes in
    let split : map Some (content_listed s ++ flat_map segment_listed segments) ≡ map Some (content_listed s) ++ others = map-append Some (content_listed s) (flat_map segment_listed segments) in
    let start = begins d s others placed.0 (omega (arith, room)) in
    let fits : s.address + length (flat_map bytes_of (content_listed s)) ≤ image.size = rw (listed.whole, same) placed.0.within in
    let filled = segment_fills labels (line + 1) image s.address [] (content_listed s) others listed.put fits in
    let next : Draft = draft image (Some s) in
    let whole : image_behind labels (line + 1 + length (content_listed s)) (filled_to image s.address (flat_map bytes_of (content_listed s))) others ≡ image_behind labels (line + 1 + length (content_listed s)) next others =
    rw (listed.whole) refl in
    let full : closed next ≡ with_segment image s = closed_full image s placed.0.not_empty in
    let longer = length-append image.segments (s ∷ []) in
    let rest = segments_behind labels (line + 1 + length (content_listed s)) next segments (rw same placed.1) (ap (λ (c : Contents). c.size) full)
    (rw full (omega (arith, longer, room))) in
    let joined : with_segments (closed next) segments ≡ with_segments image (s ∷ segments) =
    rw full (ap (λ (all : List Segment). contents image.size image.entry image.stack image.table all) (append_assoc image.segments (s ∷ []) segments)) in
    rw (split, start) (filled ∙ whole ∙ rest ∙ ap Ok joined)

-- ---- the whole

lines_assembled : (c : Contents) → IsValid c → (first : Option ℕ) → first ≡ None → (lines : Lines) → lines ≡ map Some (items_of c) → of_lines first lines ≡ Ok c
lines_assembled c valid first none lines are =
    let body : Lines = map Some (flat_map segment_listed c.segments) in
    let split : map Some (items_of c) ≡ map Some (head_listed c) ++ body = map-append Some (head_listed c) (flat_map segment_listed c.segments) in
    let blank : Draft = draft (contents c.size c.entry c.stack c.table []) None in
    rw (none, are, split, head_back c body valid) (segments_behind (labels_of 1 0 (map Some (head_listed c) ++ body)) BODY_LINE blank c.segments valid.placed refl (omega (arith, valid.count)))

pub listing_assembled : (c : Contents) → IsValid c → assembled (listing c) ≡ Ok c
unfolding assembled listing
listing_assembled c valid =
    let said = said_back (items_of c) (items_fit c valid) in
    lines_assembled c valid (first_formless 1 (said_in (flat_map line_of (items_of c)))) (ap (first_formless 1) said ∙ none_formless 1 (items_of c)) (said_in (flat_map line_of (items_of c))) said

abbrev Gives : Contents → Contents → Type 0
Gives c d = assembled (listing c) ≡ Ok d

same_image : (c d : Contents) (answer : Result Contents ℕ) → answer ≡ Ok c → answer ≡ Ok d → c ≡ d
same_image c d answer is other = cc

pub listings_apart : (c d : Contents) → IsValid c → IsValid d → listing c ≡ listing d → c ≡ d
listings_apart c d good fine same =
    let other : Gives c d = rw same (listing_assembled d fine) in
    same_image c d (assembled (listing c)) (listing_assembled c good) other
