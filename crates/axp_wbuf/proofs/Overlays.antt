-- An overlay, byte by byte.
use Rattle.std.proofs.Common.{◌≡◌, ◌≢◌, ℕ, zero, suc, ◌+◌, ◌/◌, ◌%◌, ◌<◌, ◌≤◌, Bool, true, false, cond, eqb, List, [], ◌∷◌, ◌&&◌, ◌⊎◌, length, get_or, replicate, max, bit_or, arith, refl, ap, sym, ◌∙◌, Some, inl, inr, ⊎_elim}
use Rattle.std.specs.Prelude.{slice_get, slice_index}
use Rattle.std.specs.Int.{bit_at}
use Rattle.std.proofs.lemmas.Bool.{and_from, and_left, and_parts, and_right, cases_Bool, cases_lt, cond-false, eq-eqb, eqb-false, eqb-true, ne_eqb, true≢false}
use Rattle.std.proofs.lemmas.List.{length-replicate}
use Rattle.std.proofs.lemmas.Nat.Bits.{bit_at_or}
use Rattle.axp_base.specs.declared.lines.TheConstants.{LINE_BYTES}
use Rattle.axp_base.specs.Masks.{IsSize, has_bit, span_of}
use Rattle.axp_base.specs.Parts.{byte, with_part}
use Rattle.axp_base.proofs.MaskLemmas.{ends_inside}
use Rattle.axp_base.proofs.PartLemmas.{get_or-with_part, outside-with_part}
use Rattle.axp_base.proofs.SpanLemmas.{byte_place, span_has, span_inside}
use Rattle.axp_line.specs.Lines.{merged}
use Rattle.axp_line.proofs.MergeLemmas.{length-merged_below, merged_each}
use Rattle.axp_wbuf.specs.Pending.{AreInOrder, Buffer, IsTidy, Pending, PrecedesAll, has_byte, is_at, made_by, overlaid, put_into, stored, with_store}
use Rattle.axp_wbuf.proofs.Pairs.{precedes_at, same_entry}

-- byte n of a line after an entry was put over it, where it was v
abbrev pub byte_over : ℕ → ℕ → Pending → ℕ → ℕ
byte_over line n e v = cond (has_byte line n e) (get_or e.bytes n 0) v

unfoldable pub bytes_over : ℕ → ℕ → List Pending → ℕ → ℕ
bytes_over line n [] v = v
bytes_over line n (e ∷ es) v = bytes_over line n es (byte_over line n e v)

length_over : (b : Bool) (e : Pending) (bytes : List ℕ) → length (cond b (merged e.bits e.bytes bytes) bytes) ≡ length bytes
length_over true e bytes = length-merged_below LINE_BYTES e.bits e.bytes bytes
length_over false e bytes = refl

pub length-overlaid : (line : ℕ) (es : List Pending) (bytes : List ℕ) → length (overlaid line es bytes) ≡ length bytes
unfolding overlaid
length-overlaid line [] bytes = refl
length-overlaid line (e ∷ es) bytes = length-overlaid line es _ ∙ length_over (eqb e.line line) e bytes

over_at : (b : Bool) (n : ℕ) (e : Pending) (bytes : List ℕ) → LINE_BYTES ≤ length bytes → n < LINE_BYTES → get_or (cond b (merged e.bits e.bytes bytes) bytes) n 0 ≡ cond (b && has_bit e.bits n) (get_or e.bytes n 0) (get_or bytes n 0)
over_at true n e bytes whole inside = merged_each LINE_BYTES e.bits e.bytes bytes n whole inside
over_at false n e bytes whole inside = refl

pub overlaid_at : (line n : ℕ) (es : List Pending) (bytes : List ℕ) → LINE_BYTES ≤ length bytes → n < LINE_BYTES → get_or (overlaid line es bytes) n 0 ≡ bytes_over line n es (get_or bytes n 0)
unfolding overlaid bytes_over
overlaid_at line n [] bytes whole inside = refl
overlaid_at line n (e ∷ es) bytes whole inside =
    overlaid_at line n es (cond (eqb e.line line) (merged e.bits e.bytes bytes) bytes) (omega (arith, whole, length_over (eqb e.line line) e bytes)) inside
    ∙ ap (bytes_over line n es) (over_at (eqb e.line line) n e bytes whole inside)

-- entries that have not the byte leave it
pub quiet : (line n : ℕ) (es : List Pending) (v : ℕ) → ((j : ℕ) (f : Pending) → slice_get es j ≡ Some f → has_byte line n f ≡ false) → bytes_over line n es v ≡ v
unfolding bytes_over
quiet line n [] v none = refl
quiet line n (e ∷ es) v none =
    ap (λ b. bytes_over line n es (cond b (get_or e.bytes n 0) v)) (none 0 e refl) ∙ quiet line n es v (λ j f at. none (suc j) f at)

pub others_kept : (kept : List Pending) (line n : ℕ) (bytes : List ℕ) → LINE_BYTES ≤ length bytes → n < LINE_BYTES → ((j : ℕ) (f : Pending) → slice_get kept j ≡ Some f → has_byte line n f ≡ false) → slice_index (overlaid line kept bytes) n ≡ slice_index bytes n
others_kept kept line n bytes whole inside none = overlaid_at line n kept bytes whole inside ∙ quiet line n kept _ none

-- the last entry that has the byte gives it
pub last_gives : (made newest line n : ℕ) (es : List Pending) (k v : ℕ) (e : Pending) → AreInOrder made newest es → slice_get es k ≡ Some e → has_byte line n e ≡ true → ((j : ℕ) (f : Pending) → slice_get es j ≡ Some f → has_byte line n f ≡ true → f.number ≤ e.number) → bytes_over line n es v ≡ get_or e.bytes n 0
unfolding bytes_over
last_gives made newest line n [] k v e h is has last = absurd (true≢false cc)
last_gives made newest line n (g ∷ gs) zero v e h is has last =
    let one : g ≡ e = same_entry g e is in
    ap (λ b. bytes_over line n gs (cond b (get_or g.bytes n 0) v)) (ap (has_byte line n) one ∙ has)
    ∙ quiet line n gs _ (λ j f at.
    ⊎_elim
    (λ (yes_has : has_byte line n f ≡ true).
    let p = precedes_at g gs j f h.1.0 at in
    absurd (omega (arith, p.number, last (suc j) f at yes_has, ap (λ x. x.number) one)))
    (λ (not_has : has_byte line n f ≡ false). not_has)
    (cases_Bool (has_byte line n f)))
    ∙ ap (λ x. get_or x.bytes n 0) one
last_gives made newest line n (g ∷ gs) (suc k) v e h is has last =
    last_gives made newest line n gs k _ e h.1.1 is has (λ j f at. last (suc j) f at)

pub newest_gives : (b : Buffer) (k line n : ℕ) (e : Pending) (bytes : List ℕ) → IsTidy b → LINE_BYTES ≤ length bytes → n < LINE_BYTES → slice_get b.kept k ≡ Some e → has_byte line n e ≡ true → ((j : ℕ) (f : Pending) → slice_get b.kept j ≡ Some f → has_byte line n f ≡ true → f.number ≤ e.number) → slice_index (overlaid line b.kept bytes) n ≡ slice_index e.bytes n
newest_gives b k line n e bytes tidy whole inside is has last =
    overlaid_at line n b.kept bytes whole inside ∙ last_gives b.made b.newest line n b.kept k _ e tidy.order is has last

-- a store's bytes in an entry, and the other bytes there
pub has_joined : (bits address size n : ℕ) → has_bit (span_of address size) n ≡ true → has_bit (bit_or bits (span_of address size)) n ≡ true
has_joined bits address size n h =
    let one : bit_at (span_of address size) n ≡ 1 = eqb-true _ _ h in
    let joined : bit_at (bit_or bits (span_of address size)) n ≡ max (bit_at bits n) (bit_at (span_of address size) n) = bit_at_or bits (span_of address size) n in
    let small : bit_at bits n < 2 = omega arith in
    eq-eqb _ _ (omega (arith, one, joined, small))

pub has_other : (bits address size n : ℕ) → has_bit (span_of address size) n ≡ false → has_bit (bit_or bits (span_of address size)) n ≡ has_bit bits n
has_other bits address size n h =
    let joined : bit_at (bit_or bits (span_of address size)) n ≡ max (bit_at bits n) (bit_at (span_of address size) n) = bit_at_or bits (span_of address size) n in
    let small : bit_at (span_of address size) n < 2 = omega arith in
    let other = eqb-false _ _ h in
    let same : bit_at (bit_or bits (span_of address size)) n ≡ bit_at bits n = omega (arith, other, joined, small) in
    ap (λ b. eqb b 1) same

byte_put : (bytes : List ℕ) (address size value i : ℕ) → length bytes ≡ LINE_BYTES → IsSize size → address % size ≡ 0 → i < size → get_or (with_part bytes (address % LINE_BYTES) size value) ((address + i) % LINE_BYTES) 0 ≡ byte value i
byte_put bytes address size value i whole sized aligned inside =
    let place = (byte_place address size i sized aligned inside).1 in
    let ends = ends_inside address size sized aligned in
    ap (λ k. get_or (with_part bytes (address % LINE_BYTES) size value) k 0) place
    ∙ get_or-with_part bytes (address % LINE_BYTES) size value i (omega (arith, ends, whole)) inside

pub byte_left : (bytes : List ℕ) (address size value n : ℕ) → has_bit (span_of address size) n ≡ false → get_or (with_part bytes (address % LINE_BYTES) size value) n 0 ≡ get_or bytes n 0
byte_left bytes address size value n h =
    outside-with_part bytes (address % LINE_BYTES) size value n
    (⊎_elim
    (λ (below : n < address % LINE_BYTES). inl below)
    (λ (from : address % LINE_BYTES ≤ n).
    ⊎_elim
    (λ (within : n < address % LINE_BYTES + size). absurd (eqb-false _ _ h (span_inside address size n from within)))
    (λ (past : address % LINE_BYTES + size ≤ n). inr past)
    (cases_lt n (address % LINE_BYTES + size)))
    (cases_lt n (address % LINE_BYTES)))

over_same : (b : Bool) (x v w : ℕ) → b ≡ true → x ≡ w → cond b x v ≡ w
over_same b x v w h e = ap (λ c. cond c x v) h ∙ e

-- behind the newest group's entry of the line no other has a byte of it
quiet_behind : (made newest line n : ℕ) (e : Pending) (es : List Pending) (v : ℕ) → e.group ≡ newest → e.line ≡ line → PrecedesAll e es → AreInOrder made newest es → bytes_over line n es v ≡ v
unfolding bytes_over
quiet_behind made newest line n e [] v group same all h = refl
quiet_behind made newest line n e (f ∷ fs) v group same all h =
    let none : eqb f.line line ≡ false = ne_eqb _ _ (λ is. all.0.apart (omega (arith, all.0.group, h.0.group, group)) (same ∙ sym is)) in
    ap (λ b. bytes_over line n fs (cond b (get_or f.bytes n 0) v)) (and_left _ _ none) ∙ quiet_behind made newest line n e fs v group same all.1 h.1.1

hit_by : (b : Bool) (made newest address size value i v : ℕ) (new e : Pending) (es fs : List Pending) → IsSize size → address % size ≡ 0 → i < size → is_at newest (address / LINE_BYTES) e ≡ b → AreInOrder made newest (e ∷ es)
    → ((w : ℕ) → bytes_over (address / LINE_BYTES) ((address + i) % LINE_BYTES) fs w ≡ byte value i)
    → bytes_over (address / LINE_BYTES) ((address + i) % LINE_BYTES) (cond b (with_store address size value e ∷ es) (e ∷ fs)) v ≡ byte value i
unfolding bytes_over
hit_by true made newest address size value i v new e es fs sized aligned inside is h rest =
    let parts = and_parts _ _ is in
    quiet_behind made newest (address / LINE_BYTES) ((address + i) % LINE_BYTES) e es _ (eqb-true _ _ parts.0) (eqb-true _ _ parts.1) h.1.0 h.1.1
    ∙ over_same _ _ v _ (and_from _ _ parts.1 (has_joined e.bits address size _ (span_has address size i sized aligned inside))) (byte_put e.bytes address size value i h.0.whole sized aligned inside)
hit_by false made newest address size value i v new e es fs sized aligned inside is h rest = rest _

pub put_hits : (made newest number address size value i v : ℕ) (es : List Pending) → IsSize size → address % size ≡ 0 → i < size → AreInOrder made newest es → bytes_over (address / LINE_BYTES) ((address + i) % LINE_BYTES) (put_into newest (address / LINE_BYTES) (with_store address size value) (made_by number newest address size value) es) v ≡ byte value i
unfolding put_into bytes_over
put_hits made newest number address size value i v [] sized aligned inside h =
    over_same _ _ v _ (and_from _ _ (eq-eqb _ _ refl) (span_has address size i sized aligned inside)) (byte_put (replicate LINE_BYTES 0) address size value i (length-replicate {A = ℕ} LINE_BYTES 0) sized aligned inside)
put_hits made newest number address size value i v (e ∷ es) sized aligned inside h =
    hit_by (is_at newest (address / LINE_BYTES) e) made newest address size value i v (made_by number newest address size value) e es _ sized aligned inside refl h
    (λ w. put_hits made newest number address size value i w es sized aligned inside h.1.1)

pub stored_bytes : (b : Buffer) (address size value i : ℕ) (bytes : List ℕ) → IsTidy b → LINE_BYTES ≤ length bytes → IsSize size → address % size ≡ 0 → i < size → slice_index (overlaid (address / LINE_BYTES) (stored address size value b).kept bytes) ((address + i) % LINE_BYTES) ≡ byte value i
stored_bytes b address size value i bytes tidy whole sized aligned inside =
    overlaid_at (address / LINE_BYTES) ((address + i) % LINE_BYTES) (stored address size value b).kept bytes whole (omega arith)
    ∙ put_hits b.made b.newest (b.made + 1) address size value i _ b.kept sized aligned inside tidy.order

-- the bytes that a store has not
over_other : (line n address size value v : ℕ) (e : Pending) → e.line ≡ address / LINE_BYTES → (line ≢ address / LINE_BYTES) ⊎ (has_bit (span_of address size) n ≡ false) → byte_over line n (with_store address size value e) v ≡ byte_over line n e v
over_other line n address size value v e at other =
    ⊎_elim
    (λ (apart : line ≢ address / LINE_BYTES).
    let none : eqb e.line line ≡ false = ne_eqb _ _ (λ is. apart (sym is ∙ at)) in
    cond-false _ _ v (and_left _ _ none) ∙ sym (cond-false _ _ v (and_left _ _ none)))
    (λ (outside : has_bit (span_of address size) n ≡ false).
    ap (λ b. cond (eqb e.line line && b) (get_or (with_part e.bytes (address % LINE_BYTES) size value) n 0) v) (has_other e.bits address size n outside)
    ∙ ap (λ x. cond (eqb e.line line && has_bit e.bits n) x v) (byte_left e.bytes address size value n outside))
    other

over_new : (line n number group address size value v : ℕ) → (line ≢ address / LINE_BYTES) ⊎ (has_bit (span_of address size) n ≡ false) → byte_over line n (made_by number group address size value) v ≡ v
over_new line n number group address size value v other =
    let none : has_byte line n (made_by number group address size value) ≡ false =
    ⊎_elim
    (λ (apart : line ≢ address / LINE_BYTES). and_left _ _ (ne_eqb _ _ (λ is. apart (sym is))))
    (λ (outside : has_bit (span_of address size) n ≡ false). and_right _ _ outside)
    other in
    cond-false _ _ v none

other_by : (b : Bool) (newest line n address size value v : ℕ) (e : Pending) (es fs : List Pending) → is_at newest (address / LINE_BYTES) e ≡ b → (line ≢ address / LINE_BYTES) ⊎ (has_bit (span_of address size) n ≡ false)
    → ((w : ℕ) → bytes_over line n fs w ≡ bytes_over line n es w)
    → bytes_over line n (cond b (with_store address size value e ∷ es) (e ∷ fs)) v ≡ bytes_over line n (e ∷ es) v
unfolding bytes_over
other_by true newest line n address size value v e es fs is other rest = ap (bytes_over line n es) (over_other line n address size value v e (eqb-true _ _ (and_parts _ _ is).1) other)
other_by false newest line n address size value v e es fs is other rest = rest _

pub put_others : (newest number line n address size value v : ℕ) (es : List Pending) → (line ≢ address / LINE_BYTES) ⊎ (has_bit (span_of address size) n ≡ false) → bytes_over line n (put_into newest (address / LINE_BYTES) (with_store address size value) (made_by number newest address size value) es) v ≡ bytes_over line n es v
unfolding put_into bytes_over
put_others newest number line n address size value v [] other = over_new line n number newest address size value v other
put_others newest number line n address size value v (e ∷ es) other =
    other_by (is_at newest (address / LINE_BYTES) e) newest line n address size value v e es _ refl other (λ w. put_others newest number line n address size value w es other)

pub stored_others : (b : Buffer) (address size value line n : ℕ) (bytes : List ℕ) → LINE_BYTES ≤ length bytes → n < LINE_BYTES → (line ≢ address / LINE_BYTES) ⊎ (has_bit (span_of address size) n ≡ false) → slice_index (overlaid line (stored address size value b).kept bytes) n ≡ slice_index (overlaid line b.kept bytes) n
stored_others b address size value line n bytes whole inside other =
    overlaid_at line n (stored address size value b).kept bytes whole inside
    ∙ put_others b.newest (b.made + 1) line n address size value _ b.kept other
    ∙ sym (overlaid_at line n b.kept bytes whole inside)
