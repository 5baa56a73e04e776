-- A store's steps in the code are the store.
use Rattle.std.proofs.Common.{◌≡◌, ℕ, ◌+◌, ◌/◌, true, false, cond, List, [], ◌∷◌, ◌++◌, length, drop, nat_lt, refl, ap, sym, subst, ◌∙◌}
use Rattle.std.specs.List.{list_any, refill}
use Rattle.std.proofs.lemmas.Bool.{or_left, or_right}
use Rattle.std.proofs.lemmas.List.{take_at, map_push, length-map}
use Rattle.axp_base.specs.declared.lines.TheConstants.{LINE_BYTES}
use Rattle.axp_wbuf.specs.Pending.{Pending, Buffer, IsTidy, is_at, made_by, put_into, store_number, stored, with_store}
use Rattle.axp_wbuf.specs.Views.{pending, all_pending, buffer_of}
use Rattle.axp_wbuf.specs.declared.entries.Entry.{Entry}
use Rattle.axp_base.specs.declared.limits.TheConstants.{WBUF_ENTRIES}
use Rattle.axp_wbuf.proofs.Orders.{tidy_stored}
use Rattle.axp_wbuf.proofs.Places.{absent_number, absent_put}

refilled : (es fs : List Entry) → length fs ≡ length es → refill (length es) es fs ≡ fs
refilled es fs same = take_at fs (drop (length fs) es) (length es) same

same_buffer : (ks ls : List Pending) (m n newest : ℕ) → ks ≡ ls → m ≡ n → ◌≡◌ {A = Buffer} (record { kept = ks; made = m; newest = newest }) (record { kept = ls; made = n; newest = newest })
same_buffer ks ls m n newest p q =
    let first : ◌≡◌ {A = Buffer} (record { kept = ks; made = m; newest = newest }) (record { kept = ls; made = m; newest = newest }) = ap (λ k. record { kept = k; made = m; newest = newest }) p in
    let second : ◌≡◌ {A = Buffer} (record { kept = ls; made = m; newest = newest }) (record { kept = ls; made = n; newest = newest }) = ap (λ k. record { kept = ls; made = k; newest = newest }) q in
    first ∙ second

merged_is : (address size value made newest : ℕ) (es fs : List Entry) → true ≡ list_any (is_at newest (address / LINE_BYTES)) (all_pending es) → ((new : Pending) → all_pending fs ≡ put_into newest (address / LINE_BYTES) (with_store address size value) new (all_pending es)) → buffer_of fs made newest ≡ stored address size value (buffer_of es made newest)
merged_is address size value made newest es fs any kept =
    same_buffer (all_pending fs) _ made _ newest (kept (made_by (made + 1) newest address size value)) (ap (λ b. cond b made (made + 1)) any)

pub tidy_merged : (address size value made newest : ℕ) (es ds fs : List Entry) → IsTidy (buffer_of es made newest) → ds ≡ es → length fs ≡ length ds → true ≡ list_any (is_at newest (address / LINE_BYTES)) (all_pending ds) → ((new : Pending) → all_pending fs ≡ put_into newest (address / LINE_BYTES) (with_store address size value) new (all_pending ds)) → IsTidy (buffer_of (refill (length es) es fs) made newest)
tidy_merged address size value made newest es ds fs tidy begins same any kept =
    let any_es : true ≡ list_any (is_at newest (address / LINE_BYTES)) (all_pending es) = subst (λ xs. true ≡ list_any (is_at newest (address / LINE_BYTES)) (all_pending xs)) begins any in
    let kept_es : (new : Pending) → all_pending fs ≡ put_into newest (address / LINE_BYTES) (with_store address size value) new (all_pending es) = λ new. subst (λ xs. all_pending fs ≡ put_into newest (address / LINE_BYTES) (with_store address size value) new (all_pending xs)) begins (kept new) in
    let whole : refill (length es) es fs ≡ fs = refilled es fs (same ∙ ap length begins) in
    let is : buffer_of (refill (length es) es fs) made newest ≡ stored address size value (buffer_of es made newest) = ap (λ xs. buffer_of xs made newest) whole ∙ merged_is address size value made newest es fs any_es kept_es in
    subst IsTidy (sym is) (tidy_stored address size value (buffer_of es made newest) (or_left _ _ (sym any_es)) tidy)

-- one entry more behind the entries of the code, and how many there are
pub pushed_pending : (es : List Entry) (e : Entry) → all_pending (es ++ e ∷ []) ≡ all_pending es ++ pending e ∷ []
pushed_pending es e = map_push pending es e

pub as_many_pending : (es : List Entry) → length (all_pending es) ≡ length es
as_many_pending es = length-map es pending

-- what the code keeps after a new entry was put behind the others
pub record Appended (address size value made newest : ℕ) (es ds fs gs : List Entry) : Type 0 where
  pub begins : ds ≡ es
  pub unchanged : fs ≡ ds
  pub none : false ≡ list_any (is_at newest (address / LINE_BYTES)) (all_pending ds)
  pub kept : all_pending gs ≡ all_pending (refill (length es) es fs) ++ made_by (made + 1) newest address size value ∷ []

pub appended_none : (address size value made newest : ℕ) (es ds fs gs : List Entry) → Appended address size value made newest es ds fs gs → list_any (is_at newest (address / LINE_BYTES)) (all_pending es) ≡ false
appended_none address size value made newest es ds fs gs h = sym (subst (λ xs. false ≡ list_any (is_at newest (address / LINE_BYTES)) (all_pending xs)) h.begins h.none)

pub not_refilled : (es ds fs : List Entry) → ds ≡ es → fs ≡ ds → refill (length es) es fs ≡ es
not_refilled es ds fs begins unchanged = ap (refill (length es) es) (unchanged ∙ begins) ∙ refilled es es refl

pub appended_is : (address size value made newest : ℕ) (es ds fs gs : List Entry) → Appended address size value made newest es ds fs gs → buffer_of gs (made + 1) newest ≡ stored address size value (buffer_of es made newest)
appended_is address size value made newest es ds fs gs h =
    let none = appended_none address size value made newest es ds fs gs h in
    let new = made_by (made + 1) newest address size value in
    same_buffer (all_pending gs) _ (made + 1) _ newest
    (h.kept ∙ ap (λ xs. all_pending xs ++ new ∷ []) (not_refilled es ds fs h.begins h.unchanged) ∙ sym (absent_put newest (address / LINE_BYTES) (with_store address size value) new (all_pending es) none))
    (sym (ap (λ b. cond b made (made + 1)) none))

pub tidy_appended : (address size value made newest : ℕ) (es ds fs gs : List Entry) → IsTidy (buffer_of es made newest) → Appended address size value made newest es ds fs gs → nat_lt (length (all_pending (refill (length es) es fs))) WBUF_ENTRIES ≡ true → IsTidy (buffer_of gs (made + 1) newest)
tidy_appended address size value made newest es ds fs gs tidy h room =
    let less : nat_lt (length (all_pending es)) WBUF_ENTRIES ≡ true = subst (λ xs. nat_lt (length (all_pending xs)) WBUF_ENTRIES ≡ true) (not_refilled es ds fs h.begins h.unchanged) room in
    subst IsTidy (sym (appended_is address size value made newest es ds fs gs h)) (tidy_stored address size value (buffer_of es made newest) (or_right _ _ less) tidy)

pub store_number_new : (address size value made newest : ℕ) (es ds fs gs : List Entry) → Appended address size value made newest es ds fs gs → made + 1 ≡ store_number (address / LINE_BYTES) (buffer_of es made newest)
store_number_new address size value made newest es ds fs gs h =
    sym (absent_number newest (address / LINE_BYTES) (made + 1) (all_pending es) (appended_none address size value made newest es ds fs gs h))
