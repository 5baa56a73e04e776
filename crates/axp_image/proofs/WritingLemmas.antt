-- A file is written part by part.
use Rattle.std.proofs.Common.{◌≡◌, ℕ, ◌+◌, ◌<◌, ◌≤◌, List, [], ◌∷◌, ◌++◌, length, take, slice_get, Some, refl, sym, ap, ◌∙◌, append_assoc, add-one, arith}
use Rattle.std.specs.List.{flat_map}
use Rattle.std.proofs.Math.Seq.{take-suc}
use Rattle.std.proofs.lemmas.List.{append-nil, take_all, length-append}
use Rattle.std.proofs.lemmas.Option.{slice_get_within, get_or_from_slice_get}
use Rattle.std.proofs.lemmas.Grind.{flat_map-append}
use Rattle.axp_image.specs.declared.limits.TheConstants.{MAX_SEGMENTS}
use Rattle.axp_image.specs.Contents.{Segment, end_of, end_after, last_end, Contents, IsPlaced, ArePlaced, IsValid, with_segment}

-- ---- one segment more in an image

-- a segment at or behind the end of the others
placed_behind : (size from : ℕ) (ss : List Segment) (s : Segment) → ArePlaced size from ss → IsPlaced size (end_after from ss) s → ArePlaced size from (ss ++ s ∷ [])
placed_behind size from [] s placed last = (last, tt)
placed_behind size from (x ∷ xs) s placed last = (placed.0, placed_behind size (end_of x) xs s placed.1 last)

pub valid_with : (c : Contents) (s : Segment) → IsValid c → length c.segments < MAX_SEGMENTS → IsPlaced c.size (last_end c.segments) s → IsValid (with_segment c s)
valid_with c s valid room placed = record {
  whole_pages = valid.whole_pages;
  least_size = valid.least_size;
  most_size = valid.most_size;
  entry_aligned = valid.entry_aligned;
  least_entry = valid.least_entry;
  most_entry = valid.most_entry;
  stack_word = valid.stack_word;
  table_page = valid.table_page;
  count = omega (arith, room, length-append c.segments (s ∷ []));
  placed = placed_behind c.size 0 c.segments s valid.placed placed;
}

-- ---- one segment more in a file

pub one_more : {X : Type 0} (f : X → List ℕ) (xs : List X) (n : ℕ) (x : X) (front file new : List ℕ) → slice_get xs n ≡ Some x
    → file ≡ front ++ flat_map f (take n xs) → new ≡ file ++ f x → new ≡ front ++ flat_map f (take (n + 1) xs)
one_more {X = X} f xs n x front file new at so_far pushed =
    let here : take (n + 1) xs ≡ take n xs ++ x ∷ [] = rw (add-one, take-suc xs n x (slice_get_within xs n x at), get_or_from_slice_get xs n x x at) refl in
    pushed ∙ ap (λ (t : List ℕ). t ++ f x) so_far ∙ append_assoc front (flat_map f (take n xs)) (f x)
    ∙ ap (λ (t : List ℕ). front ++ (flat_map f (take n xs) ++ t)) (sym (append-nil (f x)))
    ∙ ap (λ (t : List ℕ). front ++ t) (sym (flat_map-append f (take n xs) (x ∷ [])))
    ∙ ap (λ (ys : List X). front ++ flat_map f ys) (sym here)

pub all_put : {X : Type 0} (f : X → List ℕ) (xs : List X) (n : ℕ) (front file : List ℕ) → length xs ≤ n → file ≡ front ++ flat_map f (take n xs) → file ≡ front ++ flat_map f xs
all_put {X = X} f xs n front file le so_far = so_far ∙ ap (λ (ys : List X). front ++ flat_map f ys) (take_all n xs le)
