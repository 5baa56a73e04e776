-- A map with text keys, seen as lists under names.
use Rattle.std.proofs.Common.{◌≡◌, ℕ, List, [], ◌∷◌, Some, refl, sym, ap, ◌∙◌, String, BTreeMap, string_bytes, cond}
use Rattle.std.proofs.lemmas.Map.Text.{is_eq-slice_cmp, btree_map_updates_text}
use Rattle.std.specs.BTreeMap as tree
use Rattle.std.specs.Cmp.Lexicographic.{slice_cmp}
use Rattle.std.specs.Map.{lookup}
use Rattle.std.specs.Ordering.{nat_cmp}
use Rattle.std.specs.Str.{bytes_eq}
use Rattle.std.specs.String.{string_cmp}
use Rattle.axp_io.specs.Lists.{named_in, list_under, PutUnder}

module _ {A : Type 0} where
  -- the list under a name is what the look-up by its bytes finds
  under_entries : (entries : List (String A × List ℕ)) (name : List ℕ) → list_under (named_in entries) name ≡ lookup (tree.is_at (λ k. slice_cmp nat_cmp name (string_bytes k))) entries
  under_entries [] name = refl
  under_entries (e ∷ es) name = rw (is_eq-slice_cmp name (string_bytes e.0), under_entries es name) refl

  pub list_under_is : (m : BTreeMap (String A) (List ℕ)) (name : List ℕ) → list_under (named_in m.entries) name ≡ tree.get_by_text m name
  list_under_is m name = under_entries m.entries name

  -- a map that was changed at a name's bytes alone has the list put under that name
  pub put_under : (key : String A) (name list : List ℕ) (old new : BTreeMap (String A) (List ℕ)) → string_bytes key ≡ name
      → tree.UpdatesBy string_cmp (λ k. slice_cmp nat_cmp (string_bytes key) (string_bytes k)) old new (Some list)
      → PutUnder (named_in old.entries) (named_in new.entries) name list
  put_under key name list old new same updates = λ n.
      list_under_is new n ∙ btree_map_updates_text (string_bytes key) old new (Some list) updates n
      ∙ ap (λ bytes. cond (bytes_eq bytes n) (Some list) (tree.get_by_text old n)) same
      ∙ ap (λ found. cond (bytes_eq name n) (Some list) found) (sym (list_under_is old n))
