-- No causal loop, over a list of accesses.
use Rattle.std.specs.Prelude.{◌≡◌, ◌⊎◌, ℕ, zero, suc, ◌+◌, ◌==◌, Bool, true, false, ◌&&◌, ◌||◌, Contains, List, [], ◌∷◌, length, Option, Some}
use Rattle.std.specs.List.{list_any}
use Rattle.std.specs.Option.{option_map, option_map_or}
use Rattle.axp_access.specs.Kinds.{is_memory_write, has_byte}
use Rattle.axp_access.specs.Numbering.{NumberedAccess}
use Rattle.axp_access.specs.Order.{Times, precedes}
use Rattle.axp_model.specs.Causality.{MayGoInto}
use Rattle.axp_model.specs.Sources.{source, takes_bytes}
use Rattle.axp_order.specs.Oldest.{oldest_that}

-- u is the source of one of v's n bytes from byte k on
abbrev pub gives_from : Times → List NumberedAccess → NumberedAccess → NumberedAccess → ℕ → ℕ → Bool
gives_from t us u v zero k = false
gives_from t us u v (suc n) k = option_map_or (λ w. w.number == u.number) (source t (v.access.address + k) v us) false || gives_from t us u v n (k + 1)

-- the value of v may have come from that of u: u is a source of v, or a read or fetch in front of the
-- memory write v of its processor
abbrev pub may_cause : Times → List NumberedAccess → NumberedAccess → NumberedAccess → Bool
may_cause t us u v = (takes_bytes v && gives_from t us u v v.access.size 0) || (takes_bytes u && (is_memory_write v.access && precedes u v))

-- v is reached from u over at most n of a list's, each from the one before it
abbrev pub leads : {X : Type 0} → (X → X → Bool) → List X → ℕ → X → X → Bool
leads cause us zero u v = cause u v
leads cause us (suc n) u v = cause u v || list_any (λ w. leads cause us n u w && cause w v) us

-- an access may have come from itself
abbrev pub is_on_cycle : Times → List NumberedAccess → NumberedAccess → Bool
is_on_cycle t us u = leads (may_cause t us) us (length us) u u

-- the number of the oldest that may, as both of a pair
abbrev pub loop_fault : Times → List NumberedAccess → Option (ℕ × ℕ)
loop_fault t us = option_map (λ u. (u.number, u.number)) (oldest_that (is_on_cycle t us) us)

-- u is the source of a byte of the read or fetch v of the list
pub record IsSourceIn (t : Times) (us : List NumberedAccess) (u v : NumberedAccess) : Type 0 where
  pub known : Contains us v
  pub takes : takes_bytes v ≡ true
  pub byte : (at : ℕ) × (has_byte at v.access ≡ true) × (source t at v us ≡ Some u)

-- the value of v may have come from that of u
abbrev pub MayCauseIn : Times → List NumberedAccess → NumberedAccess → NumberedAccess → Type 0
MayCauseIn t us u v = IsSourceIn t us u v ⊎ MayGoInto u v

-- v may have come from u over these accesses of the list, each from the one before it
abbrev pub IsChainIn : Times → List NumberedAccess → NumberedAccess → List NumberedAccess → NumberedAccess → Type 0
IsChainIn t us u [] v = MayCauseIn t us u v
IsChainIn t us u (w ∷ ws) v = Contains us w × (MayCauseIn t us u w × IsChainIn t us w ws v)
