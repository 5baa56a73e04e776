-- What a value came from, and that no value came from itself.
use Rattle.std.specs.Prelude.{◌≡◌, ◌⊎◌, ℕ, true, Contains, List, [], ◌∷◌, Some}
use Rattle.axp_access.specs.declared.Record.{Record}
use Rattle.axp_access.specs.Kinds.{is_memory_write, has_byte}
use Rattle.axp_model.specs.Accesses.{accesses, times}
use Rattle.axp_access.specs.Numbering.{NumberedAccess}
use Rattle.axp_model.specs.Sources.{source, takes_bytes}
use Rattle.axp_access.specs.Order.{precedes}

-- the moment at which the value of an access came: its own record
abbrev pub value_moment : NumberedAccess → ℕ
value_moment u = u.number

-- u is the source of a byte of the read or fetch v
pub record IsSourceOf (h : List Record) (u v : NumberedAccess) : Type 0 where
  pub known : Contains (accesses h) v
  pub takes : takes_bytes v ≡ true
  pub byte : (at : ℕ) × (has_byte at v.access ≡ true) × (source (times h) at v (accesses h) ≡ Some u)

-- the read or fetch u precedes the memory write v in issue order
pub record MayGoInto (u v : NumberedAccess) : Type 0 where
  pub takes : takes_bytes u ≡ true
  pub writes : is_memory_write v.access ≡ true
  pub first : precedes u v ≡ true

-- the value of v may have come from that of u
abbrev pub MayCause : List Record → NumberedAccess → NumberedAccess → Type 0
MayCause h u v = IsSourceOf h u v ⊎ MayGoInto u v

-- v may have come from u over these accesses, each from the one before it
abbrev pub IsChain : List Record → NumberedAccess → List NumberedAccess → NumberedAccess → Type 0
IsChain h u [] v = MayCause h u v
IsChain h u (w ∷ ws) v = MayCause h u w × IsChain h w ws v
