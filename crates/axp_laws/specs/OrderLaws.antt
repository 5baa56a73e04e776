-- What the order of a run's accesses keeps, said of each access and each two.
use Rattle.std.specs.Prelude.{◌≡◌, ℕ, ◌≤◌, true, false}
use Rattle.axp_access.specs.Numbering.{NumberedAccess, cpu_of}
use Rattle.axp_access.specs.Order.{Times, spot}
use Rattle.axp_model.specs.Location.{is_placed}

-- where u stands at a number, it is not above n
abbrev pub StandsBy : Times → ℕ → NumberedAccess → Type 0
StandsBy t n u = is_placed t u ≡ true → (spot t (cpu_of u) u.access.place).last ≡ false → (spot t (cpu_of u) u.access.place).place ≤ n
