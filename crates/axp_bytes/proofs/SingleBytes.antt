-- Extract and insert of one byte.
use Rattle.std.proofs.Common.{◌≡◌, ℕ, ◌*◌, ◌/◌, ◌%◌, ◌^◌, ◌<◌, arith, refl, ap, ◌∙◌}
use Rattle.std.proofs.lemmas.Nat.{shl-shr, shl_whole}
use Rattle.std.proofs.Math.Nat.{mod-eq_of_lt}
use Rattle.axp_base.specs.Parts.{byte}
use Rattle.axp_base.specs.Sizes.{low_datum}
use Rattle.axp_base.specs.declared.sizes.Size.TheVariants.{Byte}
use Rattle.axp_decode.specs.declared.names.Op.TheVariants.{EXTBL, INSBL}
use Rattle.axp_bytes.specs.Rows.{value_of}

pub the_byte : (a b : ℕ) → value_of EXTBL a b ≡ byte a (b % 8)
unfolding value_of
the_byte a b = refl

pub one_byte : (a b : ℕ) → value_of EXTBL (value_of INSBL a b) b ≡ low_datum Byte a
unfolding value_of
one_byte a b =
    let low : a % 2 ^ 8 < 2 ^ 8 = omega arith in
    let whole : a % 2 ^ 8 * 2 ^ (8 * (b % 8)) % 2 ^ 64 ≡ a % 2 ^ 8 * 2 ^ (8 * (b % 8)) = shl_whole (a % 2 ^ 8) 8 (8 * (b % 8)) 64 low (omega arith) in
    ap (λ y. y / 2 ^ (8 * (b % 8)) % 2 ^ 8) whole ∙ ap (λ y. y % 2 ^ 8) (shl-shr (a % 2 ^ 8) (8 * (b % 8))) ∙ mod-eq_of_lt low
