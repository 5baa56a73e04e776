-- An aligned part of a line lies inside the line, so its bits stay in a mask.
use Rattle.std.proofs.Common.{◌≡◌, ℕ, ◌+◌, ◌-◌, ◌*◌, ◌%◌, ◌^◌, ◌<◌, ◌≤◌, arith, inl, inr}
use Rattle.std.proofs.lemmas.Nat.{shl_whole, one_shl, pow_pos}
use Rattle.axp_base.specs.Masks.{IsSize, span_of}
use Rattle.axp_base.specs.declared.lines.TheConstants.{LINE_BYTES}
use Rattle.axp_base.specs.declared.parts.TheConstants.{QUADWORD_BYTES}

pub ends_inside : (a s : ℕ) → IsSize s → a % s ≡ 0 → a % LINE_BYTES + s ≤ LINE_BYTES
ends_inside a s (inl e) h = omega arith
ends_inside a s (inr (inl e)) h = let k = rw e at h in omega arith
ends_inside a s (inr (inr (inl e))) h = let k = rw e at h in omega arith
ends_inside a s (inr (inr (inr e))) h = let k = rw e at h in omega arith

-- an access lies in one aligned quadword
pub ends_in_quadword : (a s : ℕ) → IsSize s → a % s ≡ 0 → a % QUADWORD_BYTES + s ≤ QUADWORD_BYTES
ends_in_quadword a s (inl e) h = omega arith
ends_in_quadword a s (inr (inl e)) h = let k = rw e at h in omega arith
ends_in_quadword a s (inr (inr (inl e))) h = let k = rw e at h in omega arith
ends_in_quadword a s (inr (inr (inr e))) h = let k = rw e at h in omega arith

size_bounds : (s : ℕ) → IsSize s → (0 < s) × (s < 64)
size_bounds s (inl e) = (omega arith, omega arith)
size_bounds s (inr (inl e)) = (omega arith, omega arith)
size_bounds s (inr (inr (inl e))) = (omega arith, omega arith)
size_bounds s (inr (inr (inr e))) = (omega arith, omega arith)

pub span_whole : (a s : ℕ) → IsSize s → a % s ≡ 0 → (1 * 2 ^ s % 2 ^ 64 - 1) * 2 ^ (a % LINE_BYTES) % 2 ^ 64 ≡ span_of a s
span_whole a s h k =
    let inside = ends_inside a s h k in
    let pos = pow_pos s in
    let bounds = size_bounds s h in
    rw (one_shl s 64 bounds.1) (shl_whole (2 ^ s - 1) s (a % LINE_BYTES) 64 (omega arith) (omega arith))
