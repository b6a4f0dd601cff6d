-- The root is the greatest number whose square is at most the number.
use Rattle.std.proofs.Common.{◌≡◌, ℕ, Bool, zero, suc, true, false, ◌+◌, ◌*◌, ◌/◌, ◌^◌, ◌<◌, ◌≤◌, inl, inr, refl, add-one, arith}
use Rattle.std.proofs.Math.Nat.{mul-le-mul}
use Rattle.std.proofs.lemmas.Bool.{cases_lt}
use Rattle.std.proofs.lemmas.Nat.{div_below}
use Rattle.std.specs.Prelude.{nat_le, if◌then◌else◌}
use Rattle.helm_geo.specs.Plane.{isqrt, root_by_digits, square}

twice : (r : ℕ) → square (2 * r) ≡ 4 * square r
twice r = grind arith

low_by : (r n : ℕ) (b : Bool) → nat_le (square (suc (2 * r))) n ≡ b → square r ≤ n / 4 → square (if b then suc (2 * r) else 2 * r) ≤ n
low_by r n true e below = grind arith
low_by r n false e below = let t = twice r in omega (arith, t, below)

high_by : (r n : ℕ) (b : Bool) → nat_le (square (suc (2 * r))) n ≡ b → n / 4 < square (suc r) → n < square (suc (if b then suc (2 * r) else 2 * r))
high_by r n true e above = let t = twice (suc r) in grind arith
high_by r n false e above = grind arith

quarter : (digits n : ℕ) → n < 4 ^ suc digits → n / 4 < 4 ^ digits
quarter digits n small = div_below n 4 (4 ^ digits) (omega arith) (grind arith)

root_low : (digits n : ℕ) → square (root_by_digits digits n) ≤ n
root_low zero n = omega arith
root_low (suc digits) n = low_by (root_by_digits digits (n / 4)) n (nat_le (square (suc (2 * root_by_digits digits (n / 4)))) n) refl (root_low digits (n / 4))

root_high : (digits n : ℕ) → n < 4 ^ digits → n < square (suc (root_by_digits digits n))
root_high zero n small = small
root_high (suc digits) n small = high_by (root_by_digits digits (n / 4)) n (nat_le (square (suc (2 * root_by_digits digits (n / 4)))) n) refl (root_high digits (n / 4) (quarter digits n small))

-- the root of a number below 2^128 is right
isqrt_is : (n : ℕ) → n < 2 ^ 128 → (square (isqrt n) ≤ n) × (n < square (suc (isqrt n)))
unfolding isqrt
isqrt_is n small = (root_low 64 n, root_high 64 n small)

-- of two numbers whose squares are about a number as a root's are, neither is the greater one
not_above : (a b n : ℕ) → square a ≤ n → n < square (suc b) → a ≤ b
not_above a b n low high =
    let squares : b < a → square (suc b) ≤ square a = λ over. mul-le-mul {n₁ = suc b} {m₁ = suc b} {n₂ = a} {m₂ = a} (omega arith) (omega arith) in
    elim (cases_lt b a) [ inl over ↦ absurd (omega (arith, squares over)) | inr under ↦ under ]

-- no other number is the root
pub isqrt_alone : (n r : ℕ) → n < 2 ^ 128 → square r ≤ n → n < square (r + 1) → r ≡ isqrt n
isqrt_alone n r small low high =
    let is = isqrt_is n small in
    let above : n < square (suc r) = rw add-one at high in
    let under = not_above r (isqrt n) n low is.1 in
    let over = not_above (isqrt n) r n is.0 above in
    omega (arith, under, over)
