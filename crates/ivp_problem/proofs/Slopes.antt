-- Weighted bases and slopes: how large they grow, and at which place of a span a slope adds most.
use Rattle.std.proofs.Common.{◌≡◌, ℕ, suc, ◌<◌, ◌≤◌, ◌*◌, ◌^◌, inl, inr, ℤ, pos, negsuc, neg_ℤ, ◌*ℤ◌, ◌≤ℤ◌, ◌<ℤ◌, to_z, of_z, w64, FitsSigned, true, refl, ap, arith}
use mir.Syntax.{w128}
use Rattle.std.proofs.Math.Nat.{mul-le-mul, mul-le-mul_left}
use Rattle.std.proofs.lemmas.Bool.{cases_lt}
use Rattle.std.proofs.lemmas.Bool.Decides.{nat_tests}
use Rattle.std.proofs.lemmas.Int.{ints}
use Rattle.ivp_problem.specs.Problems.{is_weight}
use Rattle.ivp_problem.specs.Corners.{Beats}

-- at most this much either way
pub record Within (most : ℕ) (z : ℤ) : Type 0 where
  pub above : neg_ℤ (pos most) ≤ℤ z
  pub below : z ≤ℤ pos most

-- a natural number times one within bounds
pub within_product : (n : ℕ) (z : ℤ) (a b : ℕ) → n ≤ a → Within b z → Within (a * b) (pos n *ℤ z)
within_product n (pos z) a b p h =
    let most : z ≤ b = let below = h.below in omega (arith, ints) in
    let product = mul-le-mul {n₁ = n} {m₁ = z} {n₂ = a} {m₂ = b} p most in
    record { above = omega (arith, ints); below = omega (arith, ints) }
within_product n (negsuc z) a b p h =
    let most : suc z ≤ b = let above = h.above in omega (arith, ints) in
    let product = mul-le-mul {n₁ = n} {m₁ = suc z} {n₂ = a} {m₂ = b} p most in
    record { above = omega (arith, ints); below = omega (arith, ints) }

-- the other way round
pub within_times : (z : ℤ) (n : ℕ) (a b : ℕ) → Within a z → n ≤ b → Within (a * b) (z *ℤ pos n)
within_times (pos z) n a b h p =
    let most : z ≤ a = let below = h.below in omega (arith, ints) in
    let product = mul-le-mul {n₁ = z} {m₁ = n} {n₂ = a} {m₂ = b} most p in
    record { above = omega (arith, ints); below = omega (arith, ints) }
within_times (negsuc z) n a b h p =
    let most : suc z ≤ a = let above = h.above in omega (arith, ints) in
    let product = mul-le-mul {n₁ = suc z} {m₁ = n} {n₂ = a} {m₂ = b} most p in
    record { above = omega (arith, ints); below = omega (arith, ints) }

pub weight_most : (weight : ℕ) → is_weight weight ≡ true → (1 ≤ weight) × (weight ≤ 10000000)
weight_most weight h = (grind (arith, nat_tests), grind (arith, nat_tests))

-- numbers of 64 bits that stand for these are these
pub cast : (z : ℤ) → Within (2 ^ 62) z → to_z w64 (of_z w64 z) ≡ z
cast z h = let above = h.above in let below = h.below in omega (arith, ints)

pub fits : (z : ℤ) → Within (2 ^ 62) z → FitsSigned w64 z
fits z h = let above = h.above in let below = h.below in omega (arith, ints)

pub cast_product : (n : ℕ) (z : ℤ) → n ≤ 10000000 → Within (2 ^ 62) z → (to_z w64 n *ℤ to_z w64 (of_z w64 z)) ≡ (pos n *ℤ z)
cast_product n z p h = let weight : to_z w64 n ≡ pos n = omega (arith, ints) in rw (weight, cast z h) refl

-- and numbers of 128 bits
pub wide_cast : (z : ℤ) → Within (2 ^ 126) z → to_z w128 (of_z w128 z) ≡ z
wide_cast z h = let above = h.above in let below = h.below in omega (arith, ints)

pub wide_fits : (z : ℤ) → Within (2 ^ 126) z → FitsSigned w128 z
wide_fits z h = let above = h.above in let below = h.below in omega (arith, ints)

-- a number of 64 bits that is cast to 128 is the same
pub widened : (z : ℤ) → Within (2 ^ 62) z → to_z w128 (of_z w128 (to_z w64 (of_z w64 z))) ≡ z
widened z h = let above = h.above in let below = h.below in rw (cast z h) (omega (arith, ints))

-- within less is within more
pub within_more : (a b : ℕ) (z : ℤ) → a ≤ b → Within a z → Within b z
within_more a b z p h = let above = h.above in let below = h.below in record { above = omega (arith, ints); below = omega (arith, ints) }

-- a rising slope adds most at the high end, and nowhere else
pub beats_high : (s : ℤ) (high x : ℕ) → pos 0 <ℤ s → x ≤ high → Beats s high x
beats_high (pos s) high x up below =
    elim (cases_lt x high) [
      | inl less ↦ let more = mul-le-mul_left {m = suc x} {n = high} s (omega arith) in inl (omega (arith, ints))
      | inr same ↦ let e : x ≡ high = omega arith in inr (ap (λ y. pos s *ℤ pos y) e, omega arith)
    ]
beats_high (negsuc s) high x up below = absurd (omega (arith, ints))

-- another slope adds most at the low end, and nowhere before
pub beats_low : (s : ℤ) (low x : ℕ) → s ≤ℤ pos 0 → low ≤ x → Beats s low x
beats_low (pos s) low x down above = let none : s ≡ 0 = omega (arith, ints) in inr (rw none (omega (arith, ints)), above)
beats_low (negsuc s) low x down above =
    elim (cases_lt low x) [
      | inl less ↦ let more = mul-le-mul_left {m = suc low} {n = x} (suc s) (omega arith) in inl (omega (arith, ints))
      | inr same ↦ let e : x ≡ low = omega arith in inr (ap (λ y. negsuc s *ℤ pos y) e, above)
    ]
