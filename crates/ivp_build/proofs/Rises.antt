-- A change times a place stays small.
use Rattle.std.proofs.Common.{◌≡◌, ℕ, suc, ◌<◌, ◌≤◌, ◌*◌, ◌^◌, ℤ, pos, negsuc, neg_ℤ, ◌-ℤ◌, ◌*ℤ◌, ◌≤ℤ◌, to_z, of_z, w64, FitsSigned, refl, arith}
use Rattle.std.proofs.Math.Nat.{mul-le-mul}
use Rattle.std.proofs.lemmas.Int.{ints}

pub rise_small : (s : ℤ) (x : ℕ) → neg_ℤ (pos 100000) ≤ℤ s → s ≤ℤ pos 100000 → x < 2 ^ 28 → (neg_ℤ (pos (10 ^ 5 * 2 ^ 28)) ≤ℤ (s *ℤ pos x)) × ((s *ℤ pos x) ≤ℤ pos (10 ^ 5 * 2 ^ 28))
rise_small (pos s) x h h' p =
    let most : s ≤ 100000 = omega (arith, ints) in
    let product = mul-le-mul {n₁ = s} {m₁ = x} {n₂ = 100000} {m₂ = 2 ^ 28} most (omega arith) in
    (omega (arith, ints), omega (arith, ints))
rise_small (negsuc s) x h h' p =
    let most : suc s ≤ 100000 = omega (arith, ints) in
    let product = mul-le-mul {n₁ = suc s} {m₁ = x} {n₂ = 100000} {m₂ = 2 ^ 28} most (omega arith) in
    (omega (arith, ints), omega (arith, ints))

pub rise_cast : (s : ℤ) (x : ℕ) → neg_ℤ (pos 100000) ≤ℤ s → s ≤ℤ pos 100000 → x < 2 ^ 28 → (to_z w64 (of_z w64 s) *ℤ to_z w64 x) ≡ (s *ℤ pos x)
rise_cast s x h h' p =
    let slope : to_z w64 (of_z w64 s) ≡ s = omega (arith, ints) in
    let place : to_z w64 x ≡ pos x = omega (arith, ints) in
    rw (slope, place) refl

pub small_cast : (z : ℤ) → neg_ℤ (pos (10 ^ 5 * 2 ^ 28)) ≤ℤ z → z ≤ℤ pos (10 ^ 5 * 2 ^ 28) → to_z w64 (of_z w64 z) ≡ z
small_cast z p q = omega (arith, ints)

pub small_fits : (z : ℤ) → neg_ℤ (pos (10 ^ 5 * 2 ^ 28)) ≤ℤ z → z ≤ℤ pos (10 ^ 5 * 2 ^ 28) → FitsSigned w64 z
small_fits z p q = omega (arith, ints)

-- a change as it is passed, and a utility less a rise
pub change_kept : (z : ℤ) → neg_ℤ (pos 100000) ≤ℤ z → z ≤ℤ pos 100000 → to_z w64 (of_z w64 z) ≡ z
change_kept z p q = omega (arith, ints)

pub base_fits : (utility rise : ℤ) → pos 0 ≤ℤ utility → utility ≤ℤ pos 100000 → neg_ℤ (pos (10 ^ 5 * 2 ^ 28)) ≤ℤ rise → rise ≤ℤ pos (10 ^ 5 * 2 ^ 28)
    → FitsSigned w64 (to_z w64 (of_z w64 utility) -ℤ to_z w64 (of_z w64 rise))
base_fits utility rise u u' r r' = omega (arith, ints)

pub base_kept : (utility rise : ℤ) → pos 0 ≤ℤ utility → utility ≤ℤ pos 100000 → neg_ℤ (pos (10 ^ 5 * 2 ^ 28)) ≤ℤ rise → rise ≤ℤ pos (10 ^ 5 * 2 ^ 28)
    → to_z w64 (of_z w64 (to_z w64 (of_z w64 utility) -ℤ to_z w64 (of_z w64 rise))) ≡ utility -ℤ rise
base_kept utility rise u u' r r' = omega (arith, ints)
