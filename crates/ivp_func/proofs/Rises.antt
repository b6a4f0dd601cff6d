-- Slopes times places, in order.
use Rattle.std.proofs.Common.{◌≡◌, ℕ, suc, ◌<◌, ◌≤◌, ◌*◌, ◌^◌, true, ◌&&◌, ℤ, pos, negsuc, neg_ℤ, ◌+ℤ◌, ◌*ℤ◌, ◌≤ℤ◌, to_z, of_z, w64, FitsSigned, refl, arith}
use Rattle.std.proofs.Math.Nat.{mul-le-mul, mul-le-mul_left}
use Rattle.std.proofs.lemmas.Bool.{and_parts}
use Rattle.std.proofs.lemmas.Bool.Decides.{nat_tests}
use Rattle.std.proofs.lemmas.Int.{ints}
use Rattle.ivp_func.specs.declared.piece.Piece.{Piece}
use Rattle.ivp_func.specs.Pieces.{is_base, is_slope, is_small, is_value, slope_on}

pub rises : (s : ℤ) (x y : ℕ) → pos 0 ≤ℤ s → x ≤ y → (s *ℤ pos x) ≤ℤ (s *ℤ pos y)
rises (pos s) x y h le = let more = mul-le-mul_left s le in omega (arith, ints)
rises (negsuc s) x y h le = absurd (omega (arith, ints))

pub falls : (s : ℤ) (x y : ℕ) → s ≤ℤ pos 0 → x ≤ y → (s *ℤ pos y) ≤ℤ (s *ℤ pos x)
falls (pos s) x y h le = let none : s ≡ 0 = omega (arith, ints) in rw none (omega (arith, ints))
falls (negsuc s) x y h le = let more = mul-le-mul_left (suc s) le in omega (arith, ints)

-- a slope times a place stays small
pub rise_small : (s : ℤ) (x : ℕ) → is_slope s ≡ true → x < 2 ^ 32 → (neg_ℤ (pos (10 ^ 5 * 2 ^ 32)) ≤ℤ (s *ℤ pos x)) × ((s *ℤ pos x) ≤ℤ pos (10 ^ 5 * 2 ^ 32))
rise_small (pos s) x h p =
    let most : s ≤ 100000 = grind (arith, nat_tests, ints) in
    let product = mul-le-mul {n₁ = s} {m₁ = x} {n₂ = 100000} {m₂ = 2 ^ 32} most (omega arith) in
    (omega (arith, ints), omega (arith, ints))
rise_small (negsuc s) x h p =
    let most : suc s ≤ 100000 = grind (arith, nat_tests, ints) in
    let product = mul-le-mul {n₁ = suc s} {m₁ = x} {n₂ = 100000} {m₂ = 2 ^ 32} most (omega arith) in
    (omega (arith, ints), omega (arith, ints))

-- the bounds of a piece that is small
pub small_parts : (piece : Piece) → is_small piece ≡ true → (is_base piece.base ≡ true) × (is_slope (slope_on 0 piece) ≡ true) × (is_slope (slope_on 1 piece) ≡ true) × (is_slope (slope_on 2 piece) ≡ true) × (is_slope (slope_on 3 piece) ≡ true)
small_parts piece h =
    let a = is_base piece.base in
    let b = is_slope (slope_on 0 piece) in
    let c = is_slope (slope_on 1 piece) in
    let d = is_slope (slope_on 2 piece) in
    let e = is_slope (slope_on 3 piece) in
    let four = and_parts (a && b && c && d) e h in
    let three = and_parts (a && b && c) d four.0 in
    let two = and_parts (a && b) c three.0 in
    let one = and_parts a b two.0 in
    (one.0, one.1, two.1, three.1, four.1)

pub base_within : (z : ℤ) → is_base z ≡ true → (neg_ℤ (pos (10 ^ 14)) ≤ℤ z) × (z ≤ℤ pos (10 ^ 14))
base_within z h = (grind (arith, nat_tests, ints), grind (arith, nat_tests, ints))

pub value_within : (z : ℤ) → pos 0 ≤ℤ z → z ≤ℤ pos 100000 → is_value z ≡ true
value_within z p q = grind (arith, nat_tests, ints)

-- a sum of four is most where each part is
pub sum_le : (base a b c d a' b' c' d' : ℤ) → a ≤ℤ a' → b ≤ℤ b' → c ≤ℤ c' → d ≤ℤ d' → (base +ℤ a +ℤ b +ℤ c +ℤ d) ≤ℤ (base +ℤ a' +ℤ b' +ℤ c' +ℤ d')
sum_le base a b c d a' b' c' d' p q r s = omega (arith, ints)

-- the numbers of 64 bits that stand for these are these
pub slope_within : (s : ℤ) → is_slope s ≡ true → (neg_ℤ (pos 100000) ≤ℤ s) × (s ≤ℤ pos 100000)
slope_within s h = (grind (arith, nat_tests, ints), grind (arith, nat_tests, ints))

pub rise_cast : (s : ℤ) (x : ℕ) → is_slope s ≡ true → x < 2 ^ 32 → (to_z w64 (of_z w64 s) *ℤ to_z w64 x) ≡ (s *ℤ pos x)
rise_cast s x h p =
    let within = slope_within s h in
    let slope : to_z w64 (of_z w64 s) ≡ s = omega (arith, ints) in
    let place : to_z w64 x ≡ pos x = omega (arith, ints) in
    rw (slope, place) refl

pub small_cast : (z : ℤ) → neg_ℤ (pos (10 ^ 5 * 2 ^ 32)) ≤ℤ z → z ≤ℤ pos (10 ^ 5 * 2 ^ 32) → to_z w64 (of_z w64 z) ≡ z
small_cast z p q = omega (arith, ints)

pub small_fits : (z : ℤ) → neg_ℤ (pos (10 ^ 5 * 2 ^ 32)) ≤ℤ z → z ≤ℤ pos (10 ^ 5 * 2 ^ 32) → FitsSigned w64 z
small_fits z p q = omega (arith, ints)
