-- The first of several degrees along which a step leads farthest, and how far it leads at most.
use Rattle.std.proofs.Common.{◌≡◌, ℕ, zero, suc, Bool, true, false, ◌+◌, ◌-◌, ◌*◌, ◌^◌, ◌<◌, ◌≤◌, inl, inr, ℤ, pos, neg_ℤ, ◌+ℤ◌, ◌*ℤ◌, ◌<ℤ◌, ◌≤ℤ◌, nat_abs, FitsSigned, to_z, of_z, w32, w64, List, [], ◌∷◌, refl, sym, subst, arith}
use Rattle.std.proofs.Math.Nat.{mul-le-mul}
use Rattle.std.proofs.lemmas.Bool.{and_parts, cases_eq, leb-true}
use Rattle.std.proofs.lemmas.Int.{fits_signed_from_abs, ints, to_z-of_z, unsigned_abs-mul}
use Rattle.std.specs.List.{list_all}
use Rattle.std.specs.Prelude.{int_lt, min, nat_le, if◌then◌else◌, slice_index}
use Rattle.helm_geo.specs.Angles.{along, farthest, half_sine, sines}

-- of so many places this one is the first at which a number is greatest
pub record IsFirstMost (f : ℕ → ℤ) (count place : ℕ) : Type 0 where
  pub inside : place < count
  pub most : (other : ℕ) → other < count → f other ≤ℤ f place
  pub first : (other : ℕ) → other < place → f other <ℤ f place

pub below : (x y : ℤ) → int_lt x y ≡ true → x <ℤ y
below x y e = grind (arith, ints)

pub not_below : (x y : ℤ) → int_lt x y ≡ false → y ≤ℤ x
not_below x y e = grind (arith, ints)

le_below : (x y z : ℤ) → x ≤ℤ y → y <ℤ z → x <ℤ z
le_below x y z a b = omega (arith, ints)

below_le : (x y : ℤ) → x <ℤ y → x ≤ℤ y
below_le x y a = omega (arith, ints)

-- one place alone
only_first : (f : ℕ → ℤ) → IsFirstMost f 1 0
only_first f =
    let same : (other : ℕ) → other < 1 → 0 ≡ other = λ other h. omega arith in
    let here : f 0 ≤ℤ f 0 = omega (arith, ints) in
    record { inside = omega arith; most = λ other h. subst (λ n. f n ≤ℤ f 0) (same other h) here; first = λ other h. absurd (omega arith) }

only_place : (f : ℕ → ℤ) (b : Bool) → IsFirstMost f 1 (if b then 0 else 0)
only_place f true = only_first f
only_place f false = only_first f

-- one place more
one_more_place : (f : ℕ → ℤ) (count best : ℕ) (b : Bool) → int_lt (f best) (f count) ≡ b → IsFirstMost f count best → IsFirstMost f (suc count) (if b then count else best)
one_more_place f count best true e before =
    let above : f best <ℤ f count = below (f best) (f count) e in
    record {
      inside = omega arith;
      most = λ other h. elim (cases_eq other count) [ inl same ↦ subst (λ n. f n ≤ℤ f count) (sym same) (omega (arith, ints)) | inr apart ↦ below_le (f other) (f count) (le_below (f other) (f best) (f count) (before.most other (omega arith)) above) ];
      first = λ other h. le_below (f other) (f best) (f count) (before.most other h) above;
    }
one_more_place f count best false e before = record {
  inside = omega arith;
  most = λ other h. elim (cases_eq other count) [ inl same ↦ subst (λ n. f n ≤ℤ f best) (sym same) (not_below (f best) (f count) e) | inr apart ↦ before.most other (omega arith) ];
  first = before.first;
}

-- the definition gives the first of several degrees along which a step leads farthest
pub farthest_is : (dx dy : ℤ) (count : ℕ) → IsFirstMost (along dx dy) (suc count) (farthest dx dy (suc count))
unfolding farthest
farthest_is dx dy zero = only_place (along dx dy) (int_lt (along dx dy 0) (along dx dy 0))
farthest_is dx dy (suc count) = one_more_place (along dx dy) (suc count) (farthest dx dy (suc count)) (int_lt (along dx dy (farthest dx dy (suc count))) (along dx dy (suc count))) refl (farthest_is dx dy count)

-- no sine is above that of 90 degrees
all_most : (sines : List ℕ) (place : ℕ) → list_all (λ sine. nat_le sine 10000) sines ≡ true → slice_index sines place ≤ 10000
all_most [] place h = omega arith
all_most (sine ∷ sines) zero h = leb-true sine 10000 (and_parts _ (list_all (λ sine. nat_le sine 10000) sines) h).0
all_most (sine ∷ sines) (suc place) h = all_most sines place (and_parts _ (list_all (λ sine. nat_le sine 10000) sines) h).1

pub half_sine_most : (degree : ℕ) → half_sine degree ≤ 10000
unfolding half_sine sines
half_sine_most degree = all_most sines (min degree (180 - degree)) refl

-- a part of a step by a sine is no more than so much
part_of_step : (step sine : ℤ) → nat_abs step ≤ 2 * 10 ^ 12 → nat_abs sine ≤ 10000 → nat_abs (step *ℤ sine) ≤ 2 * 10 ^ 16
part_of_step step sine a b = let product : nat_abs step * nat_abs sine ≤ 2 * 10 ^ 12 * 10000 = mul-le-mul a b in rw (unsigned_abs-mul step sine) (omega arith)

-- what a product of 64 and 32 bits gives is the product
pub part_within : (r step sine : ℤ) → neg_ℤ (pos (2 * 10 ^ 12)) ≤ℤ step → step ≤ℤ pos (2 * 10 ^ 12) → neg_ℤ (pos 10000) ≤ℤ sine → sine ≤ℤ pos 10000 → r ≡ to_z w64 (of_z w64 step) *ℤ to_z w32 (of_z w32 sine) → (r ≡ step *ℤ sine) × (nat_abs r ≤ 2 * 10 ^ 16)
part_within r step sine low high least greatest e =
    let s : to_z w64 (of_z w64 step) ≡ step = omega (arith, ints) in
    let t : to_z w32 (of_z w32 sine) ≡ sine = omega (arith, ints) in
    let is : r ≡ step *ℤ sine = rw (s, t) at e in
    (is, rw is (part_of_step step sine (omega (arith, ints)) (omega (arith, ints))))

-- two such parts together fit
kept : (a : ℤ) → nat_abs a ≤ 2 * 10 ^ 16 → to_z w64 (of_z w64 a) ≡ a
kept a h = omega (arith, ints)

fits : (a b : ℤ) → nat_abs a ≤ 2 * 10 ^ 16 → nat_abs b ≤ 2 * 10 ^ 16 → FitsSigned w64 (a +ℤ b)
fits a b h k = fits_signed_from_abs w64 (a +ℤ b) (omega (arith, ints))

pub parts_fit : (a b : ℤ) → nat_abs a ≤ 2 * 10 ^ 16 → nat_abs b ≤ 2 * 10 ^ 16 → FitsSigned w64 (to_z w64 (of_z w64 a) +ℤ to_z w64 (of_z w64 b))
parts_fit a b h k = rw (kept a h, kept b k) (fits a b h k)

pub parts_are : (a b : ℤ) → nat_abs a ≤ 2 * 10 ^ 16 → nat_abs b ≤ 2 * 10 ^ 16 → to_z w64 (of_z w64 (to_z w64 (of_z w64 a) +ℤ to_z w64 (of_z w64 b))) ≡ a +ℤ b
parts_are a b h k = rw (kept a h, kept b k) (to_z-of_z w64 (a +ℤ b) (fits a b h k))
