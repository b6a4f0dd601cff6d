-- Sums over a list when one element changes, and at one or two places.
use Rattle.std.proofs.Common.{◌≡◌, ◌≢◌, ℕ, zero, suc, ◌+◌, ◌≤◌, Bool, true, false, cond, List, [], ◌∷◌, set, sym, refl, ap, arith}
use Rattle.std.specs.List.{sum_by}
use Rattle.std.proofs.lemmas.List.Sums.{sum_by-cons}
use mathlib.Core.Option.{some, some-injective, some-ne-none}
use lib.ListN.{get_elem?}

module _ {A : Type 0} (f : A → ℕ) where
  pub sum_set : (xs : List A) (i : ℕ) (a b : A) → get_elem? xs i ≡ some a → sum_by f (set xs i b) + f a ≡ sum_by f xs + f b
  sum_set [] i a b e = absurd (some-ne-none a (sym e))
  sum_set (x ∷ xs) zero a b e = let same : f x ≡ f a = ap f (some-injective x a e) in omega (arith, sum_by-cons f x xs, sum_by-cons f b xs)
  sum_set (x ∷ xs) (suc i) a b e = let rest = sum_set xs i a b e in omega (arith, sum_by-cons f x xs, sum_by-cons f x (set xs i b))

  pub sum_at : (xs : List A) (i : ℕ) (a : A) → get_elem? xs i ≡ some a → f a ≤ sum_by f xs
  sum_at [] i a e = absurd (some-ne-none a (sym e))
  sum_at (x ∷ xs) zero a e = let same : f x ≡ f a = ap f (some-injective x a e) in omega (arith, sum_by-cons f x xs)
  sum_at (x ∷ xs) (suc i) a e = let rest = sum_at xs i a e in omega (arith, sum_by-cons f x xs)

  pub sum_two : (xs : List A) (i j : ℕ) (a b : A) → i ≢ j → get_elem? xs i ≡ some a → get_elem? xs j ≡ some b → f a + f b ≤ sum_by f xs
  sum_two [] i j a b ne e g = absurd (some-ne-none a (sym e))
  sum_two (x ∷ xs) zero zero a b ne e g = absurd (ne refl)
  sum_two (x ∷ xs) zero (suc j) a b ne e g = let same : f x ≡ f a = ap f (some-injective x a e) in let rest = sum_at xs j b g in omega (arith, sum_by-cons f x xs)
  sum_two (x ∷ xs) (suc i) zero a b ne e g = let same : f x ≡ f b = ap f (some-injective x b g) in let rest = sum_at xs i a e in omega (arith, sum_by-cons f x xs)
  sum_two (x ∷ xs) (suc i) (suc j) a b ne e g = let rest = sum_two xs i j a b (λ same. ne (ap suc same)) e g in omega (arith, sum_by-cons f x xs)

-- what one seat adds is at most one
pub one_at_most : (b : Bool) → cond b 1 0 + 0 ≤ 1
one_at_most true = omega arith
one_at_most false = omega arith

-- a sum of lesser numbers is less
pub sum_below : {A : Type 0} (f g : A → ℕ) → ((x : A) → f x ≤ g x) → (xs : List A) → sum_by f xs ≤ sum_by g xs
sum_below f g below [] = omega arith
sum_below f g below (x ∷ xs) = let here = below x in let rest = sum_below f g below xs in omega (arith, sum_by-cons f x xs, sum_by-cons g x xs)
