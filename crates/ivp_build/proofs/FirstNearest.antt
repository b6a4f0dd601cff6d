-- The nearest place is the first of those to which no place is nearer.
use Rattle.std.proofs.Common.{◌≡◌, ℕ, zero, suc, Bool, true, false, ◌+◌, ◌<◌, ◌≤◌, inl, inr, refl, subst, arith}
use Rattle.std.proofs.lemmas.Bool.{cases_lt}
use Rattle.std.proofs.lemmas.Bool.Decides.{nat_tests}
use Rattle.std.specs.List.{fold}
use Rattle.std.specs.Prelude.{if◌then◌else◌, nat_lt}
use Rattle.ivp_domain.specs.Boxes.{numbers_from}
use Rattle.ivp_build.specs.Places.{NearIsNearest, miss, nearer}

-- the first of so many places where a measure is least
record First (m : ℕ → ℕ) (n r : ℕ) : Type 0 where
  inside : r < n
  least : (j : ℕ) → j < n → m r ≤ m j
  first : (j : ℕ) → j < r → m r < m j

-- one place more
next_first : (m : ℕ → ℕ) (n r : ℕ) → First m n r → First m (suc n) (nearer m r n)
next_first m n r f = by (nat_lt (m n) (m r)) refl
  where
    below : nat_lt (m n) (m r) ≡ true → m n < m r
    below e = grind (arith, nat_tests)

    above : nat_lt (m n) (m r) ≡ false → m r ≤ m n
    above e = grind (arith, nat_tests)

    by : (b : Bool) → nat_lt (m n) (m r) ≡ b → First m (suc n) (if b then n else r)
    by true e =
        let less = below e in
        record {
          inside = omega arith;
          least = λ j h. elim (cases_lt j n) [
            | inl before ↦ let least = f.least j before in omega (arith, less, least)
            | inr last ↦ let same : n ≡ j = omega (arith, h, last) in subst (λ (k : ℕ). m n ≤ m k) same (omega arith)
          ];
          first = λ j h. let least = f.least j h in omega (arith, less, least);
        }
    by false e =
        let most = above e in
        record {
          inside = let inside = f.inside in omega (arith, inside);
          least = λ j h. elim (cases_lt j n) [
            | inl before ↦ f.least j before
            | inr last ↦ let same : n ≡ j = omega (arith, h, last) in subst (λ (k : ℕ). m r ≤ m k) same most
          ];
          first = f.first;
        }

all_first : (m : ℕ → ℕ) (best low count : ℕ) → First m low best → First m (low + count) (fold (nearer m) best (numbers_from low count))
all_first m best low zero f = subst (λ (n : ℕ). First m n best) (omega arith) f
all_first m best low (suc count) f =
    let rest = all_first m (nearer m best low) (suc low) count (next_first m low best f) in
    subst (λ (n : ℕ). First m n (fold (nearer m) (nearer m best low) (numbers_from (suc low) count))) (omega arith) rest

start_first : (m : ℕ → ℕ) → First m 1 (nearer m 0 0)
start_first m = by (nat_lt (m 0) (m 0))
  where
    zeroed : First m 1 0
    zeroed = record {
      inside = omega arith;
      least = λ j h. let same : 0 ≡ j = omega (arith, h) in subst (λ (k : ℕ). m 0 ≤ m k) same (omega arith);
      first = λ j h. absurd (omega (arith, h));
    }

    by : (b : Bool) → First m 1 (if b then 0 else 0)
    by true = zeroed
    by false = zeroed

fold_first : (m : ℕ → ℕ) (count : ℕ) → 0 < count → First m count (fold (nearer m) 0 (numbers_from 0 count))
fold_first m zero some = absurd (omega arith)
fold_first m (suc count) some = subst (λ (n : ℕ). First m n (fold (nearer m) (nearer m 0 0) (numbers_from 1 count))) (omega arith) (all_first m (nearer m 0 0) 1 count (start_first m))

pub near_nearest : NearIsNearest
near_nearest axis number some =
    let f = fold_first (miss axis number) axis.points some in
    record { inside = f.inside; nearest = f.least; first = f.first }
