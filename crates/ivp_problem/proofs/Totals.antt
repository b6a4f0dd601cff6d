-- The greatest and the least of numbers at the points of a list.
use Rattle.std.proofs.Common.{◌≡◌, ℕ, zero, suc, ◌≤◌, ◌⊎◌, max, min, List, [], ◌∷◌, Some, refl, ap, arith}
use Rattle.std.specs.Prelude.{slice_get}
use Rattle.std.specs.List.{fold}
use Rattle.ivp_domain.specs.declared.boxes.Point.{Point}
use Rattle.ivp_problem.specs.Sums.{greatest, least}

abbrev most_from : (Point → ℕ) → ℕ → List Point → ℕ
most_from number a points = fold (λ most point. max most (number point)) a points

abbrev least_from : (Point → ℕ) → ℕ → List Point → ℕ
least_from number a points = fold (λ least point. min least (number point)) a points

most_start : (f : Point → ℕ) (a : ℕ) (ps : List Point) → a ≤ most_from f a ps
most_start f a [] = omega arith
most_start f a (p ∷ ps) = let rest = most_start f (max a (f p)) ps in omega arith

most_each : (f : Point → ℕ) (a : ℕ) (ps : List Point) (n : ℕ) (p : Point) → slice_get ps n ≡ Some p → f p ≤ most_from f a ps
most_each f a [] n p e = absurd (cc)
most_each f a (q ∷ ps) zero p e = let same : f q ≡ f p = let at : q ≡ p = cc in ap f at in let rest = most_start f (max a (f q)) ps in omega arith
most_each f a (q ∷ ps) (suc n) p e = most_each f (max a (f q)) ps n p e

most_within : (f : Point → ℕ) (a m : ℕ) (ps : List Point) → a ≤ m → ((n : ℕ) (p : Point) → slice_get ps n ≡ Some p → f p ≤ m) → most_from f a ps ≤ m
most_within f a m [] start each = start
most_within f a m (p ∷ ps) start each = let first = each 0 p refl in most_within f (max a (f p)) m ps (omega arith) (λ n q e. each (suc n) q e)

-- no number of the list is above the greatest, which is one of them
pub greatest_each : (f : Point → ℕ) (ps : List Point) (n : ℕ) (p : Point) → slice_get ps n ≡ Some p → f p ≤ greatest f ps
greatest_each f ps n p e = most_each f 0 ps n p e

pub greatest_within : (f : Point → ℕ) (ps : List Point) (m : ℕ) → ((n : ℕ) (p : Point) → slice_get ps n ≡ Some p → f p ≤ m) → greatest f ps ≤ m
greatest_within f ps m each = most_within f 0 m ps (omega arith) each

pub greatest_is : (f : Point → ℕ) (ps : List Point) (m n : ℕ) (p : Point) → slice_get ps n ≡ Some p → f p ≡ m → ((k : ℕ) (q : Point) → slice_get ps k ≡ Some q → f q ≤ m) → greatest f ps ≡ m
greatest_is f ps m n p e same each = omega (arith, greatest_each f ps n p e, greatest_within f ps m each)

-- the greater of two numbers is one of them
pub greater : (m n : ℕ) → (max m n ≡ m) ⊎ (max m n ≡ n)
greater m n = grind arith

least_start : (f : Point → ℕ) (a : ℕ) (ps : List Point) → least_from f a ps ≤ a
least_start f a [] = omega arith
least_start f a (p ∷ ps) = let rest = least_start f (min a (f p)) ps in omega arith

least_each_from : (f : Point → ℕ) (a : ℕ) (ps : List Point) (n : ℕ) (p : Point) → slice_get ps n ≡ Some p → least_from f a ps ≤ f p
least_each_from f a [] n p e = absurd (cc)
least_each_from f a (q ∷ ps) zero p e = let same : f q ≡ f p = let at : q ≡ p = cc in ap f at in let rest = least_start f (min a (f q)) ps in omega arith
least_each_from f a (q ∷ ps) (suc n) p e = least_each_from f (min a (f q)) ps n p e

least_within : (f : Point → ℕ) (a m : ℕ) (ps : List Point) → m ≤ a → ((n : ℕ) (p : Point) → slice_get ps n ≡ Some p → m ≤ f p) → m ≤ least_from f a ps
least_within f a m [] start each = start
least_within f a m (p ∷ ps) start each = let first = each 0 p refl in least_within f (min a (f p)) m ps (omega arith) (λ n q e. each (suc n) q e)

-- no number of the list is below the least, which is one of them
pub least_each : (f : Point → ℕ) (ps : List Point) (n : ℕ) (p : Point) → slice_get ps n ≡ Some p → least f ps ≤ f p
least_each f [] n p e = absurd (cc)
least_each f (q ∷ ps) zero p e = let same : f q ≡ f p = let at : q ≡ p = cc in ap f at in let start = least_start f (f q) ps in omega arith
least_each f (q ∷ ps) (suc n) p e = least_each_from f (f q) ps n p e

pub least_is : (f : Point → ℕ) (ps : List Point) (m n : ℕ) (p : Point) → slice_get ps n ≡ Some p → f p ≡ m → ((k : ℕ) (q : Point) → slice_get ps k ≡ Some q → m ≤ f q) → least f ps ≡ m
least_is f [] m n p e same each = absurd (cc)
least_is f (q ∷ ps) m n p e same each =
    let above : m ≤ least f (q ∷ ps) = least_within f (f q) m ps (each 0 q refl) (λ k r e. each (suc k) r e) in
    omega (arith, least_each f (q ∷ ps) n p e)
