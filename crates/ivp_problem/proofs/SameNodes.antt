-- A test of whether two nodes are one.
use Rattle.std.proofs.Common.{◌≡◌, ℕ, ℤ, Bool, true, false, ◌&&◌, ◌==◌, List, [], ◌∷◌, refl, arith}
use Rattle.std.specs.Ordering.{int_eq}
use Rattle.std.specs.Str.{bytes_eq}
use Rattle.std.proofs.lemmas.Bool.{and_from, and_parts}
use Rattle.std.proofs.lemmas.Bool.Decides.{Decides-int_eq, nat_tests}
use Rattle.std.proofs.lemmas.Slice.Eq.{bytes_eq-Decides}
use Rattle.ivp_problem.specs.declared.node.Node.{Node}

abbrev same_slope : List ℤ → List ℤ → Bool
same_slope [] [] = true
same_slope [] (b ∷ bs) = false
same_slope (a ∷ more) [] = false
same_slope (a ∷ more) (b ∷ bs) = int_eq a b && same_slope more bs

same_slope-true : (a b : List ℤ) → same_slope a b ≡ true → a ≡ b
same_slope-true [] [] h = refl
same_slope-true [] (y ∷ ys) h = absurd (cc)
same_slope-true (x ∷ xs) [] h = absurd (cc)
same_slope-true (x ∷ xs) (y ∷ ys) h =
    let both = and_parts (int_eq x y) (same_slope xs ys) h in
    let first : x ≡ y = (Decides-int_eq x y).0 both.0 in
    let rest = same_slope-true xs ys both.1 in
    rw (first, rest) refl

same_slope-self : (a : List ℤ) → same_slope a a ≡ true
same_slope-self [] = refl
same_slope-self (x ∷ xs) = and_from (int_eq x x) (same_slope xs xs) ((Decides-int_eq x x).1 refl) (same_slope-self xs)

abbrev pub is_same : Node → Node → Bool
is_same a b = ((a.depth == b.depth && bytes_eq a.area.low b.area.low) && bytes_eq a.area.high b.area.high) && (int_eq a.base b.base && same_slope a.slope b.slope)

abbrev node_with : ℕ → List ℕ → List ℕ → ℤ → List ℤ → Node
node_with depth low high base slope = record { depth = depth; area = record { low = low; high = high }; base = base; slope = slope }

pub is_same-true : (a b : Node) → is_same a b ≡ true → a ≡ b
is_same-true a b h =
    let both = and_parts ((a.depth == b.depth && bytes_eq a.area.low b.area.low) && bytes_eq a.area.high b.area.high) (int_eq a.base b.base && same_slope a.slope b.slope) h in
    let three = and_parts (a.depth == b.depth && bytes_eq a.area.low b.area.low) (bytes_eq a.area.high b.area.high) both.0 in
    let two = and_parts (a.depth == b.depth) (bytes_eq a.area.low b.area.low) three.0 in
    let last = and_parts (int_eq a.base b.base) (same_slope a.slope b.slope) both.1 in
    let depth : a.depth ≡ b.depth = grind (arith, nat_tests, two.0) in
    let low : a.area.low ≡ b.area.low = (bytes_eq-Decides a.area.low b.area.low).0 two.1 in
    let high : a.area.high ≡ b.area.high = (bytes_eq-Decides a.area.high b.area.high).0 three.1 in
    let base : a.base ≡ b.base = (Decides-int_eq a.base b.base).0 last.0 in
    let slope : a.slope ≡ b.slope = same_slope-true a.slope b.slope last.1 in
    let same : node_with a.depth a.area.low a.area.high a.base a.slope ≡ node_with b.depth b.area.low b.area.high b.base b.slope = rw (depth, low, high, base, slope) refl in
    same

pub is_same-self : (a : Node) → is_same a a ≡ true
is_same-self a =
    let depth : (a.depth == a.depth) ≡ true = grind (arith, nat_tests) in
    and_from ((a.depth == a.depth && bytes_eq a.area.low a.area.low) && bytes_eq a.area.high a.area.high) (int_eq a.base a.base && same_slope a.slope a.slope)
    (and_from (a.depth == a.depth && bytes_eq a.area.low a.area.low) (bytes_eq a.area.high a.area.high) (and_from (a.depth == a.depth) (bytes_eq a.area.low a.area.low) depth ((bytes_eq-Decides a.area.low a.area.low).1 refl)) ((bytes_eq-Decides a.area.high a.area.high).1 refl))
    (and_from (int_eq a.base a.base) (same_slope a.slope a.slope) ((Decides-int_eq a.base a.base).1 refl) (same_slope-self a.slope))
