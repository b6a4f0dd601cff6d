-- The places of a decision: one for each axis, and those of a point.
use Rattle.std.proofs.Common.{◌≡◌, ℕ, ◌<◌, ◌≤◌, true, false, nat_lt, List, [], ◌∷◌, ◌++◌, length, take, drop, refl, sym, arith}
use Rattle.std.proofs.lemmas.Bool.{and_parts, false_from_ne_true, ltb-true}
use Rattle.ivp_domain.specs.declared.axis.Axis.{Axis}
use Rattle.ivp_domain.specs.Domains.{is_point}
use Rattle.ivp_domain.proofs.Sizes.{is_point-of}
use Rattle.ivp_cert.specs.Decisions.{are_on, point_at}

-- as many places as axes
pub on_length : (axes : List Axis) (places : List ℕ) → are_on axes places ≡ true → length axes ≡ length places
on_length [] [] h = refl
on_length [] (place ∷ places) h = absurd (cc)
on_length (axis ∷ axes) [] h = absurd (cc)
on_length (axis ∷ axes) (place ∷ places) h = let both = and_parts (nat_lt place axis.points) (are_on axes places) h in omega (arith, on_length axes places both.1)

pub not_on : (axes : List Axis) (places : List ℕ) → (length axes ≡ length places → ⊥) → false ≡ are_on axes places
not_on axes places other = sym (false_from_ne_true (are_on axes places) (λ on. other (on_length axes places on)))

-- the places of a point, with 0 behind them
pub padded : (places : List ℕ) → length places ≤ 4 → places ++ drop (length places) (0 ∷ 0 ∷ 0 ∷ 0 ∷ []) ≡ take 4 (places ++ 0 ∷ 0 ∷ 0 ∷ 0 ∷ [])
padded [] few = refl
padded (a ∷ []) few = refl
padded (a ∷ b ∷ []) few = refl
padded (a ∷ b ∷ d ∷ []) few = refl
padded (a ∷ b ∷ d ∷ e ∷ []) few = refl
padded (a ∷ b ∷ d ∷ e ∷ f ∷ places) few = absurd (omega arith)

-- a point at such places is one of the domain
first : (axis : Axis) (place : ℕ) (axes : List Axis) (places : List ℕ) → are_on (axis ∷ axes) (place ∷ places) ≡ true → (place < axis.points) × (are_on axes places ≡ true)
first axis place axes places h = let both = and_parts (nat_lt place axis.points) (are_on axes places) h in (ltb-true place axis.points both.0, both.1)

listed_on : (axes : List Axis) (places : List ℕ) → length axes ≤ 4 → length axes ≡ length places → are_on axes places ≡ true → is_point axes (point_at places) ≡ true
listed_on [] [] few n h = is_point-of [] 0 0 0 0 (omega arith) (omega arith) (omega arith) (omega arith)
listed_on [] (p ∷ ps) few n h = absurd (omega (arith, n))
listed_on (a ∷ axes) [] few n h = absurd (omega (arith, n))
listed_on (a ∷ []) (p ∷ []) few n h =
    let one = first a p [] [] h in
    is_point-of (a ∷ []) p 0 0 0 one.0 (omega arith) (omega arith) (omega arith)
listed_on (a ∷ []) (p ∷ q ∷ ps) few n h = absurd (omega (arith, n))
listed_on (a ∷ b ∷ axes) (p ∷ []) few n h = absurd (omega (arith, n))
listed_on (a ∷ b ∷ []) (p ∷ q ∷ []) few n h =
    let one = first a p (b ∷ []) (q ∷ []) h in
    let two = first b q [] [] one.1 in
    is_point-of (a ∷ b ∷ []) p q 0 0 one.0 two.0 (omega arith) (omega arith)
listed_on (a ∷ b ∷ []) (p ∷ q ∷ r ∷ ps) few n h = absurd (omega (arith, n))
listed_on (a ∷ b ∷ d ∷ axes) (p ∷ q ∷ []) few n h = absurd (omega (arith, n))
listed_on (a ∷ b ∷ d ∷ []) (p ∷ q ∷ r ∷ []) few n h =
    let one = first a p (b ∷ d ∷ []) (q ∷ r ∷ []) h in
    let two = first b q (d ∷ []) (r ∷ []) one.1 in
    let three = first d r [] [] two.1 in
    is_point-of (a ∷ b ∷ d ∷ []) p q r 0 one.0 two.0 three.0 (omega arith)
listed_on (a ∷ b ∷ d ∷ []) (p ∷ q ∷ r ∷ s ∷ ps) few n h = absurd (omega (arith, n))
listed_on (a ∷ b ∷ d ∷ e ∷ axes) (p ∷ q ∷ r ∷ []) few n h = absurd (omega (arith, n))
listed_on (a ∷ b ∷ d ∷ e ∷ []) (p ∷ q ∷ r ∷ s ∷ []) few n h =
    let one = first a p (b ∷ d ∷ e ∷ []) (q ∷ r ∷ s ∷ []) h in
    let two = first b q (d ∷ e ∷ []) (r ∷ s ∷ []) one.1 in
    let three = first d r (e ∷ []) (s ∷ []) two.1 in
    let four = first e s [] [] three.1 in
    is_point-of (a ∷ b ∷ d ∷ e ∷ []) p q r s one.0 two.0 three.0 four.0
listed_on (a ∷ b ∷ d ∷ e ∷ []) (p ∷ q ∷ r ∷ s ∷ t ∷ ps) few n h = absurd (omega (arith, n))
listed_on (a ∷ b ∷ d ∷ e ∷ f ∷ axes) (p ∷ q ∷ r ∷ s ∷ ps) few n h = absurd (omega (arith, few))

pub on_point : (axes : List Axis) (places : List ℕ) → length axes ≤ 4 → are_on axes places ≡ true → is_point axes (point_at places) ≡ true
on_point axes places few h = listed_on axes places few (on_length axes places h) h
