-- The axis of a name is found, and a point's place on it.
use Rattle.std.proofs.Common.{◌≡◌, ◌<◌, ◌≤◌, ℕ, zero, suc, Bool, true, false, cond, List, [], ◌∷◌, length, Option, Some, None, refl, ap, sym, ◌∙◌, arith}
use Rattle.std.specs.Prelude.{bytes_eq, position, nat_lt, slice_get, slice_index, unwrap_or, IfSome}
use Rattle.std.specs.List.{list_any, position_or_len}
use Rattle.std.proofs.lemmas.Bool.{lt-ltb, ltb-true}
use Rattle.ivp_domain.specs.declared.axis.Axis.{Axis}
use Rattle.ivp_domain.specs.declared.boxes.Point.{Point}
use Rattle.ivp_domain.specs.Axes.{no_axis}
use Rattle.ivp_domain.specs.Domains.{is_domain, is_point, size_on}
use Rattle.ivp_domain.proofs.Sizes.{places_below}
use Rattle.ivp_build.specs.Places.{axis_on}
use Rattle.bhv_file.specs.Named.{axis_number, named_axis}
use Rattle.bhv_file.specs.Params.{has_axis}

-- where some item passes, the first that does stands within the list
first_within : {X : Type 0} (test : X → Bool) (xs : List X) → list_any test xs ≡ true → position_or_len test xs < length xs
first_within test [] some = absurd cc
first_within {X} test (x ∷ xs) some = by (test x) refl (first_within test xs)
  where
    by : (b : Bool) → test x ≡ b → (list_any test xs ≡ true → position_or_len test xs < length xs) → position_or_len test (x ∷ xs) < suc (length xs)
    by true e rest = rw e (omega arith)
    by false e rest =
        let more : list_any test xs ≡ true = grind arith in
        let less = rest more in
        rw e (omega (arith, less))

-- the axis that has the name is the first one found
pub named_at : (axes : List Axis) (name : List ℕ) → has_axis axes name ≡ true → (position (λ axis. bytes_eq axis.name name) axes ≡ Some (axis_number axes name)) × (axis_number axes name < length axes)
named_at axes name has =
    let less = first_within (λ axis. bytes_eq axis.name name) axes has in
    (rw (lt-ltb (axis_number axes name) (length axes) less) refl, less)

-- the axis of this number is that of the name
pub axis_named : (axes : List Axis) (name : List ℕ) (k : ℕ) (axis : Axis) → k ≡ axis_number axes name → slice_get axes k ≡ Some axis → axis ≡ named_axis axes name
axis_named axes name k axis number there = sym (ap (λ (o : Option Axis). unwrap_or o no_axis) there) ∙ ap (axis_on axes) number

-- what is found stands within the list
pub place_within : {X : Type 0} (test : X → Bool) (xs : List X) → IfSome (position test xs) (λ place. place < length xs)
place_within test xs = by (nat_lt (position_or_len test xs) (length xs)) refl
  where
    by : (b : Bool) → nat_lt (position_or_len test xs) (length xs) ≡ b → IfSome (cond b (Some (position_or_len test xs)) None) (λ place. place < length xs)
    by true e = ltb-true (position_or_len test xs) (length xs) e
    by false e = tt

-- a point's place on an axis
pub place_there : (axes : List Axis) (point : Point) (k : ℕ) → is_domain axes ≡ true → is_point axes point ≡ true → length axes ≤ 4 → k < length axes → slice_index point.at k < size_on k axes
place_there axes point zero lawful inside few within = (places_below axes point lawful inside).0
place_there axes point (suc zero) lawful inside few within = (places_below axes point lawful inside).1
place_there axes point (suc (suc zero)) lawful inside few within = (places_below axes point lawful inside).2
place_there axes point (suc (suc (suc zero))) lawful inside few within = (places_below axes point lawful inside).3
place_there axes point (suc (suc (suc (suc k)))) lawful inside few within = absurd (omega arith)
