-- The definitions on worked examples.
use Rattle.std.proofs.Common.{◌≡◌, ℕ, true, false, Some, None, Ok, Err, pos, neg_ℤ, List, [], ◌∷◌, ◌++◌, length, refl, ap, arith}
use Rattle.std.specs.Prelude.{codes}
use Rattle.ivp_domain.specs.declared.axis.Axis.{Axis}
use Rattle.ivp_domain.specs.declared.boxes.BoxN.{BoxN}
use Rattle.ivp_domain.specs.declared.domain.DomainFault.TheVariants.{BadAxis, TooLarge, SameName}
use Rattle.ivp_domain.specs.AxisNames.{is_axis_name}
use Rattle.ivp_domain.specs.Axes.{is_good_axis, no_axis, value_on}
use Rattle.ivp_domain.specs.Boxes.{meet_of, point_from, points_in, volume_of}
use Rattle.ivp_domain.specs.Domains.{domain_of, index_of, is_domain, points_of, size_of, size_on}
use Rattle.ivp_domain.specs.Filled.{IsFilled}

abbrev axis : List ℕ → ℕ → ℕ → ℕ → Axis
axis name low high points = record { name = name; low = pos low; high = pos high; points = points }

-- domain a:0:2:3, domain b:0:1:2
abbrev six : List Axis
six = axis (codes "a") 0 2000 3 ∷ axis (codes "b") 0 1000 2 ∷ []

six_is_a_domain : domain_of six ≡ Ok six
six_is_a_domain = refl

points_of_six : points_of six ≡ point_from 0 0 0 0 ∷ point_from 0 1 0 0 ∷ point_from 1 0 0 0 ∷ point_from 1 1 0 0 ∷ point_from 2 0 0 0 ∷ point_from 2 1 0 0 ∷ []
points_of_six = refl

index_in_six : index_of six (point_from 2 1 0 0) ≡ 5
index_in_six = refl

-- bad axes come before the size, and the size before a repeated name
first_bad : domain_of (axis (codes "a") 0 1 134217729 ∷ axis (codes "a") 0 1 2 ∷ axis (codes "b") 5 5 2 ∷ axis (codes "c") 0 1 1 ∷ []) ≡ Err (BadAxis 2)
first_bad = refl

then_size : domain_of (axis (codes "a") 0 1 134217729 ∷ axis (codes "a") 0 1 2 ∷ []) ≡ Err TooLarge
then_size = refl

then_name : domain_of (axis (codes "a") 0 1 134217728 ∷ axis (codes "a") 0 1 2 ∷ []) ≡ Err (SameName 1)
then_name = refl

-- course:0:359:360 in steps of one, and a value that is rounded down towards the low end
course : value_on (axis (codes "course") 0 359000 360) 90 ≡ pos 90000
course = refl

rounded : value_on (record { name = codes "x"; low = neg_ℤ (pos 10); high = pos 0; points = 4 }) 1 ≡ neg_ℤ (pos 7)
rounded = refl

abbrev area : ℕ → ℕ → ℕ → ℕ → BoxN
area low high low' high' = record { low = low ∷ low' ∷ 0 ∷ 0 ∷ []; high = high ∷ high' ∷ 0 ∷ 0 ∷ [] }

-- boxes that share one index touch, and their meet has it
touching : meet_of (area 0 2 0 4) (area 2 5 3 9) ≡ Some (area 2 2 3 4)
touching = refl

apart : meet_of (area 0 2 0 4) (area 3 5 0 4) ≡ None
apart = refl

counted : (volume_of (area 2 2 3 4) ≡ 2) × (length (points_in (area 2 2 3 4)) ≡ 2)
counted = (refl, refl)

names : (is_axis_name (codes "x_1") ≡ true) × (is_axis_name (codes "1x") ≡ false) × (is_axis_name [] ≡ false) × (is_axis_name (codes "abcdefghijklmnopq") ≡ false) × (is_axis_name (codes "a-b") ≡ false)
names = (refl, refl, refl, refl, refl)

-- one to four good axes of different names, with at most 2^28 points, are a domain, and nothing else is
domains : (is_domain six ≡ true) × (is_domain [] ≡ false) × (is_domain (axis (codes "a") 0 1 2 ∷ axis (codes "b") 0 1 1 ∷ []) ≡ false)
domains = (refl, refl, refl)

sizes : (is_domain (axis (codes "a") 0 1 134217728 ∷ axis (codes "b") 0 1 2 ∷ []) ≡ true) × (is_domain (axis (codes "a") 0 1 134217729 ∷ axis (codes "b") 0 1 2 ∷ []) ≡ false)
sizes = (refl, refl)

repeated : is_domain (axis (codes "a") 0 1 2 ∷ axis (codes "b") 0 1 2 ∷ axis (codes "a") 0 1 2 ∷ []) ≡ false
repeated = refl

four_at_most : (is_domain (six ++ axis (codes "c") 0 1 2 ∷ axis (codes "d") 0 1 2 ∷ []) ≡ true) × (is_domain (six ++ axis (codes "c") 0 1 2 ∷ axis (codes "d") 0 1 2 ∷ axis (codes "e") 0 1 2 ∷ []) ≡ false)
four_at_most = (refl, refl)

-- what stands past the last axis has one point, as many as a domain has there, and so is no good axis
past_the_last : (no_axis.points ≡ size_on 2 six) × (is_good_axis no_axis ≡ false)
past_the_last = (refl, refl)

-- an array of four places that holds these two axes, and not one alone; what stands behind the list counts too, and no count is past the array's end
filled : IsFilled 4 no_axis 2 (six ++ no_axis ∷ no_axis ∷ [])
filled = (refl, refl)

one_too_few : IsFilled 4 no_axis 1 (six ++ no_axis ∷ no_axis ∷ []) → ⊥
one_too_few is = absurd (omega (arith, ap size_of is.1))

left_behind : IsFilled {A = ℕ} 4 0 2 (7 ∷ 8 ∷ 0 ∷ 9 ∷ []) → ⊥
left_behind is = let rest = is.1 in absurd (cc)

counted_past_the_end : IsFilled {A = ℕ} 4 0 5 (7 ∷ 8 ∷ 9 ∷ 6 ∷ []) → ⊥
counted_past_the_end is = let count = is.0 in absurd (cc)
