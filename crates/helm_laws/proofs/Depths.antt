-- A greatest depth that outweighs the others is kept.
use Rattle.std.proofs.Common.{◌≡◌, ◌+◌, ◌-◌, ◌*◌, ◌/◌, ◌<◌, ◌≤◌, ◌≤ℤ◌, ◌-ℤ◌, inl, inr, ℕ, zero, suc, ℤ, nat_abs, Bool, true, false, cond, List, [], ◌∷◌, ◌++◌, Option, Some, None, refl, sym, ap, subst, ◌∙◌, arith}
use Rattle.std.specs.Prelude.{IfSome, codes, if◌then◌else◌, int_le, int_lt, nat_le, slice_index, unwrap_or}
use Rattle.std.specs.List.{filter, last_or}
use Rattle.std.proofs.lemmas.Bool.{cases_lt}
use Rattle.std.proofs.lemmas.Bool.Decides.{nat_tests}
use Rattle.std.proofs.lemmas.Int.{ints}
use Rattle.std.proofs.lemmas.List.Elements.{recursion_from_All}
use Rattle.std.proofs.lemmas.Nat.{le-div}
use Rattle.std.proofs.lemmas.Option.{unwrap_or-slice_get}
use Rattle.std.proofs.Math.Nat.{div-le_self, div-mul-le_self, mul-le-mul}
use Rattle.ivp_domain.specs.declared.axis.Axis.{Axis}
use Rattle.ivp_domain.specs.declared.boxes.Point.{Point}
use Rattle.ivp_domain.specs.Axes.{is_good_axis, no_axis, value_on}
use Rattle.ivp_domain.specs.Boxes.{numbers_from, point_from}
use Rattle.ivp_domain.specs.Domains.{is_domain, is_point}
use Rattle.ivp_domain.proofs.Sizes.{four_axes, good_axes, is_point-of, positive}
use Rattle.ivp_func.proofs.Facts.{passes_at}
use Rattle.ivp_build.specs.Places.{last_up_to, steps_of}
use Rattle.ivp_build.specs.Shapes.{at_most_at, height_at, limit_slopes}
use Rattle.ivp_build.proofs.Covers.{some_at}
use Rattle.bhv_file.specs.declared.spec.Shape.{Shape}
use Rattle.bhv_file.specs.declared.spec.Shape.TheVariants.{MaxDepth}
use Rattle.bhv_file.specs.Named.{axis_number, named_axis, place_on}
use Rattle.bhv_file.proofs.Named.{named_at}
use Rattle.bhv_file.specs.Params.{has_axis}
use Rattle.bhv_kinds.specs.Changes.{params_at, step_of}
use Rattle.bhv_kinds.specs.Giving.{gives_by_type, situation_at}
use Rattle.bhv_life.specs.Lives.{is_fresh, is_stepped}
use Rattle.ivp_cert.specs.declared.claim.Decision.{Decision}
use Rattle.helm_core.specs.Behaviors.{BhvSoFar, Judged, beginning_at, judged_at, past_so_far}
use Rattle.helm_core.specs.Decisions.{number_at, number_on}
use Rattle.helm_core.specs.Iterations.{iteration_at}
use Rattle.helm_core.specs.Plans.{plan_made}
use Rattle.helm_core.specs.Standings.{MayStep}
use Rattle.helm_core.specs.Ticks.{Seen, seen_at}
use Rattle.helm_core.specs.Worths.{ValidFilesDecideByWorth, times_worth, wanted_by_step, worth_to, worth_to_all}
use Rattle.helm_core.proofs.Listing.{blocks_hold}
use Rattle.helm_core.proofs.Turning.{all_may_step}
use Rattle.helm_laws.specs.Files.{OfValidFiles}
use Rattle.helm_laws.specs.Bounds.{DepthKept, OutweighsOthers, weight_in}
use Rattle.helm_laws.proofs.Bounding.{bounds}
use Rattle.helm_laws.proofs.Mosts.{MaySteps, all_most, middle}

-- what a greatest depth that is stepped is worth at a point
worth_by : (axes : List Axis) (seen : Seen) (one : BhvSoFar) (judged : Judged) (stepped : Bool) (depth width : ℤ) (point : Point) → stepped ≡ true → (params_at one.block.spec judged.changes).shape ≡ MaxDepth depth width
    → times_worth axes point (params_at one.block.spec judged.changes).weight (wanted_by_step axes seen one judged stepped)
    ≡ (params_at one.block.spec judged.changes).weight * at_most_at (named_axis axes (codes "depth")) depth (nat_abs width) 100000 (place_on axes (codes "depth") point)
worth_by axes seen one judged false depth width point is same = absurd (let e : false ≡ true = is in cc)
worth_by axes seen one judged true depth width point is same =
    let step = step_of axes seen.known seen.stamp (is_fresh (past_so_far one)) in
    ap (λ (shape : Shape). times_worth axes point (params_at one.block.spec judged.changes).weight (gives_by_type shape seen.known (situation_at one.block.spec judged.changes step)).utility) same

depth_worth : (axes : List Axis) (seen : Seen) (one : BhvSoFar) (others : List BhvSoFar) (depth width : ℤ) → OutweighsOthers axes seen one others depth width → (point : Point)
    → worth_to axes seen point one ≡ weight_in axes seen one * at_most_at (named_axis axes (codes "depth")) depth (nat_abs width) 100000 (place_on axes (codes "depth") point)
depth_worth axes seen one others depth width is point =
    worth_by axes seen one (judged_at axes seen one) (is_stepped one.block.common (past_so_far one) (beginning_at seen one.block.common)) depth width point is.stepped is.shape

-- the numbers of an axis rise with its places
some_steps : (axis : Axis) → is_good_axis axis ≡ true → 0 < axis.points - 1
some_steps axis good = grind (arith, nat_tests, ints)

parts_rise : (span steps p x : ℕ) → 0 < steps → p ≤ x → p * span / steps ≤ x * span / steps
parts_rise span steps p x some more =
    let whole = mul-le-mul {n₁ = p} {m₁ = span} {n₂ = x} {m₂ = span} more (omega arith) in
    let part = div-mul-le_self (p * span) steps in
    le-div (p * span / steps) (x * span) steps some (omega (arith, whole, part))

values_rise : (axis : Axis) (p x : ℕ) → is_good_axis axis ≡ true → p ≤ x → value_on axis p ≤ℤ value_on axis x
values_rise axis p x good more =
    let parts = parts_rise (nat_abs (axis.high -ℤ axis.low)) (axis.points - 1) p x (some_steps axis good) more in
    omega (arith, ints, parts)

first_value : (axis : Axis) → value_on axis 0 ≤ℤ axis.low
first_value axis = let none = div-le_self (0 * nat_abs (axis.high -ℤ axis.low)) (axis.points - 1) in omega (arith, ints, none)

-- so a place whose number is beyond a limit is beyond the last place within it
last_under : (within : ℕ → Bool) (p low n : ℕ) (o : Option ℕ) → 0 < p → ((x : ℕ) → p ≤ x → within x ≡ false) → IfSome o (λ x. x < p) → unwrap_or (last_or o (filter within (numbers_from low n))) 0 < p
last_under within p low zero None some beyond before = some
last_under within p low zero (Some x) some beyond before = before
last_under within p low (suc n) o some beyond before = by (within low) refl (last_under within p (suc low) n (Some low) some beyond) (last_under within p (suc low) n o some beyond before)
  where
    below : within low ≡ true → low < p
    below is = elim (cases_lt low p) [ inl less ↦ less | inr more ↦ absurd (let none = beyond low more in let e : true ≡ false = sym is ∙ none in cc) ]

    by : (b : Bool) → within low ≡ b → (low < p → unwrap_or (last_or (Some low) (filter within (numbers_from (suc low) n))) 0 < p) → unwrap_or (last_or o (filter within (numbers_from (suc low) n))) 0 < p
        → unwrap_or (last_or o (cond b (low ∷ filter within (numbers_from (suc low) n)) (filter within (numbers_from (suc low) n)))) 0 < p
    by true is own rest = own (below is)
    by false is own rest = rest

past_limit : (value limit other : ℤ) → int_lt limit value ≡ true → value ≤ℤ other → int_le other limit ≡ false
past_limit value limit other is more = grind (arith, nat_tests, ints)

below_limit : (value low limit : ℤ) → int_lt limit value ≡ true → value ≤ℤ low → low ≤ℤ limit → ⊥
below_limit value low limit is first begins = grind (arith, nat_tests, ints)

last_before : (axis : Axis) (limit : ℤ) (p : ℕ) → is_good_axis axis ≡ true → axis.low ≤ℤ limit → int_lt limit (value_on axis p) ≡ true → last_up_to axis limit < p
last_before axis limit p good begins deep =
    last_under (λ place. int_le (value_on axis place) limit) p 0 axis.points None (some p deep) (λ x more. past_limit (value_on axis p) limit (value_on axis x) deep (values_rise axis p x good more)) tt
  where
    some : (q : ℕ) → int_lt limit (value_on axis q) ≡ true → 0 < q
    some zero is = absurd (below_limit (value_on axis 0) axis.low limit is (first_value axis) begins)
    some (suc q) is = omega arith

-- and beyond it at least the loss of one place is lost
loss : (whole foot distance : ℕ) → 0 < distance → whole / foot ≤ whole / foot * distance
loss whole foot distance some = let more = mul-le-mul {n₁ = whole / foot} {m₁ = 1} {n₂ = whole / foot} {m₂ = distance} (omega arith) some in omega (arith, more)

lost : (axis : Axis) (width distance : ℕ) → 0 < distance → height_at (limit_slopes axis width 100000) distance + 100000 / steps_of axis width ≤ 100000
lost axis width distance some = by (nat_le distance 0) (nat_le distance (0 + steps_of axis width)) refl
  where
    none : nat_le distance 0 ≡ true → ⊥
    none is = grind (arith, nat_tests)

    by : (a b : Bool) → nat_le distance 0 ≡ a
        → (if a then 100000 - 0 * distance else if b then 100000 - 0 * 0 - (100000 - 0 * 0) / steps_of axis width * (distance - 0) else 0) + 100000 / steps_of axis width ≤ 100000
    by true b is = absurd (none is)
    by false true is =
        let more = loss 100000 (steps_of axis width) distance some in
        let few = div-le_self 100000 (steps_of axis width) in
        let same : distance - 0 ≡ distance = omega arith in
        rw same (omega (arith, more, few))
    by false false is = let few = div-le_self 100000 (steps_of axis width) in omega (arith, few)

beyond_loses : (axis : Axis) (limit : ℤ) (width p : ℕ) → is_good_axis axis ≡ true → axis.low ≤ℤ limit → int_lt limit (value_on axis p) ≡ true → at_most_at axis limit width 100000 p + 100000 / steps_of axis width ≤ 100000
beyond_loses axis limit width p good begins deep =
    let before = last_before axis limit p good begins deep in
    lost axis width (p - last_up_to axis limit) (omega (arith, before))

-- nothing is lost at the first place
first_whole : (axis : Axis) (limit : ℤ) (width : ℕ) → at_most_at axis limit width 100000 0 ≡ 100000
first_whole axis limit width = let none : 0 - last_up_to axis limit ≡ 0 = omega arith in ap (height_at (limit_slopes axis width 100000)) none

-- the axis of a name
record IsThere (axes : List Axis) (name : List ℕ) : Type 0 where
  within : axis_number axes name < 4
  good : is_good_axis (named_axis axes name) ≡ true
  numbers : (point : Point) → number_on axes name point ≡ value_on (named_axis axes name) (place_on axes name point)

there : (axes : List Axis) (name : List ℕ) → is_domain axes ≡ true → has_axis axes name ≡ true → IsThere axes name
there axes name domain has =
    let at = named_at axes name has in
    let found = some_at axes (axis_number axes name) at.1 in
    let four = four_axes axes domain in
    let few = at.1 in
    record {
      within = omega (arith, few, four);
      good = subst (λ (axis : Axis). is_good_axis axis ≡ true) (sym (ap (λ (o : Option Axis). unwrap_or o no_axis) found.1)) (passes_at is_good_axis axes (axis_number axes name) found.0 (good_axes axes domain) found.1);
      numbers = λ point. ap (number_at axes point) at.0 ∙ ap (λ (axis : Axis). value_on axis (place_on axes name point)) (sym (unwrap_or-slice_get axes (axis_number axes name) no_axis));
    }

-- the first point of all
abbrev origin : Point
origin = point_from 0 0 0 0

at_origin : (k : ℕ) → k < 4 → slice_index origin.at k ≡ 0
at_origin zero h = refl
at_origin (suc zero) h = refl
at_origin (suc (suc zero)) h = refl
at_origin (suc (suc (suc zero))) h = refl
at_origin (suc (suc (suc (suc k)))) h = absurd (omega arith)

origin_inside : (axes : List Axis) → is_domain axes ≡ true → is_point axes origin ≡ true
origin_inside axes domain = is_point-of axes 0 0 0 0 (positive axes domain 0) (positive axes domain 1) (positive axes domain 2) (positive axes domain 3)

-- what is lost of the weight
weighs : (weight height loss whole others : ℕ) → height + loss ≤ whole → others < weight * loss → weight * height + others < weight * whole
weighs weight height loss whole others within more =
    let product = mul-le-mul {n₁ = weight} {m₁ = height + loss} {n₂ = weight} {m₂ = whole} (omega arith) within in
    let parts : weight * (height + loss) ≡ weight * height + weight * loss = grind arith in
    omega (arith, product, parts, more)

costs : (axes : List Axis) (seen : Seen) (one : BhvSoFar) (others : List BhvSoFar) (depth width : ℤ) → is_domain axes ≡ true → MaySteps axes others → OutweighsOthers axes seen one others depth width
    → (point : Point) → is_point axes point ≡ true → int_lt depth (number_on axes (codes "depth") point) ≡ true → worth_to axes seen point one + worth_to_all axes seen others point < worth_to axes seen origin one
costs axes seen one others depth width domain may is point inside deep =
    let axis = named_axis axes (codes "depth") in
    let at = there axes (codes "depth") domain is.axis in
    let p = place_on axes (codes "depth") point in
    let below : int_lt depth (value_on axis p) ≡ true = ap (int_lt depth) (sym (at.numbers point)) ∙ deep in
    let loses = beyond_loses axis depth (nat_abs width) p at.good is.begins below in
    let here = depth_worth axes seen one others depth width is point in
    let first : worth_to axes seen origin one ≡ weight_in axes seen one * 100000
    = depth_worth axes seen one others depth width is origin ∙ ap (λ place. weight_in axes seen one * at_most_at axis depth (nat_abs width) 100000 place) (at_origin (axis_number axes (codes "depth")) at.within)
    ∙ ap (λ height. weight_in axes seen one * height) (first_whole axis depth (nat_abs width)) in
    let rest = all_most axes seen point others domain inside may in
    let more = is.loses in
    let less = weighs (weight_in axes seen one) (at_most_at axis depth (nat_abs width) 100000 p) (100000 / steps_of axis (nat_abs width)) 100000 (worth_to_all axes seen others point) loses (omega (arith, rest, more)) in
    omega (arith, here, first, less)

within_depth : (depth number : ℤ) → int_lt depth number ≡ false → number ≤ℤ depth
within_depth depth number is = grind (arith, nat_tests, ints)

pub depths : ValidFilesDecideByWorth → OfValidFiles DepthKept
depths law mission file valid read served ticks i before after one parts depth width is =
    let plan = plan_made mission file in
    let seen = seen_at file.decls ticks i in
    let may = blocks_hold (MayStep plan.axes) plan ticks i (recursion_from_All (MayStep plan.axes) plan.blocks (all_may_step mission.domain [] file.blocks read.blocks served)) in
    let others = (middle (λ one. MayStep mission.domain one.block) before after one (subst (MaySteps mission.domain) parts may)).1 in
    by (iteration_at plan ticks i).decision
    (bounds law mission file valid read served ticks i before after one parts (λ point. int_lt depth (number_on mission.domain (codes "depth") point)) origin (origin_inside mission.domain valid.domain)
    (costs mission.domain seen one (before ++ after) depth width valid.domain others is))
  where
    by : (made : Option Decision) → IfSome made (λ decision. int_lt depth (number_on mission.domain (codes "depth") decision.claim.point) ≡ false) → IfSome made (λ decision. number_on mission.domain (codes "depth") decision.claim.point ≤ℤ depth)
    by None kept = tt
    by (Some decision) kept = within_depth depth (number_on mission.domain (codes "depth") decision.claim.point) kept
