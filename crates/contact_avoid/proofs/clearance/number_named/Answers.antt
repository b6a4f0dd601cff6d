use Rattle.std.proofs.Common.{◌≡◌, ◌^◌, ℤ, rules, to_z, of_z, w64, subst, sym}
use Rattle.std.proofs.lemmas.Int.{to_z-of_z}
use Rattle.ivp_domain.specs.declared.axis.Axis.{Axis}
use Rattle.ivp_domain.proofs.Sizes.{four_axes}
use Rattle.bhv_file.specs.Named.{named_axis}
use Rattle.bhv_file.proofs.Named.{axis_named, place_there}
use Rattle.contact_avoid.specs.Bounds.{LiesBetween, LiesWithin}
use Rattle.contact_avoid.proofs.Clearing.{end_within, number_between}
use Rattle.contact_avoid.proofs.clearance.number_named.Goals as goal

pub value-requires-clause-place : goal.value-requires-clause-place
value-requires-clause-place c =
    place_there c.args.domain.now c.args.point.now c.axis_number-axis.result c.axes-lawful.ensures.lawful c.requires.point (four_axes c.args.domain.now c.axes-lawful.ensures.lawful) c.axis_number-axis.ensures.within

pub returns-clause-ends : goal.returns-clause-ends
returns-clause-ends c =
    let between = number_between c.args.domain.now c.args.point.now c.axis_number-axis.result c.axis-along.result c.value.result c.axes-lawful.ensures.lawful c.requires.point c.axis_number-axis.ensures.within c.axis-along.ensures.axis c.axis-along.ensures.good c.value.ensures in
    let same : to_z w64 (of_z w64 c.value.result) ≡ c.value.result = to_z-of_z w64 c.value.result (search rules) in
    subst (λ (v : ℤ). LiesBetween (named_axis c.args.domain.now c.args.name.now).low (named_axis c.args.domain.now c.args.name.now).high v) (sym same) (subst (λ (axis : Axis). LiesBetween axis.low axis.high c.value.result) (axis_named c.args.domain.now c.args.name.now c.axis_number-axis.result c.axis-along.result c.axis_number-axis.ensures.number c.axis-along.ensures.axis) between)

pub returns-clause-within : goal.returns-clause-within
returns-clause-within c =
    let between = number_between c.args.domain.now c.args.point.now c.axis_number-axis.result c.axis-along.result c.value.result c.axes-lawful.ensures.lawful c.requires.point c.axis_number-axis.ensures.within c.axis-along.ensures.axis c.axis-along.ensures.good c.value.ensures in
    let same : to_z w64 (of_z w64 c.value.result) ≡ c.value.result = to_z-of_z w64 c.value.result (search rules) in
    subst (λ (v : ℤ). LiesWithin (10 ^ 12) v) (sym same) (end_within c.axis-along.result c.value.result c.axis-along.ensures.good between)
