use Rattle.std.proofs.Common.{nat_abs, ◌-ℤ◌, FitsSigned, to_z, of_z, w64, sym, ap, ◌∙◌, rules}
use Rattle.std.proofs.lemmas.Int.{to_z-of_z}
use Rattle.ivp_domain.specs.Axes.{value_on}
use Rattle.ivp_build.specs.Places.{axis_on, shorter_way, wraps}
use Rattle.ivp_build.proofs.Nearest.{miss_along, miss_round}
use Rattle.ivp_build.proofs.near.miss.Goals as goal

pub returns-then-wraps : goal.returns-then-wraps
returns-then-wraps c =
    let axis = axis_on c.args.domain.now c.args.axis in
    let fits : FitsSigned w64 c.value_at_place.result = search rules in
    let value = to_z-of_z w64 c.value_at_place.result fits ∙ c.value_at_place.ensures in
    let number = to_z-of_z w64 c.args.number c.ranges.number in
    let gap = c.abs_diff-gap.ensures ∙ ap (λ v. nat_abs (v -ℤ to_z w64 (of_z w64 c.args.number))) value ∙ ap (λ n. nat_abs (value_on axis c.args.place -ℤ n)) number in
    let round = sym (c.wraps.ensures ∙ ap wraps c.axis_on-along.ensures.axis) ∙ c.if-wraps.true in
    c.shorter_way.ensures ∙ ap (shorter_way 360000) gap ∙ sym (miss_round axis c.args.number c.args.place round)

pub returns-else-wraps : goal.returns-else-wraps
returns-else-wraps c =
    let axis = axis_on c.args.domain.now c.args.axis in
    let fits : FitsSigned w64 c.value_at_place.result = search rules in
    let value = to_z-of_z w64 c.value_at_place.result fits ∙ c.value_at_place.ensures in
    let number = to_z-of_z w64 c.args.number c.ranges.number in
    let gap = c.abs_diff-gap.ensures ∙ ap (λ v. nat_abs (v -ℤ to_z w64 (of_z w64 c.args.number))) value ∙ ap (λ n. nat_abs (value_on axis c.args.place -ℤ n)) number in
    let round = sym (c.wraps.ensures ∙ ap wraps c.axis_on-along.ensures.axis) ∙ c.if-wraps.false in
    gap ∙ sym (miss_along axis c.args.number c.args.place round)
