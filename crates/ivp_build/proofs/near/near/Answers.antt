use Rattle.std.proofs.Common.{ℤ, pos, sym, ◌∙◌, ap}
use Rattle.std.specs.Prelude.{if◌then◌else◌}
use Rattle.ivp_domain.specs.declared.axis.Axis.{Axis}
use Rattle.ivp_build.specs.Places.{axis_on, course_of, miss, nearer, wraps}
use Rattle.ivp_build.proofs.Nearest.{around, end_cast, near_is}
use Rattle.ivp_build.proofs.near.near.Goals as goal
use Rattle.ivp_domain.specs.Axes.{is_good_axis}

pub returns-clause-place : goal.returns-clause-place
returns-clause-place c =
    let axis : Axis = axis_on c.args.domain.now c.args.axis in
    let along : Axis = c.axis_on-along.result in
    let number : ℤ = c.args.number in
    let same = c.axis_on-along.ensures.axis in
    let given = end_cast number c.requires.number in
    let sought = end_cast c.sought.result c.sought.ensures.within ∙ c.sought.ensures.sought
    ∙ (ap (λ n. if wraps along then pos (course_of n) else n) given ∙ ap (λ (a : Axis). if wraps a then pos (course_of number) else number) same) in
    let above = c.first_from-above in
    let below = c.first_before-below in
    let a = around axis along _ (if wraps axis then pos (course_of number) else number) _ below.result above.result same c.axis_on-along.ensures.count sought above.ensures.before above.ensures.reached
    above.ensures.within below.ensures.none below.ensures.before below.ensures.reached below.ensures.within in
    let good = ap is_good_axis (sym same) ∙ c.axis_on-along.ensures.good in
    let lower = c.nearer-lower.ensures.place ∙ ap (λ n. nearer (miss axis n) 0 below.result) given in
    c.nearer.ensures.place ∙ (ap (λ n. nearer (miss axis n) c.nearer-lower.result above.result) given ∙ ap (λ l. nearer (miss axis number) l above.result) lower)
    ∙ near_is axis number below.result above.result good a
