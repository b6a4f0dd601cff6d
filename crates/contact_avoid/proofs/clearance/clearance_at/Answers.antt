use Rattle.std.proofs.Common.{ℤ, pos, ap, nat_abs, codes, rules, arith, w64, subst, sym, ◌∙◌}
use Rattle.std.proofs.lemmas.Int.{ints, to_z-of_z}
use Rattle.contact_avoid.specs.Approach.{approach_utility}
use Rattle.contact_avoid.specs.Avoids.{number_named}
use Rattle.contact_avoid.specs.Bounds.{LiesBetween}
use Rattle.contact_avoid.proofs.Clearing.{utility_few}
use Rattle.contact_avoid.proofs.clearance.clearance_at.Goals as goal

pub returns-clause-utility : goal.returns-clause-utility
returns-clause-utility c =
    let near = c.unsigned_abs-near.ensures.value ∙ ap nat_abs (to_z-of_z w64 c.args.avoidance.now.near (search rules)) in
    let far = c.unsigned_abs-far.ensures.value ∙ ap nat_abs (to_z-of_z w64 c.args.avoidance.now.far (search rules)) in
    let speed = to_z-of_z w64 c.speed_at-speed.result (search rules) ∙ c.speed_at-speed.ensures.number in
    let course = to_z-of_z w64 c.number_named-course.result (search rules) ∙ c.number_named-course.ensures.number in
    to_z-of_z w64 c.approach_utility.result (search rules) ∙ c.approach_utility.ensures ∙ (λ i. pos (approach_utility (near i) (far i) c.args.own.now c.args.track.now (speed i) (course i)))

pub returns-clause-within : goal.returns-clause-within
returns-clause-within c =
    let axes = c.args.domain.now in
    let few = utility_few (nat_abs c.args.avoidance.now.near) (nat_abs c.args.avoidance.now.far) c.args.own.now c.args.track.now (number_named axes (codes "speed") c.args.point.now) (number_named axes (codes "course") c.args.point.now) in
    subst (λ (v : ℤ). LiesBetween (pos 0) (pos 100000) v) (sym (returns-clause-utility c)) (omega (arith, ints), omega (arith, ints, few))
