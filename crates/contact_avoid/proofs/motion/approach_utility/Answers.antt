use Rattle.std.proofs.Common.{rules, ◌≡◌, ◌∙◌, pos, w64}
use Rattle.std.proofs.lemmas.Int.{to_z-of_z}
use Rattle.contact_avoid.specs.Approach.{relative_position, relative_velocity, utility_by}
use Rattle.contact_avoid.proofs.motion.approach_utility.Goals as goal

pub returns : goal.returns
returns c =
    let speed = to_z-of_z w64 c.args.speed (search rules) in
    let course = to_z-of_z w64 c.args.course (search rules) in
    let r : c.relative_position-r.result ≡ relative_position c.args.own c.args.contact = c.relative_position-r.ensures in
    let w : c.relative_velocity-w.result ≡ relative_velocity c.args.contact c.args.speed c.args.course
    = c.relative_velocity-w.ensures.value ∙ (λ i. relative_velocity c.args.contact (speed i) (course i)) in
    to_z-of_z w64 c.utility_by.result (search rules) ∙ c.utility_by.ensures ∙ (λ i. pos (utility_by c.args.near c.args.far (r i) (w i)))
