use Rattle.std.proofs.Common.{rules, ◌≡◌, ◌∙◌, ap, w64}
use Rattle.std.proofs.lemmas.Int.{to_z-of_z}
use Rattle.contact_avoid.specs.Approach.{degree_of, minus, velocity}
use Rattle.contact_avoid.proofs.motion.relative_velocity.Goals as goal

pub returns-clause-value : goal.returns-clause-value
returns-clause-value c =
    let contact = c.args.contact in
    let heading = to_z-of_z w64 contact.heading (search rules) in
    let course = to_z-of_z w64 c.args.course (search rules) in
    let fast = to_z-of_z w64 contact.speed (search rules) in
    let speed = to_z-of_z w64 c.args.speed (search rules) in
    let heads = c.degree_of.ensures.value ∙ ap degree_of heading in
    let degree = c.degree_of-2.ensures.value ∙ ap degree_of course in
    let moves : c.velocity-moves.result ≡ velocity contact.speed (degree_of contact.heading) = c.velocity-moves.ensures.value ∙ (λ i. velocity (fast i) (heads i)) in
    let own : c.velocity.result ≡ velocity c.args.speed (degree_of c.args.course) = c.velocity.ensures.value ∙ (λ i. velocity (speed i) (degree i)) in
    c.minus.ensures.value ∙ (λ i. minus (moves i) (own i))
