use Rattle.std.proofs.Common.{rules, ◌≡◌, ◌∙◌, ap, w32, w64, to_z, of_z}
use Rattle.std.proofs.lemmas.Int.{to_z-of_z}
use Rattle.helm_geo.specs.Angles.{cos4, sin4}
use Rattle.sim_vehicle.specs.Motion.{whole_degrees, depth_after, heading_after, coordinate_after, rudder_taken, speed_after, thrust_taken}
use Rattle.sim_vehicle.proofs.hull.advance.Goals as goal

pub returns-clause-value : goal.returns-clause-value
returns-clause-value c =
    let craft = c.args.craft.now in
    let hull = c.args.hull.now in
    let dt = c.args.dt in
    let x = to_z-of_z w64 hull.x (search rules) in
    let y = to_z-of_z w64 hull.y (search rules) in
    let heading = to_z-of_z w64 hull.heading (search rules) in
    let speed = to_z-of_z w64 hull.speed (search rules) in
    let depth = to_z-of_z w64 hull.depth (search rules) in
    let thrust : to_z w64 (of_z w64 c.thrust_taken.result) ≡ thrust_taken c.args.thrust = to_z-of_z w64 c.thrust_taken.result (search rules) ∙ c.thrust_taken.ensures.value in
    let rudder : to_z w64 (of_z w64 c.rudder_taken.result) ≡ rudder_taken c.args.rudder = to_z-of_z w64 c.rudder_taken.result (search rules) ∙ c.rudder_taken.ensures.value in
    let fast = to_z-of_z w64 c.speed_after-speed.result (search rules) ∙ c.speed_after-speed.ensures.value ∙ (λ i. speed_after craft (speed i) (thrust i) dt) in
    let turned = to_z-of_z w64 c.heading_after-heading.result (search rules) ∙ c.heading_after-heading.ensures.value ∙ (λ i. heading_after craft (heading i) (rudder i) (fast i) dt) in
    let degree = c.whole_degrees-degree.ensures.value ∙ ap whole_degrees turned in
    let sine = to_z-of_z w32 c.sin4.result (search rules) ∙ c.sin4.ensures.value ∙ ap sin4 degree in
    let cosine = to_z-of_z w32 c.cos4.result (search rules) ∙ c.cos4.ensures.value ∙ ap cos4 degree in
    let east = to_z-of_z w64 c.coordinate_after.result (search rules) ∙ c.coordinate_after.ensures.value ∙ (λ i. coordinate_after (x i) (fast i) dt (sine i)) in
    let north = to_z-of_z w64 c.coordinate_after-2.result (search rules) ∙ c.coordinate_after-2.ensures.value ∙ (λ i. coordinate_after (y i) (fast i) dt (cosine i)) in
    let sunk = to_z-of_z w64 c.depth_after.result (search rules) ∙ c.depth_after.ensures.value ∙ (λ i. depth_after craft (depth i) c.args.want_depth dt) in
    λ i. record { x = east i; y = north i; heading = turned i; speed = fast i; depth = sunk i }
