use Rattle.std.proofs.Common.{rules, ◌≡◌, ◌∙◌, ◌^◌, ◌*ℤ◌, ◌+ℤ◌, pos, int_div, ap, w32, w64, to_z, of_z, arith}
use Rattle.std.proofs.lemmas.Int.{ints, to_z-of_z}
use Rattle.sim_vehicle.specs.Steering.{limited}
use Rattle.sim_vehicle.proofs.hull.coordinate_after.Goals as goal

pub overflow_add-start : goal.overflow_add-start
overflow_add-start c =
    let within = c.times-gain.ensures.within in
    omega (arith, ints, c.requires.start.0, c.requires.start.1, within.0, within.1)

pub returns-clause-value : goal.returns-clause-value
returns-clause-value c =
    let speed = to_z-of_z w64 c.args.speed c.ranges.speed in
    let sine : to_z w64 (of_z w64 (to_z w32 (of_z w32 c.args.sine))) ≡ c.args.sine = omega (arith, ints, c.requires.sine.0, c.requires.sine.1) in
    let way : to_z w64 (of_z w64 c.in_step.result) ≡ c.args.speed *ℤ pos c.args.dt
    = to_z-of_z w64 c.in_step.result (search rules) ∙ c.in_step.ensures.value ∙ (λ i. speed i *ℤ pos c.args.dt) in
    let product : c.times-gain.result ≡ c.args.speed *ℤ pos c.args.dt *ℤ c.args.sine = c.times-gain.ensures.value ∙ (λ i. way i *ℤ sine i) in
    let within = c.times-gain.ensures.within in
    let sum : to_z w64 (of_z w64 (to_z w64 (of_z w64 c.args.start) +ℤ to_z w64 (of_z w64 (int_div (to_z w64 (of_z w64 c.times-gain.result)) (pos (10 ^ 7)))))) ≡ c.args.start +ℤ int_div c.times-gain.result (pos (10 ^ 7))
    = omega (arith, ints, c.requires.start.0, c.requires.start.1, within.0, within.1) in
    to_z-of_z w64 c.limited.result (search rules) ∙ c.limited.ensures.value
    ∙ ap (limited (pos (10 ^ 12))) (sum ∙ (λ i. c.args.start +ℤ int_div (product i) (pos (10 ^ 7))))
