use Rattle.std.proofs.Common.{rules, ◌≡◌, ◌∙◌, ◌≤ℤ◌, ◌*ℤ◌, ◌+ℤ◌, ◌-ℤ◌, neg_ℤ, pos, int_div, w64, to_z, of_z, arith}
use Rattle.std.proofs.lemmas.Int.{ints, to_z-of_z}
use Rattle.sim_vehicle.specs.Motion.{most_change}
use Rattle.sim_vehicle.specs.Steering.{clamped}
use Rattle.sim_vehicle.proofs.hull.speed_after.Goals as goal

pub toward-requires-clause-speed : goal.toward-requires-clause-speed
toward-requires-clause-speed c =
    let high : c.get.result ≤ℤ pos 100000 = c.get.ensures.high in
    let top : c.get.result ≡ c.args.craft.now.max_speed = c.get.ensures.value in
    rw (to_z-of_z w64 c.args.speed c.ranges.speed) (omega (arith, ints, c.requires.speed.0), omega (arith, ints, c.requires.speed.1, high, top))

pub toward-requires-clause-target : goal.toward-requires-clause-target
toward-requires-clause-target c =
    let high : c.get.result ≤ℤ pos 100000 = c.get.ensures.high in
    let plain : to_z w64 (of_z w64 c.get.result) ≡ c.get.result = to_z-of_z w64 c.get.result (search rules) in
    let within = c.target_speed-target.ensures.within in
    rw (to_z-of_z w64 c.target_speed-target.result (search rules)) (omega (arith, ints, within.0), omega (arith, ints, within.1, plain, high))

pub returns-clause-value : goal.returns-clause-value
returns-clause-value c =
    let speed = to_z-of_z w64 c.args.speed c.ranges.speed in
    let thrust = to_z-of_z w64 c.args.thrust c.ranges.thrust in
    let top : to_z w64 (of_z w64 c.get.result) ≡ c.args.craft.now.max_speed = to_z-of_z w64 c.get.result (search rules) ∙ c.get.ensures.value in
    let slowing : to_z w64 (of_z w64 c.get-2.result) ≡ c.args.craft.now.decel = to_z-of_z w64 c.get-2.result (search rules) ∙ c.get-2.ensures.value in
    let speeding : to_z w64 (of_z w64 c.get-3.result) ≡ c.args.craft.now.accel = to_z-of_z w64 c.get-3.result (search rules) ∙ c.get-3.ensures.value in
    let target : to_z w64 (of_z w64 c.target_speed-target.result) ≡ int_div (c.args.thrust *ℤ c.args.craft.now.max_speed) (pos 100000)
    = to_z-of_z w64 c.target_speed-target.result (search rules) ∙ c.target_speed-target.ensures.value ∙ (λ i. int_div (thrust i *ℤ top i) (pos 100000)) in
    let down : to_z w64 (of_z w64 c.most_change-down.result) ≡ most_change c.args.craft.now.decel c.args.dt
    = to_z-of_z w64 c.most_change-down.result (search rules) ∙ c.most_change-down.ensures.value ∙ (λ i. most_change (slowing i) c.args.dt) in
    let up : to_z w64 (of_z w64 c.most_change-up.result) ≡ most_change c.args.craft.now.accel c.args.dt
    = to_z-of_z w64 c.most_change-up.result (search rules) ∙ c.most_change-up.ensures.value ∙ (λ i. most_change (speeding i) c.args.dt) in
    to_z-of_z w64 c.toward.result (search rules) ∙ c.toward.ensures.value ∙ (λ i. speed i +ℤ clamped (neg_ℤ (down i)) (up i) (target i -ℤ speed i))

pub returns-clause-within : goal.returns-clause-within
returns-clause-within c =
    let top : c.get.result ≡ c.args.craft.now.max_speed = c.get.ensures.value in
    let plain : to_z w64 (of_z w64 c.get.result) ≡ c.get.result = to_z-of_z w64 c.get.result (search rules) in
    let within = c.target_speed-target.ensures.within in
    let speed : to_z w64 (of_z w64 c.args.speed) ≤ℤ c.args.craft.now.max_speed = rw (to_z-of_z w64 c.args.speed c.ranges.speed) c.requires.speed.1 in
    let target : to_z w64 (of_z w64 c.target_speed-target.result) ≤ℤ c.args.craft.now.max_speed = rw (to_z-of_z w64 c.target_speed-target.result (search rules)) (omega (arith, ints, within.1, plain, top)) in
    rw (to_z-of_z w64 c.toward.result (search rules)) (c.toward.ensures.low, c.toward.ensures.high c.args.craft.now.max_speed speed target)

pub returns-clause-slow : goal.returns-clause-slow
returns-clause-slow c =
    let high : c.get.result ≤ℤ pos 100000 = c.get.ensures.high in
    let top : c.get.result ≡ c.args.craft.now.max_speed = c.get.ensures.value in
    let plain : to_z w64 (of_z w64 c.get.result) ≡ c.get.result = to_z-of_z w64 c.get.result (search rules) in
    let within = c.target_speed-target.ensures.within in
    let speed : to_z w64 (of_z w64 c.args.speed) ≤ℤ pos 100000 = rw (to_z-of_z w64 c.args.speed c.ranges.speed) (omega (arith, ints, c.requires.speed.1, high, top)) in
    let target : to_z w64 (of_z w64 c.target_speed-target.result) ≤ℤ pos 100000 = rw (to_z-of_z w64 c.target_speed-target.result (search rules)) (omega (arith, ints, within.1, plain, high)) in
    rw (to_z-of_z w64 c.toward.result (search rules)) (c.toward.ensures.high (pos 100000) speed target)
