use Rattle.std.proofs.Common.{rules, ◌≡◌, ◌∙◌, ◌≤ℤ◌, ◌*ℤ◌, ◌+ℤ◌, pos, int_div, ap, w64, to_z, of_z, arith}
use Rattle.std.proofs.lemmas.Int.{ints, to_z-of_z}
use Rattle.sim_vehicle.specs.Steering.{limited}
use Rattle.sim_vehicle.proofs.rig.rudder_of.Goals as goal

pub overflow_add-asked : goal.overflow_add-asked
overflow_add-asked c =
    let first = c.times.ensures.within in
    let second = c.times-2.ensures.within in
    omega (arith, ints, first.0, first.1, second.0, second.1)

pub times-requires-3-clause-number : goal.times-requires-3-clause-number
times-requires-3-clause-number c = rw (to_z-of_z w64 c.args.change c.ranges.change) (omega (arith, ints, c.requires.change.0), omega (arith, ints, c.requires.change.1))

pub overflow_add-asked-2 : goal.overflow_add-asked-2
overflow_add-asked-2 c =
    let first = c.times.ensures.within in
    let second = c.times-2.ensures.within in
    let third = c.times-3.ensures.within in
    omega (arith, ints, first.0, first.1, second.0, second.1, third.0, third.1)

pub limited-requires : goal.limited-requires
limited-requires c =
    let low : pos 0 ≤ℤ c.get-4.result = c.get-4.ensures.low in
    let high : c.get-4.result ≤ℤ pos 100000 = c.get-4.ensures.high in
    rw (to_z-of_z w64 c.get-4.result (search rules)) (low, omega (arith, ints, high))

pub returns-clause-value : goal.returns-clause-value
returns-clause-value c =
    let craft = c.args.craft.now in
    let error = to_z-of_z w64 c.args.error c.ranges.error in
    let integral = to_z-of_z w64 c.args.integral c.ranges.integral in
    let change = to_z-of_z w64 c.args.change c.ranges.change in
    let kp : to_z w64 (of_z w64 c.get.result) ≡ craft.yaw_kp = to_z-of_z w64 c.get.result (search rules) ∙ c.get.ensures.value in
    let ki : to_z w64 (of_z w64 c.get-2.result) ≡ craft.yaw_ki = to_z-of_z w64 c.get-2.result (search rules) ∙ c.get-2.ensures.value in
    let kd : to_z w64 (of_z w64 c.get-3.result) ≡ craft.yaw_kd = to_z-of_z w64 c.get-3.result (search rules) ∙ c.get-3.ensures.value in
    let limit : to_z w64 (of_z w64 c.get-4.result) ≡ craft.max_rudder = to_z-of_z w64 c.get-4.result (search rules) ∙ c.get-4.ensures.value in
    let first : c.times.result ≡ c.args.error *ℤ craft.yaw_kp = c.times.ensures.value ∙ (λ i. error i *ℤ kp i) in
    let second : c.times-2.result ≡ c.args.integral *ℤ craft.yaw_ki = c.times-2.ensures.value ∙ (λ i. integral i *ℤ ki i) in
    let third : c.times-3.result ≡ c.args.change *ℤ craft.yaw_kd = c.times-3.ensures.value ∙ (λ i. change i *ℤ kd i) in
    let asked = to_z w64 (of_z w64 (to_z w64 (of_z w64 (to_z w64 (of_z w64 c.times.result) +ℤ to_z w64 (of_z w64 c.times-2.result))) +ℤ to_z w64 (of_z w64 c.times-3.result))) in
    let sum : asked ≡ c.times.result +ℤ c.times-2.result +ℤ c.times-3.result
    = omega (arith, ints, c.times.ensures.within.0, c.times.ensures.within.1, c.times-2.ensures.within.0, c.times-2.ensures.within.1, c.times-3.ensures.within.0, c.times-3.ensures.within.1) in
    let part : to_z w64 (of_z w64 (int_div asked (pos 1000))) ≡ int_div asked (pos 1000) = omega (arith, ints) in
    let rudder = part ∙ ap (λ z. int_div z (pos 1000)) (sum ∙ (λ i. first i +ℤ second i +ℤ third i)) in
    to_z-of_z w64 c.limited.result (search rules) ∙ c.limited.ensures.value ∙ (λ i. limited (limit i) (rudder i))

pub returns-clause-within : goal.returns-clause-within
returns-clause-within c =
    let limit : to_z w64 (of_z w64 c.get-4.result) ≡ c.args.craft.now.max_rudder = to_z-of_z w64 c.get-4.result (search rules) ∙ c.get-4.ensures.value in
    let within = c.limited.ensures.within in
    rw (to_z-of_z w64 c.limited.result (search rules)) (omega (arith, ints, within.0, limit), omega (arith, ints, within.1, limit))
