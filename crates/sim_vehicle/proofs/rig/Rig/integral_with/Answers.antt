use Rattle.std.proofs.Common.{rules, ◌≡◌, ◌∙◌, ◌+ℤ◌, ap, w64, to_z, of_z, arith}
use Rattle.std.proofs.lemmas.Int.{ints, to_z-of_z}
use Rattle.sim_vehicle.specs.Steering.{limited, RigState}
use Rattle.sim_vehicle.proofs.rig.Rig.integral_with.Goals as goal

pub returns-clause-value : goal.returns-clause-value
returns-clause-value c =
    let kept = c.self.inside.integral in
    let same : kept ≡ c.args.self.now.integral = ap (λ (rig : RigState). rig.integral) c.self.view_is in
    let limit : to_z w64 (of_z w64 c.get.result) ≡ c.args.craft.now.integral_limit = to_z-of_z w64 c.get.result (search rules) ∙ c.get.ensures.value in
    let within = c.self.invariant in
    let sum : to_z w64 (of_z w64 (to_z w64 (of_z w64 kept) +ℤ to_z w64 (of_z w64 c.args.error))) ≡ kept +ℤ c.args.error
    = omega (arith, ints, within.0.0, within.0.1, c.requires.error.0, c.requires.error.1) in
    let all = sum ∙ ap (λ integral. integral +ℤ c.args.error) same in
    to_z-of_z w64 c.limited.result (search rules) ∙ c.limited.ensures.value ∙ (λ i. limited (limit i) (all i))
