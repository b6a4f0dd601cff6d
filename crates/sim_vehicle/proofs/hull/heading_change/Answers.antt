use Rattle.std.proofs.Common.{rules, w64, arith}
use Rattle.std.proofs.lemmas.Int.{ints, to_z-of_z}
use Rattle.sim_vehicle.proofs.hull.heading_change.Goals as goal

pub mul_div-requires-clause-other : goal.mul_div-requires-clause-other
mul_div-requires-clause-other c =
    let within = c.in_step.ensures.within in
    rw (to_z-of_z w64 c.in_step.result (search rules)) (omega (arith, ints, within.0), omega (arith, ints, within.1))
