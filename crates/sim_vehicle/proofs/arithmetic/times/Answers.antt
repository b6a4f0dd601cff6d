use Rattle.std.proofs.Common.{w64, arith}
use Rattle.std.proofs.lemmas.Int.{ints, to_z-of_z}
use Rattle.sim_vehicle.proofs.Sizes.{product_within}
use Rattle.sim_vehicle.proofs.arithmetic.times.Goals as goal

pub overflow_mul-result : goal.overflow_mul-result
overflow_mul-result c =
    let size = product_within c.args.number c.args.factor c.requires.number c.requires.factor in
    rw (to_z-of_z w64 c.args.number c.ranges.number, to_z-of_z w64 c.args.factor c.ranges.factor) (omega (arith, ints, size.0, size.1))

pub returns-clause-value : goal.returns-clause-value
returns-clause-value c =
    let size = product_within c.args.number c.args.factor c.requires.number c.requires.factor in
    rw (to_z-of_z w64 c.args.number c.ranges.number, to_z-of_z w64 c.args.factor c.ranges.factor) (omega (arith, ints, size.0, size.1))

pub returns-clause-within : goal.returns-clause-within
returns-clause-within c = rw (returns-clause-value c) (product_within c.args.number c.args.factor c.requires.number c.requires.factor)
