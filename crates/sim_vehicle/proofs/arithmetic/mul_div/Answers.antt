use Rattle.std.proofs.Common.{◌*ℤ◌, int_div, w64, FitsSigned, arith}
use Rattle.std.proofs.lemmas.Int.{ints, to_z-of_z}
use mir.Syntax.{w128}
use Rattle.sim_vehicle.proofs.Sizes.{quotient_within, wide_within}
use Rattle.sim_vehicle.proofs.arithmetic.mul_div.Goals as goal

pub nonzero_div-result : goal.nonzero_div-result
nonzero_div-result c =
    let size = wide_within c.args.one c.args.other c.requires.one c.requires.other in
    let part = quotient_within (c.args.one *ℤ c.args.other) c.args.by size c.requires.by.0 in
    let one : FitsSigned w128 c.args.one = omega (arith, ints, c.requires.one.0, c.requires.one.1) in
    let other : FitsSigned w128 c.args.other = omega (arith, ints, c.requires.other.0, c.requires.other.1) in
    let by : FitsSigned w128 c.args.by = omega (arith, ints, c.requires.by.0, c.requires.by.1) in
    let product : FitsSigned w128 (c.args.one *ℤ c.args.other) = omega (arith, ints, size.0, size.1) in
    rw (
      to_z-of_z w64 c.args.one c.ranges.one,
      to_z-of_z w64 c.args.other c.ranges.other,
      to_z-of_z w64 c.args.by c.ranges.by,
      to_z-of_z w128 c.args.one one,
      to_z-of_z w128 c.args.other other,
      to_z-of_z w128 c.args.by by,
      to_z-of_z w128 (c.args.one *ℤ c.args.other) product,
    )
    (omega (arith, ints, c.requires.by.0, c.requires.by.1), omega (arith, ints, part.0, part.1))

pub returns-clause-value : goal.returns-clause-value
returns-clause-value c =
    let size = wide_within c.args.one c.args.other c.requires.one c.requires.other in
    let part = quotient_within (c.args.one *ℤ c.args.other) c.args.by size c.requires.by.0 in
    let one : FitsSigned w128 c.args.one = omega (arith, ints, c.requires.one.0, c.requires.one.1) in
    let other : FitsSigned w128 c.args.other = omega (arith, ints, c.requires.other.0, c.requires.other.1) in
    let by : FitsSigned w128 c.args.by = omega (arith, ints, c.requires.by.0, c.requires.by.1) in
    let product : FitsSigned w128 (c.args.one *ℤ c.args.other) = omega (arith, ints, size.0, size.1) in
    rw (
      to_z-of_z w64 c.args.one c.ranges.one,
      to_z-of_z w64 c.args.other c.ranges.other,
      to_z-of_z w64 c.args.by c.ranges.by,
      to_z-of_z w128 c.args.one one,
      to_z-of_z w128 c.args.other other,
      to_z-of_z w128 c.args.by by,
      to_z-of_z w128 (c.args.one *ℤ c.args.other) product,
    )
    (to_z-of_z w128 (int_div (c.args.one *ℤ c.args.other) c.args.by) (omega (arith, ints, part.0, part.1)))

pub returns-clause-within : goal.returns-clause-within
returns-clause-within c =
    let size = wide_within c.args.one c.args.other c.requires.one c.requires.other in
    rw (returns-clause-value c) (quotient_within (c.args.one *ℤ c.args.other) c.args.by size c.requires.by.0)
