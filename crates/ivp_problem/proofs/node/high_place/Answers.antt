use Rattle.std.proofs.Common.{get_or, pos, arith}
use Rattle.std.specs.Prelude.{◌≤ℤ◌, ◌<ℤ◌}
use Rattle.std.proofs.lemmas.Int.{ints}
use Rattle.ivp_problem.specs.Trees.{slope_at}
use Rattle.ivp_problem.proofs.Slopes.{beats_high, beats_low}
use Rattle.ivp_problem.proofs.node.high_place.Goals as goal

pub returns-then-node-axis-gt0-clause-most : goal.returns-then-node-axis-gt0-clause-most
returns-then-node-axis-gt0-clause-most c = λ x low high.
    let up : pos 0 <ℤ slope_at c.args.node.now c.args.axis = omega (arith, ints, c.if-node-axis-gt0.true) in
    beats_high (slope_at c.args.node.now c.args.axis) (get_or c.args.node.now.area.high c.args.axis 0) x up high

pub returns-else-node-axis-gt0-clause-most : goal.returns-else-node-axis-gt0-clause-most
returns-else-node-axis-gt0-clause-most c = λ x low high.
    let down : slope_at c.args.node.now c.args.axis ≤ℤ pos 0 = omega (arith, ints, c.if-node-axis-gt0.false) in
    beats_low (slope_at c.args.node.now c.args.axis) (get_or c.args.node.now.area.low c.args.axis 0) x down low
