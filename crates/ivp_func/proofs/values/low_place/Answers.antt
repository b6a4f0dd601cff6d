use Rattle.std.proofs.Common.{get_or, pos, arith}
use Rattle.std.specs.Prelude.{◌≤ℤ◌}
use Rattle.std.proofs.lemmas.Int.{ints}
use Rattle.ivp_func.specs.Pieces.{slope_on}
use Rattle.ivp_func.proofs.Rises.{falls, rises}
use Rattle.ivp_func.proofs.values.low_place.Goals as goal

pub returns-then-piece-axis-lt0-clause-least : goal.returns-then-piece-axis-lt0-clause-least
returns-then-piece-axis-lt0-clause-least c = λ x low high.
    let falling : slope_on c.args.axis c.args.piece.now ≤ℤ pos 0 = omega (arith, ints, c.if-piece-axis-lt0.true) in
    falls (slope_on c.args.axis c.args.piece.now) x (get_or c.args.piece.now.area.high c.args.axis 0) falling high

pub returns-else-piece-axis-lt0-clause-least : goal.returns-else-piece-axis-lt0-clause-least
returns-else-piece-axis-lt0-clause-least c = λ x low high.
    let rising : pos 0 ≤ℤ slope_on c.args.axis c.args.piece.now = omega (arith, ints, c.if-piece-axis-lt0.false) in
    rises (slope_on c.args.axis c.args.piece.now) (get_or c.args.piece.now.area.low c.args.axis 0) x rising low
