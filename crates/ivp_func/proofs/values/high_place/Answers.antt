use Rattle.std.proofs.Common.{get_or, pos, arith}
use Rattle.std.specs.Prelude.{◌≤ℤ◌}
use Rattle.std.proofs.lemmas.Int.{ints}
use Rattle.ivp_func.specs.Pieces.{slope_on}
use Rattle.ivp_func.proofs.Rises.{falls}
use Rattle.ivp_func.proofs.values.high_place.Goals as goal

pub returns-else-piece-axis-gt0-clause-most : goal.returns-else-piece-axis-gt0-clause-most
returns-else-piece-axis-gt0-clause-most c = λ x low high.
    let level : slope_on c.args.axis c.args.piece.now ≤ℤ pos 0 = omega (arith, ints, c.if-piece-axis-gt0.false) in
    falls (slope_on c.args.axis c.args.piece.now) (get_or c.args.piece.now.area.low c.args.axis 0) x level low
