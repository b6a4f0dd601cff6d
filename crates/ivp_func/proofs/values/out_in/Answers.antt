use Rattle.std.proofs.Common.{pos, arith}
use Rattle.std.specs.Prelude.{◌≤ℤ◌}
use Rattle.std.proofs.lemmas.Int.{ints}
use Rattle.ivp_func.specs.Pieces.{piece_value}
use Rattle.ivp_func.proofs.Rises.{value_within}
use Rattle.ivp_func.proofs.values.out_in.Goals as goal

pub returns-clause-none : goal.returns-clause-none
returns-clause-none c = λ p h.
    let v = piece_value c.args.piece.now p in
    let high = c.high_corner-high.ensures.greatest p h in
    let low = c.low_corner-low.ensures.least p h in
    let most : v ≤ℤ pos 100000 = omega (arith, ints, c.value.ensures, c.if-value-gt-MOST.false, high) in
    let least : pos 0 ≤ℤ v = omega (arith, ints, c.value-2.ensures, c.if-value-lt0.false, low) in
    value_within v least most
