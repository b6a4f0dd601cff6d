use Rattle.std.proofs.Common.{get_or, arith}
use Rattle.ivp_func.proofs.Facts.{place_in}
use Rattle.ivp_func.proofs.Rises.{sum_le}
use Rattle.ivp_func.proofs.values.low_corner.Goals as goal

pub returns-clause-least : goal.returns-clause-least
returns-clause-least c = λ p h.
    let piece = c.args.piece.now in
    let one = place_in piece.area p h 0 (omega arith) in
    let two = place_in piece.area p h 1 (omega arith) in
    let three = place_in piece.area p h 2 (omega arith) in
    let four = place_in piece.area p h 3 (omega arith) in
    sum_le piece.base _ _ _ _ _ _ _ _
    (c.low_place-one.ensures.least (get_or p.at 0 0) one.0 one.1)
    (c.low_place-two.ensures.least (get_or p.at 1 0) two.0 two.1)
    (c.low_place-three.ensures.least (get_or p.at 2 0) three.0 three.1)
    (c.low_place-four.ensures.least (get_or p.at 3 0) four.0 four.1)
