use Rattle.std.proofs.Common.{get_or, arith}
use Rattle.ivp_func.proofs.Facts.{place_in}
use Rattle.ivp_func.proofs.Rises.{sum_le}
use Rattle.ivp_func.proofs.values.high_corner.Goals as goal

pub returns-clause-greatest : goal.returns-clause-greatest
returns-clause-greatest c = λ p h.
    let piece = c.args.piece.now in
    let one = place_in piece.area p h 0 (omega arith) in
    let two = place_in piece.area p h 1 (omega arith) in
    let three = place_in piece.area p h 2 (omega arith) in
    let four = place_in piece.area p h 3 (omega arith) in
    sum_le piece.base _ _ _ _ _ _ _ _
    (c.high_place-one.ensures.most (get_or p.at 0 0) one.0 one.1)
    (c.high_place-two.ensures.most (get_or p.at 1 0) two.0 two.1)
    (c.high_place-three.ensures.most (get_or p.at 2 0) three.0 three.1)
    (c.high_place-four.ensures.most (get_or p.at 3 0) four.0 four.1)
