use Rattle.std.proofs.Common.{pos, ◌*ℤ◌, ◌*◌, ◌^◌, arith}
use Rattle.std.proofs.lemmas.Int.{ints}
use Rattle.ivp_func.specs.Pieces.{slope_on}
use Rattle.ivp_problem.proofs.Slopes.{cast_product, fits, weight_most, within_more, within_product}
use Rattle.ivp_problem.proofs.Nodes.{small_slope}
use Rattle.ivp_problem.proofs.node.slope_with.Goals as goal

pub overflow_mul-result : goal.overflow_mul-result
overflow_mul-result c =
    let slope = slope_on c.args.axis c.args.piece.now in
    let small = small_slope c.args.piece.now c.requires.piece c.args.axis c.requires.axis in
    let most = (weight_most c.args.weight c.requires.weight).1 in
    let within = within_product c.args.weight slope 10000000 100000 most small in
    rw (cast_product c.args.weight slope most (within_more 100000 (2 ^ 62) slope (omega arith) small)) (fits (pos c.args.weight *ℤ slope) (within_more (10000000 * 100000) (2 ^ 62) (pos c.args.weight *ℤ slope) (omega arith) within))

pub overflow_add-result : goal.overflow_add-result
overflow_add-result c =
    let slope = slope_on c.args.axis c.args.piece.now in
    let small = small_slope c.args.piece.now c.requires.piece c.args.axis c.requires.axis in
    let most = (weight_most c.args.weight c.requires.weight).1 in
    let within = within_product c.args.weight slope 10000000 100000 most small in
    let above = within.above in
    let below = within.below in
    let bound = c.requires.node.slope c.args.axis c.requires.axis in
    rw (cast_product c.args.weight slope most (within_more 100000 (2 ^ 62) slope (omega arith) small)) (omega (arith, ints))

pub returns : goal.returns
returns c =
    let slope = slope_on c.args.axis c.args.piece.now in
    let small = small_slope c.args.piece.now c.requires.piece c.args.axis c.requires.axis in
    let most = (weight_most c.args.weight c.requires.weight).1 in
    let within = within_product c.args.weight slope 10000000 100000 most small in
    let above = within.above in
    let below = within.below in
    let bound = c.requires.node.slope c.args.axis c.requires.axis in
    rw (cast_product c.args.weight slope most (within_more 100000 (2 ^ 62) slope (omega arith) small)) (omega (arith, ints))
