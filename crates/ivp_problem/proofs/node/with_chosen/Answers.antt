use Rattle.std.proofs.Common.{◌≡◌, pos, ◌+ℤ◌, ◌*ℤ◌, ◌*◌, ◌^◌, to_z, of_z, w64, refl, arith}
use Rattle.std.proofs.lemmas.Int.{ints}
use mir.Syntax.{w128}
use Rattle.ivp_problem.proofs.Slopes.{weight_most, wide_fits, widened, within_more, within_product}
use Rattle.ivp_problem.proofs.Nodes.{small_base}
use Rattle.ivp_problem.proofs.node.with_chosen.Goals as goal

pub overflow_mul-result : goal.overflow_mul-result
overflow_mul-result c =
    let base = c.args.piece.now.base in
    let small = small_base c.args.piece.now c.requires.piece in
    let most = (weight_most c.args.weight c.requires.weight).1 in
    let within = within_product c.args.weight base 10000000 (10 ^ 14) most small in
    let weight : to_z w128 c.args.weight ≡ pos c.args.weight = omega (arith, ints, most) in
    rw (weight, widened base (within_more (10 ^ 14) (2 ^ 62) base (omega arith) small)) (wide_fits (pos c.args.weight *ℤ base) (within_more (10000000 * 10 ^ 14) (2 ^ 126) (pos c.args.weight *ℤ base) (omega arith) within))

pub overflow_add-result-2 : goal.overflow_add-result-2
overflow_add-result-2 c =
    let base = c.args.piece.now.base in
    let small = small_base c.args.piece.now c.requires.piece in
    let most = (weight_most c.args.weight c.requires.weight).1 in
    let within = within_product c.args.weight base 10000000 (10 ^ 14) most small in
    let above = within.above in
    let below = within.below in
    let bound = c.requires.node.base in
    let weight : to_z w128 c.args.weight ≡ pos c.args.weight = omega (arith, ints, most) in
    rw (weight, widened base (within_more (10 ^ 14) (2 ^ 62) base (omega arith) small)) (omega (arith, ints))

pub returns : goal.returns
returns c =
    let base = c.args.piece.now.base in
    let small = small_base c.args.piece.now c.requires.piece in
    let most = (weight_most c.args.weight c.requires.weight).1 in
    let within = within_product c.args.weight base 10000000 (10 ^ 14) most small in
    let above = within.above in
    let below = within.below in
    let bound = c.requires.node.base in
    let weight : to_z w128 c.args.weight ≡ pos c.args.weight = omega (arith, ints, most) in
    let sum : to_z w128 (of_z w128 (to_z w128 (of_z w128 c.args.node.now.base) +ℤ to_z w128 (of_z w128 (pos c.args.weight *ℤ base)))) ≡ (c.args.node.now.base +ℤ pos c.args.weight *ℤ base) = omega (arith, ints) in
    let one : to_z w64 (of_z w64 c.slope_with.result) ≡ c.slope_with.result = omega (arith, ints) in
    let two : to_z w64 (of_z w64 c.slope_with-2.result) ≡ c.slope_with-2.result = omega (arith, ints) in
    let three : to_z w64 (of_z w64 c.slope_with-3.result) ≡ c.slope_with-3.result = omega (arith, ints) in
    let four : to_z w64 (of_z w64 c.slope_with-4.result) ≡ c.slope_with-4.result = omega (arith, ints) in
    rw (weight, widened base (within_more (10 ^ 14) (2 ^ 62) base (omega arith) small), sum, one, two, three, four, c.slope_with.ensures, c.slope_with-2.ensures, c.slope_with-3.ensures, c.slope_with-4.ensures) refl
