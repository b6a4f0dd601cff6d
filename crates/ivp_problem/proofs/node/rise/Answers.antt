use Rattle.std.proofs.Common.{◌≡◌, get_or, refl, pos, ◌*ℤ◌, ◌*◌, ◌^◌, to_z, arith}
use Rattle.std.proofs.lemmas.Int.{ints}
use mir.Syntax.{w128}
use Rattle.ivp_problem.specs.Trees.{slope_at}
use Rattle.ivp_problem.proofs.Slopes.{wide_cast, wide_fits, widened, Within, within_more, within_times}
use Rattle.ivp_problem.proofs.node.rise.Goals as goal

pub overflow_mul-result : goal.overflow_mul-result
overflow_mul-result c =
    let slope = slope_at c.args.node.now c.args.axis in
    let place = get_or c.args.point.now.at c.args.axis 0 in
    let bound = c.requires.node.slope c.args.axis c.requires.axis in
    let small : Within (64 * 10 ^ 12) slope = record { above = bound.0; below = bound.1 } in
    let within = within_times slope place (64 * 10 ^ 12) (2 ^ 28) small (omega (arith, c.requires.place)) in
    let at : to_z w128 place ≡ pos place = omega (arith, ints, c.requires.place) in
    rw (widened slope (within_more (64 * 10 ^ 12) (2 ^ 62) slope (omega arith) small), at) (wide_fits (slope *ℤ pos place) (within_more (64 * 10 ^ 12 * 2 ^ 28) (2 ^ 126) (slope *ℤ pos place) (omega arith) within))

pub returns : goal.returns
returns c =
    let slope = slope_at c.args.node.now c.args.axis in
    let place = get_or c.args.point.now.at c.args.axis 0 in
    let bound = c.requires.node.slope c.args.axis c.requires.axis in
    let small : Within (64 * 10 ^ 12) slope = record { above = bound.0; below = bound.1 } in
    let within = within_times slope place (64 * 10 ^ 12) (2 ^ 28) small (omega (arith, c.requires.place)) in
    let at : to_z w128 place ≡ pos place = omega (arith, ints, c.requires.place) in
    let kept = wide_cast (slope *ℤ pos place) (within_more (64 * 10 ^ 12 * 2 ^ 28) (2 ^ 126) (slope *ℤ pos place) (omega arith) within) in
    rw (widened slope (within_more (64 * 10 ^ 12) (2 ^ 62) slope (omega arith) small), at, kept) (record { rise = refl; above = within.above; below = within.below })
