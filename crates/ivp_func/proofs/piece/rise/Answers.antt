use Rattle.std.proofs.Common.{get_or, pos, ◌*ℤ◌, rules}
use Rattle.ivp_func.specs.Pieces.{slope_on}
use Rattle.ivp_func.proofs.Rises.{rise_cast, rise_small, small_cast, small_fits}
use Rattle.ivp_func.proofs.piece.rise.Goals as goal

pub overflow_mul-result : goal.overflow_mul-result
overflow_mul-result c =
    let slope = slope_on c.args.axis c.args.piece.now in
    let place = get_or c.args.point.now.at c.args.axis 0 in
    let within = rise_small slope place c.requires.small (search rules) in
    rw (rise_cast slope place c.requires.small (search rules)) (small_fits (slope *ℤ pos place) within.0 within.1)

pub returns-clause-rise : goal.returns-clause-rise
returns-clause-rise c =
    let slope = slope_on c.args.axis c.args.piece.now in
    let place = get_or c.args.point.now.at c.args.axis 0 in
    let within = rise_small slope place c.requires.small (search rules) in
    rw (rise_cast slope place c.requires.small (search rules)) (small_cast (slope *ℤ pos place) within.0 within.1)

pub returns-clause-above : goal.returns-clause-above
returns-clause-above c =
    let slope = slope_on c.args.axis c.args.piece.now in
    let place = get_or c.args.point.now.at c.args.axis 0 in
    let within = rise_small slope place c.requires.small (search rules) in
    rw (rise_cast slope place c.requires.small (search rules), small_cast (slope *ℤ pos place) within.0 within.1) within.0

pub returns-clause-below : goal.returns-clause-below
returns-clause-below c =
    let slope = slope_on c.args.axis c.args.piece.now in
    let place = get_or c.args.point.now.at c.args.axis 0 in
    let within = rise_small slope place c.requires.small (search rules) in
    rw (rise_cast slope place c.requires.small (search rules), small_cast (slope *ℤ pos place) within.0 within.1) within.1
