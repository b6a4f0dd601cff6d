use Rattle.std.proofs.Common.{pos, ◌*ℤ◌}
use Rattle.ivp_build.proofs.Rises.{rise_cast, rise_small, small_cast, small_fits}
use Rattle.ivp_build.proofs.along.rise.Goals as goal

pub overflow_mul-result : goal.overflow_mul-result
overflow_mul-result c =
    let within = rise_small c.args.change c.args.low c.requires.least c.requires.most c.requires.low in
    rw (rise_cast c.args.change c.args.low c.requires.least c.requires.most c.requires.low) (small_fits (c.args.change *ℤ pos c.args.low) within.0 within.1)

pub returns-clause-rise : goal.returns-clause-rise
returns-clause-rise c =
    let within = rise_small c.args.change c.args.low c.requires.least c.requires.most c.requires.low in
    rw (rise_cast c.args.change c.args.low c.requires.least c.requires.most c.requires.low) (small_cast (c.args.change *ℤ pos c.args.low) within.0 within.1)

pub returns-clause-above : goal.returns-clause-above
returns-clause-above c =
    let within = rise_small c.args.change c.args.low c.requires.least c.requires.most c.requires.low in
    rw (rise_cast c.args.change c.args.low c.requires.least c.requires.most c.requires.low, small_cast (c.args.change *ℤ pos c.args.low) within.0 within.1) within.0

pub returns-clause-below : goal.returns-clause-below
returns-clause-below c =
    let within = rise_small c.args.change c.args.low c.requires.least c.requires.most c.requires.low in
    rw (rise_cast c.args.change c.args.low c.requires.least c.requires.most c.requires.low, small_cast (c.args.change *ℤ pos c.args.low) within.0 within.1) within.1
