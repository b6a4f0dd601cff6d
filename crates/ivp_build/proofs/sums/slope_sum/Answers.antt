use Rattle.ivp_func.specs.Pieces.{slope_on}
use Rattle.ivp_build.proofs.Totals.{bases_are, bases_fit, slope_base}
use Rattle.ivp_build.proofs.sums.slope_sum.Goals as goal

pub overflow_add-result : goal.overflow_add-result
overflow_add-result c = bases_fit (slope_on c.args.axis c.args.p.now) (slope_on c.args.axis c.args.q.now) (slope_base c.args.p.now c.args.axis c.requires.p c.requires.axis) (slope_base c.args.q.now c.args.axis c.requires.q c.requires.axis)

pub returns : goal.returns
returns c = bases_are (slope_on c.args.axis c.args.p.now) (slope_on c.args.axis c.args.q.now) (slope_base c.args.p.now c.args.axis c.requires.p c.requires.axis) (slope_base c.args.q.now c.args.axis c.requires.q c.requires.axis)
