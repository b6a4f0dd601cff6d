use Rattle.ivp_func.proofs.Bounds.{gap_at}
use Rattle.ivp_func.proofs.Facts.{has_first_point}
use Rattle.ivp_func.proofs.partition.gap.Goals as goal

pub returns-clause-inside : goal.returns-clause-inside
returns-clause-inside c =
    c.loop-axis.invariant.inside c.first_point.result (has_first_point c.loop-axis.short c.first_point.result c.loop-axis.invariant.proper c.first_point.ensures)

pub returns-clause-none : goal.returns-clause-none
returns-clause-none c =
    gap_at c.args.pieces.now c.loop-axis.short c.first_point.result c.loop-axis.invariant.proper c.in_default.ensures.none c.loop-axis.invariant.short c.first_point.ensures
