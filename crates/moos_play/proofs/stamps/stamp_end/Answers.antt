use Rattle.std.proofs.Common.{rules}
use Rattle.moos_step.proofs.Lines.{stamp_more}
use Rattle.moos_play.proofs.stamps.stamp_end.Goals as goal

pub loop-to-preserved : goal.loop-to-preserved
loop-to-preserved c = stamp_more c.index-lines-to.result c.loop-to.invariant c.loop-to-test.true c.index-lines-to.is (search rules)
