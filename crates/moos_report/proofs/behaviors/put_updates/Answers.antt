use Rattle.moos_io.proofs.BufferedWriting.{each_less}
use Rattle.moos_report.specs.IterationLines.{update_text}
use Rattle.moos_report.proofs.behaviors.put_updates.Goals as goal

pub loop-update-preserved : goal.loop-update-preserved
loop-update-preserved g c = each_less update_text c.args.updates.now c.loop-update.update-index c.update-item.result c.loop-update.invariant c.loop-update-test.true c.update-item.is c.put_update.ensures
