use Rattle.moos_io.proofs.BufferedWriting.{each_less}
use Rattle.moos_report.specs.IterationLines.{error_text}
use Rattle.moos_report.proofs.behaviors.put_errors.Goals as goal

pub loop-error-preserved : goal.loop-error-preserved
loop-error-preserved g c = each_less error_text c.args.faults.now c.loop-error.error-index c.error-item.result c.loop-error.invariant c.loop-error-test.true c.error-item.is c.put_error.ensures
