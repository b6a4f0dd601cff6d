use Rattle.moos_io.proofs.BufferedWriting.{each_less}
use Rattle.moos_report.specs.Report.{unused_text}
use Rattle.moos_report.proofs.put_unused_list.Goals as goal

pub loop-parameter-preserved : goal.loop-parameter-preserved
loop-parameter-preserved g c = each_less unused_text c.args.unused.now c.loop-parameter.parameter-index c.parameter-item.result c.loop-parameter.invariant c.loop-parameter-test.true c.parameter-item.is c.put_unused.ensures
