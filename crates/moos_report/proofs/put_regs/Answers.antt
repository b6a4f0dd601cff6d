use Rattle.moos_io.proofs.BufferedWriting.{each_less}
use Rattle.moos_report.specs.Report.{reg_text}
use Rattle.moos_report.proofs.put_regs.Goals as goal

pub loop-reg-preserved : goal.loop-reg-preserved
loop-reg-preserved g c = each_less (reg_text) c.args.regs.now c.loop-reg.reg-index c.reg-item.result c.loop-reg.invariant c.loop-reg-test.true c.reg-item.is c.put_reg.ensures
