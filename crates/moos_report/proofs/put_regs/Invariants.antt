use Rattle.std.proofs.Common.{flat_map, drop}
use Rattle.moos_report.specs.Report.{reg_text}
use Rattle.moos_io.proofs.BufferedWriting.{Leaves}
use Rattle.moos_report.proofs.put_regs.Given as goal

abbrev pub invariant-loop-reg : goal.invariant-loop-reg
invariant-loop-reg g l =
    Leaves g.K.Sink.taken g.K.Sink.faults l.initial.out l.out
    (flat_map reg_text (drop l.reg-index l.regs)) (flat_map reg_text l.regs)
