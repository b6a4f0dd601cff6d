use Rattle.std.proofs.Common.{flat_map, drop}
use Rattle.moos_report.specs.Report.{unused_text}
use Rattle.moos_io.proofs.BufferedWriting.{Leaves}
use Rattle.moos_report.proofs.put_unused_list.Given as goal

abbrev pub invariant-loop-parameter : goal.invariant-loop-parameter
invariant-loop-parameter g l =
    Leaves g.K.Sink.taken g.K.Sink.faults l.initial.out l.out
    (flat_map unused_text (drop l.parameter-index l.unused)) (flat_map unused_text l.unused)
