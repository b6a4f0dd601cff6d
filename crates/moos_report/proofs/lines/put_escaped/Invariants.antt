use Rattle.std.proofs.Common.{flat_map, length}
use Rattle.moos_report.specs.Report.{escaped}
use Rattle.moos_io.proofs.BufferedWriting.{Leaves}
use Rattle.moos_report.proofs.lines.put_escaped.Given as goal

abbrev pub invariant-loop-rest : goal.invariant-loop-rest
invariant-loop-rest g l =
    Leaves g.K.Sink.taken g.K.Sink.faults l.initial.out l.out
    (flat_map escaped l.rest) (flat_map escaped l.text)

abbrev pub decreases-loop-rest : goal.decreases-loop-rest
decreases-loop-rest g l = length l.rest
