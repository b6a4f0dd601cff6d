use Rattle.std.proofs.Common.{flat_map, drop}
use Rattle.moos_report.specs.IterationLines.{error_text}
use Rattle.moos_io.proofs.BufferedWriting.{Leaves}
use Rattle.moos_report.proofs.behaviors.put_errors.Given as goal

abbrev pub invariant-loop-error : goal.invariant-loop-error
invariant-loop-error g l =
    Leaves g.K.Sink.taken g.K.Sink.faults l.initial.out l.out
    (flat_map error_text (drop l.error-index l.faults)) (flat_map error_text l.faults)
