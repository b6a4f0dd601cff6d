use Rattle.std.proofs.Common.{flat_map, drop}
use Rattle.moos_report.specs.IterationLines.{update_text}
use Rattle.moos_io.proofs.BufferedWriting.{Leaves}
use Rattle.moos_report.proofs.behaviors.put_updates.Given as goal

abbrev pub invariant-loop-update : goal.invariant-loop-update
invariant-loop-update g l =
    Leaves g.K.Sink.taken g.K.Sink.faults l.initial.out l.out
    (flat_map update_text (drop l.update-index l.updates)) (flat_map update_text l.updates)
