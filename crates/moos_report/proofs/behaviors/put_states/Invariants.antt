use Rattle.std.proofs.Common.{flat_map, drop}
use Rattle.moos_report.specs.IterationLines.{behavior_text}
use Rattle.moos_io.proofs.BufferedWriting.{Leaves}
use Rattle.moos_report.proofs.behaviors.put_states.Given as goal

abbrev pub invariant-loop-state : goal.invariant-loop-state
invariant-loop-state g l =
    Leaves g.K.Sink.taken g.K.Sink.faults l.initial.out l.out
    (flat_map behavior_text (drop l.state-index l.states)) (flat_map behavior_text l.states)
