use Rattle.moos_io.proofs.BufferedWriting.{each_less}
use Rattle.moos_report.specs.IterationLines.{behavior_text}
use Rattle.moos_report.proofs.behaviors.put_states.Goals as goal

pub loop-state-preserved : goal.loop-state-preserved
loop-state-preserved g c = each_less behavior_text c.args.states.now c.loop-state.state-index c.state-item.result c.loop-state.invariant c.loop-state-test.true c.state-item.is c.put_behavior.ensures
