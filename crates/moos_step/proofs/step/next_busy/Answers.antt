use Rattle.moos_step.proofs.Steps.{busy_first}
use Rattle.moos_step.proofs.step.next_busy.Goals as goal

pub returns-then-next-from : goal.returns-then-next-from
returns-then-next-from c = busy_first c.args.lines.now c.loop-line.line-index c.args.from c.args.clients c.loop-line.next c.loop-line.invariant c.if-next-from.true
