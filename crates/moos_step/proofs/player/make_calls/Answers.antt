use Rattle.std.proofs.Common.{rules}
use Rattle.moos_step.proofs.Lines.{played_front}
use Rattle.moos_step.proofs.player.make_calls.Goals as goal

pub returns-in_err-make_next : goal.returns-in_err-make_next
returns-in_err-make_next g c = played_front c.args.lines.now c.loop-line.line-index _ _ c.loop-line.seat _ c.loop-line.invariant.made c.in_err-make_next.ensures.none (search rules)
