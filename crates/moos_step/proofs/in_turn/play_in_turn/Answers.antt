use Rattle.std.proofs.Common.{rules}
use Rattle.moos_step.proofs.InTurn.{grown_front}
use Rattle.moos_step.proofs.in_turn.play_in_turn.Goals as goal

pub returns-in_err-play_line-clause-played : goal.returns-in_err-play_line-clause-played
returns-in_err-play_line-clause-played g c = grown_front c.args.lines.now c.loop-line.line-index _ _ c.loop-line.first.seat c.play_line.new.first.seat c.loop-line.invariant.grown c.in_err-play_line.ensures.played (search rules)
