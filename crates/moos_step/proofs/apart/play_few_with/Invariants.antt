-- The lines so far are played.
use Rattle.std.proofs.Common.{take}
use Rattle.std.specs.List.{AllZip}
use Rattle.moos_step.specs.Steps.{HasEnded}
use Rattle.moos_step.proofs.apart.play_few_with.Given as goal

abbrev pub invariant-loop-line : goal.invariant-loop-line
invariant-loop-line g l = record {
  first : HasEnded (take l.line-index l.lines) l.fn.first l.first;
  players : AllZip (HasEnded (take l.line-index l.lines)) l.fn.players.items l.players.items;
}
