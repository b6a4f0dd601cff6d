-- The calls of the lines so far are made.
use Rattle.std.proofs.Common.{◌≡◌, length, take}
use Rattle.moos_step.specs.Steps.{HasGrown, IsGathered, IsJust}
use Rattle.moos_step.proofs.in_turn.play_in_turn.Given as goal

abbrev pub invariant-loop-line : goal.invariant-loop-line
invariant-loop-line g l = record {
  gathered : IsGathered l.lock l.first.seat;
  grown : HasGrown (IsJust (take l.line-index l.lines)) l.fn.first.seat l.first.seat;
  calls : length l.calls ≡ length l.fn.calls;
}
