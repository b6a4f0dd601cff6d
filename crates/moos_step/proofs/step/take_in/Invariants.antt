-- The players so far are taken in, and those that are left may be.
use Rattle.std.proofs.Common.{◌≡◌, OnOk, Ok, length}
use Rattle.std.specs.List.{All}
use Rattle.moos_step.specs.Steps.{HasTaken, IsApart}
use Rattle.moos_step.proofs.step.take_in.Given as goal

abbrev pub invariant-loop-player : goal.invariant-loop-player
invariant-loop-player l = record {
  taken : HasTaken l.fn.first l.first l.yielded;
  ended : OnOk l.answer (All (λ player. player.ended ≡ Ok tt) l.yielded);
  left : All (λ player. IsApart l.lock player.seat) l.player-iterator.rest.items;
  calls : length l.calls ≡ length l.fn.calls;
}
