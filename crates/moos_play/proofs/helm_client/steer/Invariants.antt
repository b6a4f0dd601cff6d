-- The helm stands where its ticks so far have brought it.
use Rattle.std.proofs.Common.{◌≤◌, ◌-◌, Ok}
use Rattle.std.specs.declared.alloc.AllocError.{AllocError}
use Rattle.moos_play.specs.Steered.{HasSteered}
use Rattle.moos_play.proofs.helm_client.steer.Given as goal

abbrev pub invariant-loop-helm_client : goal.invariant-loop-helm_client
invariant-loop-helm_client g l = record {
  so_far : HasSteered {E = AllocError} l.lock l.helm_client.ticks l.fn.seat l.seat l.fn.helm_client l.helm_client (Ok tt);
  within : l.helm_client.ticks ≤ l.fn.ticks;
}

abbrev pub decreases-loop-helm_client : goal.decreases-loop-helm_client
decreases-loop-helm_client g l = l.fn.ticks - l.helm_client.ticks
