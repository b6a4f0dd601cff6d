-- One count for each client so far.
use Rattle.std.proofs.Common.{◌≡◌, length}
use Rattle.moos_bridged.proofs.seating.no_calls.Given as goal

abbrev pub invariant-loop-client : goal.invariant-loop-client
invariant-loop-client l = length l.calls.items ≡ l.client
