-- The seats so far are split off and taken in.
use Rattle.moos_step.proofs.Steps.{AreSeated}
use Rattle.moos_step.proofs.seats.seat_all.Given as goal

abbrev pub invariant-loop-client : goal.invariant-loop-client
invariant-loop-client l = AreSeated l.lock l.clients l.client l.first
