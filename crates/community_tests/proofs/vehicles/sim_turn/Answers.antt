-- The client had no turn before.
use Rattle.std.proofs.Common.{[]}
use Rattle.community_tests.proofs.vehicles.sim_turn.Goals as goal

pub turn-requires-clause-known : goal.turn-requires-clause-known
turn-requires-clause-known g c = ([], c.make-sim.ensures 250)
