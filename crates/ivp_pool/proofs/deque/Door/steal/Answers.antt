use Rattle.std.proofs.Common.{arith}
use Rattle.ivp_pool.proofs.Hands.{takes}
use Rattle.ivp_pool.proofs.deque.Door.steal.Goals as goal

pub steal_as-requires-clause-takes : goal.steal_as-requires-clause-takes
steal_as-requires-clause-takes g c = takes g.K.About.problem _ _ (omega (arith, c.loop.invariant.part))
