use Rattle.ivp_pool.proofs.Hands.{puts}
use Rattle.ivp_pool.proofs.deque.Deque.put.Goals as goal

pub push_as-requires-clause-pushes : goal.push_as-requires-clause-pushes
push_as-requires-clause-pushes g c = puts g.K.About.problem _ _ _ c.self.invariant c.requires
