use Rattle.ivp_pool.proofs.Hands.{merges}
use Rattle.ivp_pool.proofs.deque.Deque.absorb.Goals as goal

pub absorb-requires-clause-rule : goal.absorb-requires-clause-rule
absorb-requires-clause-rule g c = merges g.K.About.problem _ _ _ _ c.self.invariant
