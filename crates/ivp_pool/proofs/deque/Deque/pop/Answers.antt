use Rattle.ivp_pool.proofs.Hands.{pops, settles, takes}
use Rattle.ivp_pool.proofs.deque.Deque.pop.Goals as goal

pub pop_as-requires-clause-fifo : goal.pop_as-requires-clause-fifo
pop_as-requires-clause-fifo g c = λ _. takes g.K.About.problem _ _ c.self.invariant

pub pop_as-requires-clause-lifo : goal.pop_as-requires-clause-lifo
pop_as-requires-clause-lifo g c = λ _. pops g.K.About.problem _ _ c.self.invariant

pub pop_as-requires-clause-empty : goal.pop_as-requires-clause-empty
pop_as-requires-clause-empty g c = settles g.K.About.problem _ _
