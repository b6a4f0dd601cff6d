use Rattle.std.proofs.Common.{◌<◌, subst, sym}
use Rattle.ivp_pool.specs.Hands.{EndState}
use Rattle.ivp_pool.proofs.Hands.{forks}
use Rattle.ivp_pool.proofs.deque.Deque.door.Goals as goal

pub another-pass-requires : goal.another-pass-requires
another-pass-requires g c = forks g.K.About.problem _ _ (subst (λ (own : EndState). 1 < own.hand.parts) (sym c.self.view_is) c.requires)
