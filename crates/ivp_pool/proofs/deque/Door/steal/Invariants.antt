use Rattle.std.proofs.Common.{◌≡◌}
use Rattle.crossbeam_deque.specs.Handles.{IsPassOf, stealer_deque, view}
use Rattle.ivp_pool.proofs.deque.Door.steal.Given as goal

-- the door, through which nothing was taken yet
abbrev pub invariant-loop : goal.invariant-loop
invariant-loop g l =
    record {
      pass : IsPassOf (stealer_deque l.self-inside.thief) l.self-inside.pass;
      part : (view l.self-inside.pass).parts ≡ 1;
      deque : stealer_deque l.self-inside.thief ≡ l.fn.self.deque;
      hand : view l.self-inside.pass ≡ l.fn.self.hand;
    }
