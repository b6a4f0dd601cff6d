use Rattle.std.proofs.Common.{◌≡◌, []}
use Rattle.ivp_pool.specs.Teams.{AllDid, deque_states, door_rows}
use Rattle.ivp_pool.proofs.Settling.{SettledTo}
use Rattle.ivp_pool.proofs.search.finish.Given as goal

-- the deques so far are empty
abbrev pub invariant-loop-number : goal.invariant-loop-number
invariant-loop-number g l =
    record {
      did : AllDid l.problem l.best [] [] l.fn.members l.members;
      rows : door_rows l.members ≡ door_rows l.fn.members;
      settled : SettledTo l.number (deque_states l.members);
    }
