use Rattle.std.proofs.Common.{◌≡◌, []}
use Rattle.ivp_pool.specs.Teams.{AllDid, deque_states, door_rows}
use Rattle.ivp_pool.proofs.Whole.{Emptying}
use Rattle.ivp_pool.proofs.search.empty_deque.Given as goal

-- what was taken from the deque so far was closed
abbrev pub invariant-loop : goal.invariant-loop
invariant-loop g l =
    record {
      did : AllDid l.problem l.best [] [] l.fn.members l.members;
      rows : door_rows l.members ≡ door_rows l.fn.members;
      ends : Emptying l.number (deque_states l.fn.members) (deque_states l.members);
      tray : l.none.problem.now ≡ l.problem;
    }
