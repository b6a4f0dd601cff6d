use Rattle.std.proofs.Common.{◌≡◌, List, ◌++◌, length}
use Rattle.ivp_pool.specs.Hands.{EndState}
use Rattle.ivp_pool.specs.Members.{absorbed}
use Rattle.ivp_pool.proofs.setup.take_row.Given as goal

-- the members took back what isn't in the row any more
abbrev pub invariant-loop-door : goal.invariant-loop-door
invariant-loop-door g l =
    record {
      gone : List EndState;
      row : l.fn.row.items ≡ l.row.items ++ gone;
      members : l.members ≡ absorbed (length l.row.items) l.fn.row.items l.fn.members;
    }

abbrev pub decreases-loop-door : goal.decreases-loop-door
decreases-loop-door g l = length l.row.items
