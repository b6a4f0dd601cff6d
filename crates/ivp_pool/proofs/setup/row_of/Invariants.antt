use Rattle.std.proofs.Common.{◌≡◌, map, take}
use Rattle.ivp_pool.specs.Members.{deques_of, new_door}
use Rattle.ivp_pool.proofs.Rows.{with_parts_out}
use Rattle.ivp_pool.proofs.setup.row_of.Given as goal

-- a door of each member so far
abbrev pub invariant-loop-place : goal.invariant-loop-place
invariant-loop-place g l =
    record {
      members : l.members ≡ with_parts_out l.place l.fn.members;
      row : l.row.items ≡ map new_door (deques_of (take l.place l.fn.members));
    }
