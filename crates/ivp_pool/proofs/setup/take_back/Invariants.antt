use Rattle.std.proofs.Common.{◌-◌, length}
use Rattle.ivp_pool.specs.Members.{deques_of, first_parts}
use Rattle.ivp_pool.proofs.Rows.{TakenBack}
use Rattle.ivp_pool.proofs.setup.take_back.Given as goal

-- the doors of the members so far were taken back
abbrev pub invariant-loop-place : goal.invariant-loop-place
invariant-loop-place g l = TakenBack l.place (1024 - length l.fn.members) (first_parts (deques_of l.fn.members)) l.fn.members l.members
