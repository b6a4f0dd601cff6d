use Rattle.std.proofs.Common.{◌≡◌, length}
use Rattle.ivp_pool.proofs.Rows.{Opened}
use Rattle.ivp_pool.proofs.setup.open_doors.Given as goal

-- the members so far have their doors
abbrev pub invariant-loop-place : goal.invariant-loop-place
invariant-loop-place g l = record { len : length l.members ≡ length l.fn.members; opened : Opened l.problem l.best l.place l.members }
