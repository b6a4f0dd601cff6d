use Rattle.std.proofs.Common.{◌≡◌, take}
use Rattle.moos_report.proofs.same.same_lines.Given as goal

abbrev pub invariant-loop-place : goal.invariant-loop-place
invariant-loop-place l = take l.place l.a ≡ take l.place l.b
