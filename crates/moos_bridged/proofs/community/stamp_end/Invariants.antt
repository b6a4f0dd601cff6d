-- The lines so far have the stamp.
use Rattle.std.proofs.Common.{◌≡◌, ◌-◌, ◌==◌, ◌≤◌, length, true}
use Rattle.std.specs.List.{list_all}
use Rattle.moos_bridged.specs.Communities.{lines_cut}
use Rattle.moos_bridged.proofs.community.stamp_end.Given as goal

abbrev pub invariant-loop-to : goal.invariant-loop-to
invariant-loop-to l = record { more : l.from ≤ l.to; within : l.to ≤ length l.lines; one : list_all (λ line. line.stamp == l.stamp) (lines_cut l.from l.to l.lines) ≡ true }

abbrev pub decreases-loop-to : goal.decreases-loop-to
decreases-loop-to l = length l.lines - l.to
