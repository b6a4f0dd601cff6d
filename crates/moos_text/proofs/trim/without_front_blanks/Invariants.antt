use Rattle.std.proofs.Common.{◌≡◌, length}
use Rattle.moos_text.specs.Lines.{without_front_blanks}
use Rattle.moos_text.proofs.trim.without_front_blanks.Given as goal

-- Only blanks stand before what is left.
abbrev pub invariant-loop-left : goal.invariant-loop-left
invariant-loop-left l = without_front_blanks l.bytes ≡ without_front_blanks l.left

abbrev pub decreases-loop-left : goal.decreases-loop-left
decreases-loop-left l = length l.left
