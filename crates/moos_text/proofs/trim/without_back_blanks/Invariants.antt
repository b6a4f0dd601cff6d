use Rattle.std.proofs.Common.{◌≡◌, ◌≤◌, length, take}
use Rattle.std.specs.Prelude.{reverse}
use Rattle.moos_text.specs.Lines.{without_front_blanks}
use Rattle.moos_text.proofs.trim.without_back_blanks.Given as goal

-- Only blanks stand behind what is kept.
abbrev pub invariant-loop-len : goal.invariant-loop-len
invariant-loop-len l = (l.len ≤ length l.bytes) × (without_front_blanks (reverse l.bytes) ≡ without_front_blanks (reverse (take l.len l.bytes)))

abbrev pub decreases-loop-len : goal.decreases-loop-len
decreases-loop-len l = l.len
