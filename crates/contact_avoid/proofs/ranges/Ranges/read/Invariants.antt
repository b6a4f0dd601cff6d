use Rattle.std.proofs.Common.{length}
use Rattle.moos_text.proofs.Walks.{IsRead}
use Rattle.contact_avoid.specs.RangeFiles.{usual_ranges}
use Rattle.contact_avoid.proofs.Lines.{with_raw}
use Rattle.contact_avoid.proofs.ranges.Ranges.read.Given as goal

abbrev pub invariant-loop-said : goal.invariant-loop-said
invariant-loop-said l = IsRead with_raw usual_ranges l.bytes l.lines l.ranges l.left

abbrev pub decreases-loop-said : goal.decreases-loop-said
decreases-loop-said l = length l.left
