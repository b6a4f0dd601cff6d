use Rattle.std.proofs.Common.{[], length}
use Rattle.moos_text.proofs.Walks.{IsRead}
use Rattle.moos_share.proofs.Following.{after_bridge_line}
use Rattle.moos_share.proofs.reading.read_bridge.Given as goal

abbrev pub invariant-loop-said : goal.invariant-loop-said
invariant-loop-said l = IsRead after_bridge_line [] l.bytes l.lines l.rules l.left

abbrev pub decreases-loop-said : goal.decreases-loop-said
decreases-loop-said l = length l.left
