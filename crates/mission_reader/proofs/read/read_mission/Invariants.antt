use Rattle.std.proofs.Common.{length}
use Rattle.moos_text.specs.Standing.{after_raw, Outside}
use Rattle.moos_text.proofs.Walks.{IsRead}
use Rattle.mission_reader.specs.Missions.{mission_form, nothing_set}
use Rattle.mission_reader.specs.Places.{standing}
use Rattle.mission_reader.proofs.read.read_mission.Given as goal

abbrev pub invariant-loop-said : goal.invariant-loop-said
invariant-loop-said l = IsRead (after_raw mission_form) (Outside nothing_set) l.bytes l.lines (standing l.reading.settings l.reading.place) l.left

abbrev pub decreases-loop-said : goal.decreases-loop-said
decreases-loop-said l = length l.left
