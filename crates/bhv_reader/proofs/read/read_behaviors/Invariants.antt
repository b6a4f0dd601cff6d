use Rattle.std.proofs.Common.{◌≤◌, length}
use Rattle.moos_text.specs.Standing.{after_raw, Outside}
use Rattle.moos_text.proofs.Walks.{IsRead}
use Rattle.bhv_reader.specs.Behaviors.{behavior_form, nothing_said}
use Rattle.bhv_reader.specs.Places.{standing_at}
use Rattle.bhv_reader.proofs.Ranging.{IsSoundStanding}
use Rattle.bhv_reader.proofs.read.read_behaviors.Given as goal

abbrev pub invariant-loop-said : goal.invariant-loop-said
invariant-loop-said l = record {
  read : IsRead (after_raw (behavior_form l.domain)) (Outside nothing_said) l.bytes l.lines (standing_at l.file l.place) l.left;
  sound : IsSoundStanding l.domain (standing_at l.file l.place);
  few : length l.file.decls ≤ 256;
}

abbrev pub decreases-loop-said : goal.decreases-loop-said
decreases-loop-said l = length l.left
