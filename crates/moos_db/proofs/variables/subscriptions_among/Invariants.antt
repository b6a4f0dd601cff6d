-- The variables so far are heard, and have room.
use Rattle.std.proofs.Common.{◌≡◌, ◌<◌, ◌≤◌, ℕ, Some, slice_get, take, true}
use Rattle.moos_post.specs.Patterns.{matches}
use Rattle.moos_db.specs.Subscriptions.{VariableState}
use Rattle.moos_db.specs.Registering.{AreEach, IsRoomier, heard_through, variable_names}
use Rattle.moos_db.proofs.variables.subscriptions_among.Given as goal

abbrev pub invariant-loop-number : goal.invariant-loop-number
invariant-loop-number l = record {
  through : l.subscriptions.items ≡ heard_through l.client l.live.value 0 (take l.number (variable_names l.fn.all.items));
  roomier : AreEach IsRoomier l.fn.all.items l.all.items;
  room : (number : ℕ) (variable : VariableState) → number < l.number → slice_get l.all.items number ≡ Some variable → matches l.live.value.reg.var variable.name ≡ true → l.room ≤ variable.room;
}
