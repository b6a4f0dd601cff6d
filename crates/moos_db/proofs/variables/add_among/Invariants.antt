-- Those so far hear, and the rest is to.
use Rattle.std.proofs.Common.{◌≡◌, ◌++◌}
use Rattle.moos_db.specs.Registering.{AreEachAt, IsAddedTo}
use Rattle.moos_db.proofs.variables.add_among.Given as goal

abbrev pub invariant-loop-number : goal.invariant-loop-number
invariant-loop-number l = record {
  next : (goal.iterator-loop-number).can_next l.number-iterator;
  finite : (goal.iterator-loop-number).is_finite l.number-iterator;
  added : AreEachAt (IsAddedTo l.yielded) l.fn.all.items l.all.items;
  rest : l.yielded ++ l.number-iterator.rest.items ≡ l.fn.subscriptions.items;
}
