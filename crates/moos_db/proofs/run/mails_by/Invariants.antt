use Rattle.std.proofs.Common.{◌≡◌}
use Rattle.moos_db.specs.Database.{AreMails}
use Rattle.moos_db.proofs.run.mails_by.Given as goal

abbrev pub invariant-loop-call : goal.invariant-loop-call
invariant-loop-call l = record {
  next : (goal.iterator-loop-call).can_next l.call-iterator;
  finite : (goal.iterator-loop-call).is_finite l.call-iterator;
  db : l.db ≡ record { names = l.fn.db.names; history = l.yielded };
  mails : AreMails l.fn.db.names l.yielded l.mails.items;
}
