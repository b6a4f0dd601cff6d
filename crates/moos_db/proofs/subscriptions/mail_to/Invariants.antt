-- The post came through those so far, and was mailed to their clients; a client to which it was not is as it was.
use Rattle.std.proofs.Common.{◌≡◌, ◌++◌, map, take, drop}
use Rattle.moos_db.specs.Subscriptions.{after_hearing}
use Rattle.moos_db.proofs.Mailing.{IsMailing}
use Rattle.moos_db.proofs.subscriptions.mail_to.Given as goal

abbrev pub invariant-loop-k : goal.invariant-loop-k
invariant-loop-k l = record {
  heard : l.subscriptions.items ≡ map (after_hearing l.stamp l.source) (take l.k l.fn.subscriptions.items) ++ drop l.k l.fn.subscriptions.items;
  mailed : IsMailing l.number l.stamp l.source (take l.k l.fn.subscriptions.items) l.fn.clients.items l.clients.items l.recipients;
}
