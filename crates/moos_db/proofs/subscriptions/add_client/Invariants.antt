-- Those through the registrations so far stand behind those who stood there.
use Rattle.std.proofs.Common.{◌≡◌, ◌++◌, map, take}
use Rattle.moos_db.specs.Subscriptions.{fresh_subscriptions}
use Rattle.moos_db.proofs.subscriptions.add_client.Given as goal

abbrev pub invariant-loop-live : goal.invariant-loop-live
invariant-loop-live l = l.subscriptions.items ≡ l.fn.subscriptions.items ++ fresh_subscriptions l.client l.var (map (λ live. live.value) (take l.live-index l.lives))
