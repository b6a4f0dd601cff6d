-- The clients so far have theirs, and no other has any.
use Rattle.std.proofs.Common.{◌≡◌, ◌<◌, ◌≤◌, ℕ, []}
use Rattle.std.specs.List.{All}
use Rattle.moos_db.specs.Subscriptions.{fresh_subscriptions, lives_at, of_client}
use Rattle.moos_db.proofs.subscriptions.first_subscriptions.Given as goal

abbrev pub invariant-loop-number : goal.invariant-loop-number
invariant-loop-number l = record {
  each : (client : ℕ) → client < l.number → of_client client l.subscriptions.items ≡ fresh_subscriptions client l.var (lives_at l.clients client);
  none : (client : ℕ) → l.number ≤ client → of_client client l.subscriptions.items ≡ [];
  within : All (λ subscription. subscription.client < l.number) l.subscriptions.items;
}
