-- Those so far are made, and the rest is prepared.
use Rattle.std.proofs.Common.{◌≡◌, ◌++◌, ℕ, List, fold, length}
use Rattle.moos_post.specs.declared.value.Post.{Post}
use Rattle.moos_post.specs.Delivery.{Inbox}
use Rattle.moos_db.specs.Subscriptions.{AreKeptAs, with_lives}
use Rattle.moos_db.specs.Registering.{AreStill, with_prepared}
use Rattle.moos_db.proofs.registering.make_all.Given as goal

abbrev pub invariant-loop-one : goal.invariant-loop-one
invariant-loop-one l = record {
  next : (goal.iterator-loop-one).can_next l.one-iterator;
  finite : (goal.iterator-loop-one).is_finite l.one-iterator;
  rest : l.yielded ++ l.one-iterator.rest.items ≡ l.fn.all.items;
  kept : (inboxes : ℕ → Inbox) (posts : List Post) → AreKeptAs inboxes posts l.fn.variables l.fn.clients.items →
      AreKeptAs (with_lives l.client (λ lives. fold with_prepared lives l.yielded) inboxes) posts l.variables l.clients.items;
  still : AreStill (length l.yielded) l.fn.variables l.variables l.fn.clients.items l.clients.items;
  noted : l.variables.noted ≡ l.fn.variables.noted;
}
