-- Those so far caught up.
use Rattle.std.proofs.Common.{◌≡◌, ◌+◌, ◌≤◌, ℕ, Some, fold, length, map, slice_get, take}
use Rattle.moos_post.specs.Delivery.{Inbox}
use Rattle.moos_post.specs.History.{posts_of}
use Rattle.moos_db.specs.Clients.{ClientState}
use Rattle.moos_db.specs.Subscriptions.{AreKeptAs, AreNoted, with_inbox}
use Rattle.moos_db.specs.Registering.{catch_number, StandsAt}
use Rattle.moos_db.proofs.registering.catch_up.Given as goal

abbrev pub invariant-loop-number : goal.invariant-loop-number
invariant-loop-number l = record {
  kept : (inboxes : ℕ → Inbox) → StandsAt l.made (inboxes l.client) → AreKeptAs inboxes (posts_of l.log.entries) l.fn.variables l.fn.clients.items →
      AreKeptAs (with_inbox l.client (λ one. fold (catch_number l.names (posts_of l.log.entries)) one (take l.number-index l.latest)) inboxes) (posts_of l.log.entries) l.variables l.clients.items;
  noted : AreNoted (map (λ post. post.var) (posts_of l.log.entries)) l.variables;
  each : length l.clients.items ≡ length l.fn.clients.items;
  room : (one : ClientState) → slice_get l.clients.items l.client ≡ Some one → length l.latest ≤ one.spare + l.number-index;
}
