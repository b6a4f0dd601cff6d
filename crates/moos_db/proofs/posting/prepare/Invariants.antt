-- The variables of the pairs so far are noted, and all else is as it was.
use Rattle.std.proofs.Common.{◌++◌, ℕ, List, length, map, take}
use Rattle.moos_post.specs.declared.value.Post.{Post}
use Rattle.moos_post.specs.Delivery.{Inbox}
use Rattle.moos_db.specs.Subscriptions.{HearBelow, AreNoted, AreReady}
use Rattle.moos_db.proofs.posting.prepare.Given as goal

abbrev pub invariant-loop-pair : goal.invariant-loop-pair
invariant-loop-pair l = record {
  ready : (inboxes : ℕ → Inbox) (posts : List Post) → AreReady inboxes posts l.fn.variables l.clients.items → AreReady inboxes posts l.variables l.clients.items;
  noted : (vars : List (List ℕ)) → AreNoted vars l.fn.variables → AreNoted (vars ++ map (λ pair. pair.var) (take l.pair-index l.pairs)) l.variables;
  below : HearBelow (length l.clients.items) l.variables.all;
}
