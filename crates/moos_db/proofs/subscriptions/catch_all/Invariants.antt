-- The post came through those so far.
use Rattle.std.proofs.Common.{◌≡◌, ◌++◌, drop, map, take, vec_len}
use Rattle.std.specs.List.{list_any}
use Rattle.moos_db.specs.Subscriptions.{caught_at, is_new_at}
use Rattle.moos_db.proofs.subscriptions.catch_all.Given as goal

abbrev pub invariant-loop-k : goal.invariant-loop-k
invariant-loop-k l = record {
  caught : l.subscriptions.items ≡ map (caught_at l.client l.made l.stamp l.source) (take l.k l.fn.subscriptions.items) ++ drop l.k l.fn.subscriptions.items;
  catches : l.catches ≡ list_any (is_new_at l.client l.made l.source) (take l.k l.fn.subscriptions.items);
  len : vec_len l.subscriptions ≡ vec_len l.fn.subscriptions;
}
