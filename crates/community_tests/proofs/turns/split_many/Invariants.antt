-- The passes so far are split off.
use Rattle.std.proofs.Common.{◌+◌, ◌≤◌}
use Rattle.std.specs.List.{All}
use Rattle.turn_lock.specs.Passes.{IsFree, IsOf}
use Rattle.community_tests.proofs.turns.split_many.Given as goal

abbrev pub invariant-loop-nth : goal.invariant-loop-nth
invariant-loop-nth g l = record {
  first : IsOf l.lock l.zero × IsFree l.zero;
  left : l.passes ≤ l.zero.left + l.nth;
  split : All (λ pass. IsOf l.lock pass × IsFree pass) l.split.items;
}
