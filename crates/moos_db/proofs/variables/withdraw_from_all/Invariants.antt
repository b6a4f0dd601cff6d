-- Of the variables so far each is withdrawn from, and the others are as before.
use Rattle.std.proofs.Common.{◌≡◌, ◌<◌, ◌≤◌, ℕ, Some, length, slice_get}
use Rattle.moos_db.specs.Subscriptions.{VariableState}
use Rattle.moos_db.specs.Withdrawing.{IsWithdrawn}
use Rattle.moos_db.proofs.variables.withdraw_from_all.Given as goal

abbrev pub invariant-loop-number : goal.invariant-loop-number
invariant-loop-number l = record {
  each : length l.all.items ≡ length l.fn.all.items;
  done : (k : ℕ) (one other : VariableState) → k < l.number → slice_get l.fn.all.items k ≡ Some one → slice_get l.all.items k ≡ Some other → IsWithdrawn l.client l.var l.source one other;
  rest : (k : ℕ) (other : VariableState) → l.number ≤ k → slice_get l.all.items k ≡ Some other → slice_get l.fn.all.items k ≡ Some other;
}
