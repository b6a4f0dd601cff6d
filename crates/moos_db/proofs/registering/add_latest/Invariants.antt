-- The numbers of those so far were added.
use Rattle.std.proofs.Common.{◌≡◌, ◌++◌, take}
use Rattle.moos_db.specs.Registering.{latest_heard}
use Rattle.moos_db.proofs.registering.add_latest.Given as goal

abbrev pub invariant-loop-variable : goal.invariant-loop-variable
invariant-loop-variable l = l.numbers.items ≡ l.fn.numbers.items ++ latest_heard l.variables.all (take l.variable-index l.subscriptions)
