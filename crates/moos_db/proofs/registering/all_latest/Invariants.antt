-- The numbers of those so far.
use Rattle.std.proofs.Common.{◌≡◌, take}
use Rattle.moos_db.specs.Registering.{latest_prepared}
use Rattle.moos_db.proofs.registering.all_latest.Given as goal

abbrev pub invariant-loop-one : goal.invariant-loop-one
invariant-loop-one l = l.numbers.items ≡ latest_prepared l.variables.all (take l.one-index l.prepared)
