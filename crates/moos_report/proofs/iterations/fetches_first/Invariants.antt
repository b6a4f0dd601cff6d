use Rattle.std.proofs.Common.{◌≡◌, drop}
use Rattle.moos_report.specs.IterationLines.{fetches_first}
use Rattle.moos_report.proofs.iterations.fetches_first.Given as goal

abbrev pub invariant-loop-k : goal.invariant-loop-k
invariant-loop-k l = fetches_first l.db.names (drop l.k l.db.history) ≡ fetches_first l.db.names (drop l.from l.db.history)
