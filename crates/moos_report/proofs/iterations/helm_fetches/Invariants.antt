use Rattle.std.proofs.Common.{◌≡◌, take}
use Rattle.moos_report.specs.IterationLines.{helm_fetches}
use Rattle.moos_report.proofs.iterations.helm_fetches.Given as goal

abbrev pub invariant-loop-k : goal.invariant-loop-k
invariant-loop-k l = l.fetches ≡ helm_fetches l.db.names (take l.k l.db.history)
