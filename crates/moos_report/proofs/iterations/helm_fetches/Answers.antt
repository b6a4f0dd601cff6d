use Rattle.std.proofs.Common.{arith}
use Rattle.moos_report.proofs.Reporting.{fetches_more}
use Rattle.moos_report.proofs.iterations.helm_fetches.Goals as goal

pub loop-k-preserved : goal.loop-k-preserved
loop-k-preserved c =
    omega (arith, fetches_more c.args.db.now.names c.args.db.now.history c.loop-k.k c.entry.ensures, c.loop-k.invariant, c.fetches_after-fetches.ensures)
