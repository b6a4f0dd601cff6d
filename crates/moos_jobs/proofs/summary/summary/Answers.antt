use Rattle.std.proofs.Common.{ap, rules}
use Rattle.moos_io.proofs.BufferedWriting.{delivered, writes_as}
use Rattle.moos_jobs.specs.Summary.{counts_text}
use Rattle.moos_jobs.proofs.summary.summary.Goals as goal

pub returns : goal.returns
returns g c =
    let wrote = writes_as (ap (counts_text c.args.number) c.counts_of.ensures) c.put_counts.ensures in
    let told = rw c.new-writer.ensures.now at (delivered c.finish.result c.new-writer.ensures.going c.new-writer.ensures.empty wrote c.finish.ensures) in
    search (rules, told)
