-- One report behind the other, through one writer.
use Rattle.std.proofs.Common.{rules}
use Rattle.moos_io.proofs.BufferedWriting.{delivered, writes_on}
use Rattle.moos_jobs.proofs.share_reporting.report_both.Goals as goal

pub returns : goal.returns
returns g c =
    let wrote = writes_on c.put_community.ensures c.put_community-2.ensures in
    let told = rw c.new-writer.ensures.now at (delivered c.finish.result c.new-writer.ensures.going c.new-writer.ensures.empty wrote c.finish.ensures) in
    search (rules, told)
