use Rattle.std.proofs.Common.{rules}
use Rattle.moos_io.proofs.BufferedWriting.{delivered}
use Rattle.moos_report.proofs.parts.report_end.Goals as goal

pub returns : goal.returns
returns g c =
    let told = rw c.new-writer.ensures.now at (delivered c.finish.result c.new-writer.ensures.going c.new-writer.ensures.empty c.put_ending.ensures c.finish.ensures) in
    search (rules, told)
