use Rattle.std.proofs.Common.{rules}
use Rattle.moos_io.proofs.BufferedWriting.{delivered}
use Rattle.moos_report.proofs.KeptLines.{no_lines}
use Rattle.moos_report.proofs.parts.report_part.Goals as goal

pub put_entries-requires-clause-kept : goal.put_entries-requires-clause-kept
put_entries-requires-clause-kept g c = no_lines c.args.db.now.names c.args.db.now.history _ c.none-kept.ensures

pub returns : goal.returns
returns g c =
    let told = rw c.new-writer.ensures.now at (delivered c.finish.result c.new-writer.ensures.going c.new-writer.ensures.empty c.put_entries.ensures.wrote c.finish.ensures) in
    search (rules, told)
