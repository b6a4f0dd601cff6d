use Rattle.moos_report.proofs.KeptLines.{no_lines}
use Rattle.moos_report.proofs.parts.report_keeping.Goals as goal

pub report_through-requires : goal.report_through-requires
report_through-requires g c = no_lines c.args.db.now.names c.args.db.now.history _ c.new.ensures
