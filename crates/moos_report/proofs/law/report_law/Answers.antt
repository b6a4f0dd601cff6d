use Rattle.moos_report.proofs.PrintedReports.{report_same}
use Rattle.moos_report.proofs.law.report_law.Goals as goal

pub returns : goal.returns
returns c = report_same
