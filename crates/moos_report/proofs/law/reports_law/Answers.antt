use Rattle.moos_report.proofs.PrintedReports.{both_same, reports_end}
use Rattle.moos_report.proofs.law.reports_law.Goals as goal

pub returns-clause-end : goal.returns-clause-end
returns-clause-end c = reports_end

pub returns-clause-two : goal.returns-clause-two
returns-clause-two c = both_same
