use Rattle.moos_report.proofs.AddingUp.{fronts_same, parts_same}
use Rattle.moos_report.proofs.law.parts_law.Goals as goal

pub returns-clause-parts : goal.returns-clause-parts
returns-clause-parts c = parts_same

pub returns-clause-fronts : goal.returns-clause-fronts
returns-clause-fronts c = fronts_same
