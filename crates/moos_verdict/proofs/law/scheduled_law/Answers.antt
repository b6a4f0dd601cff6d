use Rattle.moos_verdict.proofs.Both.{lawful_scheduled, scheduled_lawful}
use Rattle.moos_verdict.proofs.law.scheduled_law.Goals as goal

pub returns-clause-scheduled : goal.returns-clause-scheduled
returns-clause-scheduled c = λ case history plain is. lawful_scheduled case history plain is

pub returns-clause-lawful : goal.returns-clause-lawful
returns-clause-lawful c = λ case history plain is. scheduled_lawful case history plain is
