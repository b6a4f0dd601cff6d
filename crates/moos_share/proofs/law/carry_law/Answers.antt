use Rattle.moos_share.proofs.Carries.{all_on, start_loses_nothing, start_up_to_date, up_to_date_on}
use Rattle.moos_share.proofs.law.carry_law.Goals as goal

pub returns-clause-start : goal.returns-clause-start
returns-clause-start c = start_loses_nothing

pub returns-clause-all : goal.returns-clause-all
returns-clause-all c = all_on

pub returns-clause-up_to_date_start : goal.returns-clause-up_to_date_start
returns-clause-up_to_date_start c = start_up_to_date

pub returns-clause-up_to_date : goal.returns-clause-up_to_date
returns-clause-up_to_date c = up_to_date_on
