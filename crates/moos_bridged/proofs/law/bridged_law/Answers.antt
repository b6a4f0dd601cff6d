use Rattle.moos_bridged.proofs.Fronts.{carried_front}
use Rattle.moos_bridged.proofs.LeftOut.{carried_each, none_left}
use Rattle.moos_bridged.proofs.Wholes.{carried_all}
use Rattle.moos_bridged.proofs.law.bridged_law.Goals as goal

pub returns-clause-fronts : goal.returns-clause-fronts
returns-clause-fronts c = carried_front

pub returns-clause-all : goal.returns-clause-all
returns-clause-all c = carried_all

pub returns-clause-none_left_out : goal.returns-clause-none_left_out
returns-clause-none_left_out c = none_left

pub returns-clause-each : goal.returns-clause-each
returns-clause-each c = carried_each
