use Rattle.std.proofs.Common.{◌-◌, length}
use Rattle.std.specs.Prelude.{codes}
use Rattle.sim_vehicle.proofs.Ranges.{rudder_lies, thrust_lies}
use Rattle.sim_clients.proofs.Ranging.{turns_within}
use Rattle.sim_clients.specs.Clients.{error_by, number_by, rig_after_turns}
use Rattle.sim_clients.proofs.law.posts_law.Goals as goal

pub returns-clause-rudder : goal.returns-clause-rudder
returns-clause-rudder c = λ craft allowed mails. rudder_lies craft allowed (rig_after_turns craft mails (length mails - 1)) (error_by mails) (number_by mails (codes "DESIRED_SPEED"))

pub returns-clause-thrust : goal.returns-clause-thrust
returns-clause-thrust c = λ craft allowed mails. thrust_lies craft allowed (rig_after_turns craft mails (length mails - 1)) (error_by mails) (number_by mails (codes "DESIRED_SPEED"))

pub returns-clause-hull : goal.returns-clause-hull
returns-clause-hull c = λ craft allowed period mails. turns_within craft allowed period mails (length mails)
