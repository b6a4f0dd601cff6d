use Rattle.sim_vehicle.proofs.Ranges.{rudder_lies, start_within, step_within, thrust_lies}
use Rattle.sim_vehicle.proofs.law.ranges_law.Goals as goal

pub returns-clause-rudder : goal.returns-clause-rudder
returns-clause-rudder c = λ craft allowed rig error speed. rudder_lies craft allowed rig error speed

pub returns-clause-thrust : goal.returns-clause-thrust
returns-clause-thrust c = λ craft allowed rig error speed. thrust_lies craft allowed rig error speed

pub returns-clause-start : goal.returns-clause-start
returns-clause-start c = λ craft allowed. start_within craft allowed

pub returns-clause-step : goal.returns-clause-step
returns-clause-step c = λ craft allowed hull within rudder thrust want_depth dt. step_within craft allowed hull within rudder thrust want_depth dt
