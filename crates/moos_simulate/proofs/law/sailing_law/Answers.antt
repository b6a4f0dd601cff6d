use Rattle.std.proofs.Common.{◌∷◌, length}
use Rattle.moos_lawful.proofs.Going.{completion}
use Rattle.moos_lawful.proofs.Playable.{is_playable}
use Rattle.moos_play.specs.Lawful.{mailed_in}
use Rattle.moos_play.specs.Schedules.{answering}
use Rattle.moos_simulate.proofs.law.sailing_law.Goals as goal
use Rattle.moos_simulate.specs.Simulated.{schedule_simulated, vehicle_clients}
use Rattle.script_reader.specs.declared.script.Order.TheVariants.{Stamp}
use Rattle.std.specs.Prelude.{Some}

pub returns : goal.returns
returns c = λ script helm gear names room history so.
    completion (schedule_simulated script (Some helm) gear names)
    (is_playable Stamp script.lines (length script.names) script.stop helm.period (answering helm ∷ vehicle_clients gear helm.period) (length names) (mailed_in names) room) history so
