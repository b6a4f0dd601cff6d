-- The history of the play is that of a simulated vehicle as far as it goes.
use Rattle.moos_play.specs.Plays.{clients_in, history_in, script_played}
use Rattle.moos_simulate.proofs.Arriving.{arrives}
use Rattle.moos_simulate.proofs.vehicle.Vehicle.front_law.Goals as goal

pub returns : goal.returns
returns c =
    let so = c.requires in
    let play = c.args.play.now in
    let gear = c.args.self.now.gear in
    arrives c.args.self.now so.0 play so.1 c.front_law.ensures.steered c.front_law.ensures.helm
    (λ room. c.sailing_law.ensures (script_played play) so.0 gear (clients_in play) room (history_in play) so.1.sail.so_far)
