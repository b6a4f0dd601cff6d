-- The writer is made clear, and holds nothing that the sink could still take when it is let go: the sink is then as it was left.
use Rattle.std.proofs.Common.{subst, sym, ◌∙◌}
use Rattle.command_line.specs.Endings.{sinking}
use Rattle.moos_play.specs.Plays.{clients_in, helm_in, script_played}
use Rattle.moos_jobs.specs.Simulating.{IsOfSimulation, TellsVoyage}
use Rattle.moos_jobs.specs.declared.task.Simulation.{Simulation}
use Rattle.moos_jobs.proofs.simulate_telling.tell.Goals as goal

pub tell_through-status-requires-clause-clear : goal.tell_through-status-requires-clause-clear
tell_through-status-requires-clause-clear g c κs lives = record { empty = c.new-writer.ensures.empty; going = c.new-writer.ensures.going }

-- the facts on a vehicle are too many for a search to find that the sink is the same one
pub returns : goal.returns
returns g c =
    let play = c.args.play.now in
    let before = c.args.out.now in
    let left = c.out-1.given.1 (sym (c.tell_through-status.ensures.sink ∙ c.new-writer.ensures.same)) ∙ c.close.ensures in
    subst
    (λ now. (task : Simulation) → IsOfSimulation task c.args.setup.now c.args.vehicle.now.gear (script_played play) (helm_in play) (clients_in play)
    → TellsVoyage task (sinking (g.K.Sink.taken before) (g.K.Sink.taken now) (g.K.Sink.faults before) (g.K.Sink.faults now)) c.tell_through-status.result)
    (sym left) (λ task of. rw c.new-writer.ensures.now at (c.tell_through-status.ensures.told task of))
