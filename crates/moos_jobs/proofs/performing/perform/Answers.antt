-- A job with tasks of its own ends among all as it ends there.
use Rattle.std.proofs.Common.{subst, sym}
use Rattle.command_line.proofs.Joining.{ended_as}
use Rattle.command_line.specs.Endings.{Ended, sinking}
use Rattle.command_line.specs.Turns.{Ready}
use Rattle.moos_jobs.specs.Jobs.{outcomes}
use Rattle.moos_jobs.specs.declared.task.Task.{Task}
use Rattle.moos_jobs.specs.declared.task.Task.TheVariants.{Sharing, Simulating}
use Rattle.moos_jobs.specs.Sharing.{share_outcomes}
use Rattle.moos_jobs.specs.Simulating.{simulate_outcomes}
use Rattle.moos_jobs.proofs.performing.perform.Goals as goal

pub returns-in-Sharing : goal.returns-in-Sharing
returns-in-Sharing g c =
    let sink = sinking (g.K.Sink.taken c.args.out.now) (g.K.Sink.taken c.share_scripts.new.out) (g.K.Sink.faults c.args.out.now) (g.K.Sink.faults c.share_scripts.new.out) in
    subst (λ (task : Task). Ended outcomes (Ready task) sink c.share_scripts.result) (sym c.in-Sharing.is)
    (ended_as Sharing share_outcomes outcomes (λ task status text may. may) (λ task text stands. absurd stands) (Ready c.in-Sharing.task) sink c.share_scripts.result c.share_scripts.ensures)

pub returns-in-Simulating : goal.returns-in-Simulating
returns-in-Simulating g c =
    let sink = sinking (g.K.Sink.taken c.args.out.now) (g.K.Sink.taken c.simulate.new.out) (g.K.Sink.faults c.args.out.now) (g.K.Sink.faults c.simulate.new.out) in
    subst (λ (task : Task). Ended outcomes (Ready task) sink c.simulate.result) (sym c.in-Simulating.is)
    (ended_as Simulating simulate_outcomes outcomes (λ task status text may. may) (λ task text stands. stands) (Ready c.in-Simulating.task) sink c.simulate.result c.simulate.ensures)
