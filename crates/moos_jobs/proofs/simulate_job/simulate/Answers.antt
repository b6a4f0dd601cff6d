-- What was told of the play is what the job may write.
use Rattle.std.proofs.Common.{ap, refl}
use Rattle.std.specs.Prelude.{Some}
use Rattle.moos_jobs.proofs.HelmCommunities.{AreGoodFiles, good_files}
use Rattle.moos_jobs.proofs.TellingEndings.{ends_told}
use Rattle.moos_jobs.proofs.SimulatedCommunities.{told_apart}
use Rattle.moos_jobs.specs.Simulating.{IsFrontOfVoyage, IsVoyage, KeepsInRange, simulate_outcomes}
use Rattle.moos_jobs.specs.declared.task.Simulation.{Simulation}
use Rattle.moos_jobs.proofs.simulate_job.simulate.Goals as goal

pub returns : goal.returns
returns g c =
    let task : Simulation = c.args.task in
    let ranges : KeepsInRange task.gear.craft = record {
      rudder = c.posts_law.ensures.rudder task.gear.craft c.allowed_law.ensures;
      thrust = c.posts_law.ensures.thrust task.gear.craft c.allowed_law.ensures;
      hull = c.posts_law.ensures.hull task.gear.craft c.allowed_law.ensures;
    } in
    let good : AreGoodFiles task.files = good_files task.files c.plan_law.ensures c.worth_law.ensures c.names_law.ensures.once c.reliable_law.ensures c.requires.good.files in
    ends_told simulate_outcomes task (IsVoyage task) (IsFrontOfVoyage task) (λ text voyage. voyage) (λ text front. front) _ c.sail.result
    (c.sail.ensures task (record {
      same_script = refl;
      same_helm = ap (λ steering. Some steering) (c.in-Ok.ensures.steers task.script);
      same_names = refl;
      same_gear = refl;
      same_setup = c.in-Ok.ensures.setup;
      told = told_apart task c.requires.good.valid c.requires.good.apart good c.allowed_law.ensures ranges (record { few = c.contacts_law.ensures.few; pairs = c.contacts_law.ensures.pairs }) c.report_law.ensures;
      ranges = ranges;
      steers = good.steers;
    }))
