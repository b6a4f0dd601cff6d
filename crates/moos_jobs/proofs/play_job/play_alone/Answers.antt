-- What was told of the run is what its job may write.
use Rattle.std.proofs.Common.{refl}
use Rattle.std.specs.Prelude.{None}
use Rattle.moos_jobs.proofs.Playing.{told_ended}
use Rattle.moos_jobs.proofs.play_job.play_alone.Goals as goal

pub returns : goal.returns
returns g c =
    told_ended c.args.order c.args.script.now None None c.setup_without_helm-setup.result c.report_law.ensures c.requires.valid tt refl c.setup_without_helm-setup.ensures _ c.play_rounds.result c.play_rounds.ensures
