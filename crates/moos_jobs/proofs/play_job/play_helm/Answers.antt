-- What was told of the run is what its job may write.
use Rattle.std.proofs.Common.{ap}
use Rattle.std.specs.Prelude.{Some}
use Rattle.moos_jobs.proofs.HelmCommunities.{good_files}
use Rattle.moos_play.specs.Lawful.{helm_setup_with}
use Rattle.moos_jobs.proofs.Playing.{told_ended}
use Rattle.moos_jobs.proofs.play_job.play_helm.Goals as goal

pub returns : goal.returns
returns g c =
    let script = c.args.script.now in
    let fitted = c.in-Ok.fitted in
    told_ended c.args.order script (Some c.args.files) (Some (helm_setup_with script fitted.run)) fitted.setup c.report_law.ensures c.requires.valid
    (good_files c.args.files c.plan_law.ensures c.worth_law.ensures c.names_law.ensures.once c.reliable_law.ensures c.requires.files)
    (ap (λ steering. Some steering) (c.in-Ok.ensures.steers script)) c.in-Ok.ensures.setup _ c.play_rounds.result c.play_rounds.ensures
