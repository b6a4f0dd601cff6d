-- What was played is the script that was made.
use Rattle.moos_jobs.proofs.generate_job.play_generated.Goals as goal

pub returns : goal.returns
returns g c = c.play_survey.ensures c.args.number c.in_ok-script.ensures.script c.in_ok-script.ensures.rises
