use Rattle.ivp_build.proofs.Sampling.{boxes_few}
use Rattle.ivp_build.proofs.boxes.all_runs.Goals as goal

pub returns-clause-few : goal.returns-clause-few
returns-clause-few c = rw (c.last_run.ensures.run, c.last_run-2.ensures.run, c.last_run-3.ensures.run, c.last_run-4.ensures.run) (boxes_few c.args.domain.now c.args.size c.axes-lawful.ensures.lawful)
