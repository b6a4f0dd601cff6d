use Rattle.ivp_build.proofs.Covers.{boxes_all}
use Rattle.ivp_build.proofs.sampled.box_count.Goals as goal

pub returns-clause-boxes : goal.returns-clause-boxes
returns-clause-boxes c = boxes_all c.args.domain.now c.args.size c.volume.result c.all_runs.result c.all_runs.ensures.runs c.volume.ensures.points
