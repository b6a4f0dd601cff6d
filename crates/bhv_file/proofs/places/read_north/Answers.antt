use Rattle.bhv_file.proofs.Listed.{two_commas}
use Rattle.bhv_file.proofs.places.read_north.Goals as goal

pub returns-in-Some-clause-spot : goal.returns-in-Some-clause-spot
returns-in-Some-clause-spot c = two_commas c.args.x.now c.cut_at.result.0.now c.args.behind.now c.cut_at.result.1 c.in-Some.field-0 c.cut_at.ensures.cut c.in-Some.is
