use Rattle.bhv_kinds.proofs.Couples.{steered}
use Rattle.bhv_kinds.proofs.steering.travel.Goals as goal

pub returns : goal.returns
returns c = steered c.args.domain.now c.args.speed c.args.degree c.steering.result c.cruising.result c.in_ok-func.func c.steering.ensures.peak c.cruising.ensures.peak c.in_ok-func.ensures
