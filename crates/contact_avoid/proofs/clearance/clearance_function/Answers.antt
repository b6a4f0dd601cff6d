use Rattle.std.proofs.Common.{pos}
use Rattle.contact_avoid.specs.Avoids.{clearance_at}
use Rattle.contact_avoid.proofs.clearance.clearance_function.Goals as goal

pub returns-in-Ok : goal.returns-in-Ok
returns-in-Ok c = c.in-Ok.ensures.pieces (λ point. pos (clearance_at c.args.domain.now c.args.avoidance.now c.args.own.now c.args.track.now point)) (λ point answer inside post. post.0)
