use Rattle.std.proofs.Common.{take}
use Rattle.ivp_domain.proofs.Sizes.{positive}
use Rattle.ivp_domain.proofs.domain.Domain.size.Goals as goal

pub returns-clause-some : goal.returns-clause-some
returns-clause-some c = rw c.size_at.ensures (positive (take c.self.inside.count c.self.inside.axes) c.self.invariant.0 c.args.axis)
