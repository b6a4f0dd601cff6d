use Rattle.std.proofs.Common.{arith}
use Rattle.ivp_cert.proofs.Deciding.{not_on}
use Rattle.ivp_cert.proofs.claim.are_on.Goals as goal

pub returns-then-axes-places : goal.returns-then-axes-places
returns-then-axes-places c = not_on c.args.axes.now c.args.places.now (λ same. omega (arith, same))
