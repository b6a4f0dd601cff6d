use Rattle.ivp_domain.proofs.Sizes.{point_in_list_at}
use Rattle.ivp_cert.proofs.Accepting.{accepted_best}
use Rattle.ivp_cert.proofs.law.accepted_law.Goals as goal

pub returns : goal.returns
returns c = λ problem claim cert h inside four is. accepted_best problem claim cert h is inside (point_in_list_at problem.axes claim.point h.domain inside four)
