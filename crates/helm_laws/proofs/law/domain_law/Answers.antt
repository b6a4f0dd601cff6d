use Rattle.helm_laws.proofs.Desiring.{in_domain}
use Rattle.helm_laws.proofs.law.domain_law.Goals as goal

pub returns : goal.returns
returns c = in_domain
