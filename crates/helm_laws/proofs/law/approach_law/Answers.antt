use Rattle.helm_laws.proofs.Approaching.{each_approach, of_approach}
use Rattle.helm_laws.proofs.law.approach_law.Goals as goal

pub returns : goal.returns
returns c = record { sampled = of_approach; each = each_approach }
