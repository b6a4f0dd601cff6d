use Rattle.helm_laws.proofs.Relying.{reliable}
use Rattle.helm_laws.proofs.law.reliable_law.Goals as goal

pub returns : goal.returns
returns c = reliable c.worth_law.ensures c.iterations_law.ensures
