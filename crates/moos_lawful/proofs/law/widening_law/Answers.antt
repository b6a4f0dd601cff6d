use Rattle.moos_lawful.proofs.Widening.{widened}
use Rattle.moos_lawful.proofs.law.widening_law.Goals as goal

pub returns : goal.returns
returns g c = λ short long may wider history later so now bounds. widened short long may wider history later so now bounds
