use Rattle.helm_laws.proofs.Bounding.{bounds}
use Rattle.helm_laws.proofs.Depths.{depths}
use Rattle.helm_laws.proofs.Mosts.{bounded}
use Rattle.helm_laws.proofs.law.bound_law.Goals as goal

pub returns : goal.returns
returns c = record { kept = bounds c.worth_law.ensures; bounded = bounded; depths = depths c.worth_law.ensures }
