use Rattle.helm_core.proofs.WellFormedPlans.{well_formed}
use Rattle.helm_core.proofs.law.plan_law.Goals as goal

pub returns : goal.returns
returns c mission file valid read = well_formed mission file valid read
