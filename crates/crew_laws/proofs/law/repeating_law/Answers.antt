use Rattle.crew_laws.proofs.Repeating.{same_iterations}
use Rattle.crew_laws.proofs.law.repeating_law.Goals as goal

pub returns : goal.returns
returns c = same_iterations c.input_law.ensures
