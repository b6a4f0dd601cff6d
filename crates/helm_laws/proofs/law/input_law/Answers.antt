use Rattle.helm_laws.proofs.SameInputs.{input}
use Rattle.helm_laws.proofs.law.input_law.Goals as goal

pub returns : goal.returns
returns c = input c.iterations_law.ensures
