use Rattle.helm_core.proofs.Growing.{iteration_same}
use Rattle.helm_core.proofs.law.iterations_law.Goals as goal

pub returns : goal.returns
returns c plan ticks later i within = iteration_same plan ticks later i within
