use Rattle.std.proofs.Common.{arith}
use Rattle.ivp_domain.proofs.BoxLemmas.{listed_point}
use Rattle.ivp_build.proofs.Sampling.{runs_listed}
use Rattle.ivp_build.proofs.boxes.runs_at.Goals as goal

pub overflow_add-two : goal.overflow_add-two
overflow_add-two c = omega (arith, c.requires.small.0)

pub overflow_add-three : goal.overflow_add-three
overflow_add-three c = omega (arith, c.requires.small.1)

pub overflow_add-four : goal.overflow_add-four
overflow_add-four c = omega (arith, c.requires.small.2)

pub returns-clause-listed : goal.returns-clause-listed
returns-clause-listed c = (runs_listed c.args.runs.now c.args.number c.requires.least c.requires.within).0

pub returns-clause-inside : goal.returns-clause-inside
returns-clause-inside c = listed_point c.args.runs.now c.args.number _ (runs_listed c.args.runs.now c.args.number c.requires.least c.requires.within).0
