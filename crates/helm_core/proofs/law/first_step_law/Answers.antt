use Rattle.helm_core.proofs.FirstSteps.{counts, never}
use Rattle.helm_core.proofs.law.first_step_law.Goals as goal

pub returns-clause-counts : goal.returns-clause-counts
returns-clause-counts c = counts c.first_run_law.ensures.stepped

pub returns-clause-never : goal.returns-clause-never
returns-clause-never c = never c.first_run_law.ensures.never
