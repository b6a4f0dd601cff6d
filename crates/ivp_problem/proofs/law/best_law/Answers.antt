use Rattle.ivp_problem.proofs.BestPoints.{best_listed}
use Rattle.ivp_problem.proofs.law.best_law.Goals as goal

pub returns : goal.returns
returns c = best_listed c.args.problem.now c.problem_law.ensures
