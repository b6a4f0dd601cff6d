use Rattle.ivp_problem.proofs.KeyOrder.{best_most, best_point, index_small, key_distinct, sum_most}
use Rattle.ivp_problem.proofs.law.keys_law.Goals as goal

pub returns-clause-sums : goal.returns-clause-sums
returns-clause-sums c = λ p inside. sum_most c.args.problem.now p c.problem_law.ensures inside

pub returns-clause-indices : goal.returns-clause-indices
returns-clause-indices c = λ p inside. index_small c.args.problem.now.axes p c.problem_law.ensures.domain inside

pub returns-clause-distinct : goal.returns-clause-distinct
returns-clause-distinct c = λ p q in_p in_q four four' e. key_distinct c.args.problem.now p q c.problem_law.ensures in_p in_q four four' e

pub returns-clause-point : goal.returns-clause-point
returns-clause-point c = best_point c.args.problem.now

pub returns-clause-best : goal.returns-clause-best
returns-clause-best c = λ p inside. best_most c.args.problem.now p inside
