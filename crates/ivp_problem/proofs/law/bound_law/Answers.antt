use Rattle.ivp_problem.proofs.Bounds.{bound_attained}
use Rattle.ivp_problem.proofs.Nodes.{node_keeps}
use Rattle.ivp_problem.proofs.law.bound_law.Goals as goal

pub returns : goal.returns
returns c =
    let problem = c.args.problem.now in
    let node = c.args.node.now in
    let h = c.problem_law.ensures in
    bound_attained problem node h (node_keeps problem node h c.requires.node) c.requires.full
