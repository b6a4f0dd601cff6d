use Rattle.std.proofs.Common.{get_or}
use Rattle.std.proofs.lemmas.Option.{slice_get-get_or}
use Rattle.ivp_problem.proofs.Children.{count_children}
use Rattle.ivp_problem.proofs.Nodes.{blank_term, node_keeps}
use Rattle.ivp_problem.proofs.law.children_law.Goals as goal

pub returns : goal.returns
returns c = λ p.
    let problem = c.args.problem.now in
    let node = c.args.node.now in
    let h = c.problem_law.ensures in
    count_children problem node (get_or problem.terms node.depth blank_term) p h (node_keeps problem node h c.requires.node) (slice_get-get_or problem.terms node.depth blank_term c.requires.depth)
