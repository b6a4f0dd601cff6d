use Rattle.ivp_func.proofs.Facts.{area_point, box_parts}
use Rattle.ivp_problem.proofs.Bounds.{bound_full, IsHighCorner}
use Rattle.ivp_problem.proofs.Nodes.{node_keeps}
use Rattle.ivp_problem.proofs.problem.Problem.best_corner.Goals as goal

pub high_corner-requires : goal.high_corner-requires
high_corner-requires c =
    let problem = c.args.self.now in
    let keeps = node_keeps problem c.args.node.now c.problem_law.ensures c.requires.node in
    (box_parts problem.axes c.args.node.now.area keeps.inside).0

pub returns-clause-point : goal.returns-clause-point
returns-clause-point c =
    let problem = c.args.self.now in
    let keeps = node_keeps problem c.args.node.now c.problem_law.ensures c.requires.node in
    area_point problem.axes c.args.node.now.area c.high_corner.result keeps.inside c.high_corner.ensures.inside

pub returns-clause-best : goal.returns-clause-best
returns-clause-best c =
    let problem = c.args.self.now in
    let node = c.args.node.now in
    let corner = c.high_corner.result in
    let keeps = node_keeps problem node c.problem_law.ensures c.requires.node in
    let high : IsHighCorner node corner = record { inside = c.high_corner.ensures.inside; most = c.high_corner.ensures.most } in
    bound_full problem node corner keeps high c.requires.full
