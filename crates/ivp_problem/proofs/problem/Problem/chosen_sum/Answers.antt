use Rattle.std.proofs.Common.{◌≡◌, ◌≤◌, take, length, length-take, refl, ◌∙◌, to_z, of_z, arith}
use mir.Syntax.{w128}
use Rattle.std.proofs.lemmas.Int.{ints}
use Rattle.ivp_problem.proofs.Nodes.{node_keeps, place_small, small_more}
use Rattle.ivp_problem.proofs.Terms.{each_take, weighted_sums_most}
use Rattle.ivp_func.proofs.Facts.{area_point}
use Rattle.ivp_problem.proofs.problem.Problem.chosen_sum.Goals as goal

pub chosen-requires-clause-node : goal.chosen-requires-clause-node
chosen-requires-clause-node c =
    let h = c.problem_law.ensures in
    let keeps = node_keeps c.args.self.now c.args.node.now h c.requires.node in
    small_more c.args.node.now.depth 64 c.args.node.now (omega (arith, keeps.depth, h.few)) keeps.small

pub chosen-requires-clause-places : goal.chosen-requires-clause-places
chosen-requires-clause-places c =
    let h = c.problem_law.ensures in
    place_small c.args.self.now c.args.node.now c.args.point.now h (node_keeps c.args.self.now c.args.node.now h c.requires.node) c.requires.point

pub overflow_cast-result : goal.overflow_cast-result
overflow_cast-result c =
    let h = c.problem_law.ensures in
    let problem = c.args.self.now in
    let node = c.args.node.now in
    let keeps = node_keeps problem node h c.requires.node in
    let terms = take node.depth problem.terms in
    let kept : to_z w128 (of_z w128 c.chosen.result) ≡ c.chosen.result = omega (arith, ints) in
    let most = weighted_sums_most problem.axes terms c.args.point.now (each_take problem.axes node.depth problem.terms h.terms) (area_point problem.axes node.area c.args.point.now keeps.inside c.requires.point) in
    let few : length terms ≤ 64 = omega (arith, length-take node.depth problem.terms, keeps.depth, h.few) in
    rw (kept ∙ (c.chosen.ensures ∙ keeps.sum c.args.point.now c.requires.point)) (tt, omega arith)

pub returns-clause-sum : goal.returns-clause-sum
returns-clause-sum c =
    let h = c.problem_law.ensures in
    let keeps = node_keeps c.args.self.now c.args.node.now h c.requires.node in
    let kept : to_z w128 (of_z w128 c.chosen.result) ≡ c.chosen.result = omega (arith, ints) in
    rw (kept ∙ (c.chosen.ensures ∙ keeps.sum c.args.point.now c.requires.point)) refl

pub returns-clause-range : goal.returns-clause-range
returns-clause-range c =
    let h = c.problem_law.ensures in
    let problem = c.args.self.now in
    let node = c.args.node.now in
    let keeps = node_keeps problem node h c.requires.node in
    let terms = take node.depth problem.terms in
    let kept : to_z w128 (of_z w128 c.chosen.result) ≡ c.chosen.result = omega (arith, ints) in
    let most = weighted_sums_most problem.axes terms c.args.point.now (each_take problem.axes node.depth problem.terms h.terms) (area_point problem.axes node.area c.args.point.now keeps.inside c.requires.point) in
    let few : length terms ≤ node.depth = omega (arith, length-take node.depth problem.terms) in
    rw (kept ∙ (c.chosen.ensures ∙ keeps.sum c.args.point.now c.requires.point)) (omega arith)
