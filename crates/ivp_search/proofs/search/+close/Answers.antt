use Rattle.std.proofs.Common.{◌≡◌, ◌+◌, ◌-◌, ◌<◌, suc, Some, length, List, sym, subst, ap, ◌∙◌, arith}
use Rattle.std.proofs.lemmas.Bool.{false≢true}
use Rattle.ivp_domain.specs.Boxes.{has_point}
use Rattle.ivp_problem.specs.declared.node.Node.{Node}
use Rattle.ivp_problem.specs.Nodes.{nodes_from, nodes_under}
use Rattle.ivp_problem.specs.Trees.{bound_of, child_of, children_of, has_in}
use Rattle.ivp_search.specs.Incumbents.{IsBest}
use Rattle.ivp_problem.proofs.Pieces.{child_depth, children_end, children_to, has_all, none_to}
use Rattle.ivp_search.proofs.Closing.{closed_child, none_closed, one_counted, pruned, reached, same_points, size_all, size_more, size_under}
use Rattle.ivp_search.proofs.search.+close.Goals as goal

pub returns-then-reaches-clause-best : goal.returns-then-reaches-clause-best
returns-then-reaches-clause-best g t c = pruned c.args.problem.now (has_point c.args.node.now.area) c.args.incumbent c.bound-bound.result (c.reaches.ensures.0 c.if-reaches.true) c.bound-bound.ensures.above

pub returns-then-reaches-clause-counted : goal.returns-then-reaches-clause-counted
returns-then-reaches-clause-counted g t c = one_counted c.args.problem.now c.args.node.now c.args.steps.now c.bound-bound.new.steps c.bound-bound.ensures.counted

pub bound_law-requires-clause-full : goal.bound_law-requires-clause-full
bound_law-requires-clause-full g t c = omega (arith, c.if-node-len.true, c.len.ensures.len)

pub returns-then-node-len-clause-best : goal.returns-then-node-len-clause-best
returns-then-node-len-clause-best g t c =
    let problem = c.args.problem.now in
    let node = c.args.node.now in
    reached problem (has_point node.area) c.args.incumbent c.bound-bound.result (bound_of problem node) (λ reach. absurd (false≢true (sym c.if-reaches.false ∙ c.reaches.ensures.1 reach))) c.bound-bound.ensures.above c.bound-bound.ensures.bound c.bound_law.ensures

pub returns-then-node-len-clause-counted : goal.returns-then-node-len-clause-counted
returns-then-node-len-clause-counted g t c = one_counted c.args.problem.now c.args.node.now c.args.steps.now c.bound-bound.new.steps c.bound-bound.ensures.counted

pub children_law-requires-clause-depth : goal.children_law-requires-clause-depth
children_law-requires-clause-depth g t c = omega (arith, c.if-node-len.false, c.len.ensures.len)

pub loop-next-init : goal.loop-next-init
loop-next-init g t c = record { few = omega arith; best = none_closed c.args.problem.now c.args.incumbent; steps = omega (arith, c.bound-bound.ensures.counted) }

pub next_child-requires-clause-depth : goal.next_child-requires-clause-depth
next_child-requires-clause-depth g t c = omega (arith, c.if-node-len.false, c.len.ensures.len)

pub overflow_add-from : goal.overflow_add-from
overflow_add-from g t c = omega (arith, c.in-Some.ensures.piece.1)

pub loop-next-smaller : goal.loop-next-smaller
loop-next-smaller g t c = omega (arith, c.in-Some.ensures.piece.0, c.in-Some.ensures.piece.1)

pub loop-next-preserved : goal.loop-next-preserved
loop-next-preserved g t c =
    let problem = c.args.problem.now in
    let node = c.args.node.now in
    let child = c.in-Some.next.node in
    let k = c.in-Some.next.piece in
    let levels = length problem.terms - (node.depth + 1) in
    let old = c.loop-next.invariant in
    let is : child_of problem node k ≡ Some child = c.in-Some.ensures.child in
    let same : children_to problem node k ≡ children_to problem node c.loop-next.from = none_to problem node c.loop-next.from k c.in-Some.ensures.piece.0 c.in-Some.ensures.least in
    let depth : length (nodes_under problem child) ≡ length (nodes_from problem levels child) = ap (λ d. length (nodes_from problem (length problem.terms - d) child)) (child_depth problem node child k is) in
    let best : IsBest problem (has_in (children_to problem node k)) c.args.incumbent c.loop-next.best = subst (λ (nodes : List Node). IsBest problem (has_in nodes) c.args.incumbent c.loop-next.best) (sym same) old.best in
    record {
      few = omega (arith, c.in-Some.ensures.piece.1);
      best = closed_child problem node child k c.args.incumbent c.loop-next.best c.close-best.result is best c.close-best.ensures.best;
      steps = omega (arith, old.steps, c.close-best.ensures.counted, depth, ap (size_under problem levels) same, size_more problem node child levels k is);
    }

pub returns-clause-best : goal.returns-clause-best
returns-clause-best g t c =
    let problem = c.args.problem.now in
    let node = c.args.node.now in
    let below : node.depth < length problem.terms = omega (arith, c.if-node-len.false, c.len.ensures.len) in
    let all = children_end problem node c.loop-next.from below c.in_default.ensures.none in
    same_points problem (has_in (children_to problem node c.loop-next.from)) (has_point node.area) c.args.incumbent c.loop-next.best c.loop-next.invariant.best (λ p. has_all node (children_of problem node) p (c.children_law.ensures p) ∙ ap (λ nodes. has_in nodes p) (sym all))

pub returns-clause-counted : goal.returns-clause-counted
returns-clause-counted g t c =
    let problem = c.args.problem.now in
    let node = c.args.node.now in
    let levels = length problem.terms - (node.depth + 1) in
    let below : node.depth < length problem.terms = omega (arith, c.if-node-len.false, c.len.ensures.len) in
    let all = children_end problem node c.loop-next.from below c.in_default.ensures.none in
    let next : length problem.terms - node.depth ≡ suc levels = omega (arith, below) in
    omega (arith, c.loop-next.invariant.steps, ap (size_under problem levels) all, size_all problem node levels next)
