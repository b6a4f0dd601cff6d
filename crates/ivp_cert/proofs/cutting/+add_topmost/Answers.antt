use Rattle.std.proofs.Common.{◌≡◌, ◌<◌, ◌≤◌, ◌∷◌, [], ◌++◌, length, refl, sym, ap, subst, ◌∙◌, arith, append-nil}
use Rattle.std.proofs.lemmas.Bool.{false≢true}
use Rattle.ivp_problem.specs.declared.key.Key.{Key}
use Rattle.ivp_problem.specs.Keys.{AtMost}
use Rattle.ivp_problem.specs.Trees.{bound_of}
use Rattle.ivp_problem.proofs.Pieces.{child_depth}
use Rattle.ivp_problem.proofs.KeyOrder.{false_at_most}
use Rattle.ivp_cert.proofs.Stepping.{child_added, left_full, left_last, left_start, one_longer, popped_back, own_added}
use Rattle.ivp_cert.proofs.cutting.+add_topmost.Goals as goal

pub returns-then-at_most-clause-lines : goal.returns-then-at_most-clause-lines
returns-then-at_most-clause-lines t c =
    let problem = c.args.problem.now in
    own_added problem c.args.key c.args.trail.now c.all.result.now c.args.node.now c.bound_of-bound.result c.args.lines.now.items c.add_line.new.lines.items c.bound_of-bound.ensures.bound c.all.ensures.all (subst (λ (k : Key). AtMost k c.args.key) c.bound_of-bound.ensures.bound (c.at_most.ensures.0 c.if-at_most.true)) c.in_ok-add_line.ensures

pub returns-then-node-len-clause-lines : goal.returns-then-node-len-clause-lines
returns-then-node-len-clause-lines t c =
    let problem = c.args.problem.now in
    let node = c.args.node.now in
    let full : length problem.terms ≤ node.depth = omega (arith, c.if-node-len.true, c.len.ensures.len) in
    let none = left_full problem c.args.key c.args.trail.now node full (false_at_most (bound_of c.args.problem.now c.args.node.now) c.args.key (λ le. absurd (false≢true (sym c.if-at_most.false ∙ c.at_most.ensures.1 (subst (λ (k : Key). AtMost k c.args.key) (sym c.bound_of-bound.ensures.bound) le))))) in
    sym (ap (λ ls. c.args.lines.now.items ++ ls) none ∙ append-nil c.args.lines.now.items)

pub loop-child-init : goal.loop-child-init
loop-child-init t c =
    let problem = c.args.problem.now in
    let node = c.args.node.now in
    record {
      few = omega arith;
      lines = ap (λ ls. c.args.lines.now.items ++ ls) (left_start problem c.args.key c.args.trail.now node (omega (arith, c.if-node-len.false, c.len.ensures.len)) (false_at_most (bound_of c.args.problem.now c.args.node.now) c.args.key (λ le. absurd (false≢true (sym c.if-at_most.false ∙ c.at_most.ensures.1 (subst (λ (k : Key). AtMost k c.args.key) (sym c.bound_of-bound.ensures.bound) le))))));
      trail = refl;
    }

pub add_topmost-requires : goal.add_topmost-requires
add_topmost-requires t c =
    let child = c.in-Some in
    let deeper = child_depth c.args.problem.now c.args.node.now child.child.node child.child.piece child.ensures.child in
    (omega (arith, deeper), (child.ensures.node, omega (arith, one_longer _ _ _ c.push.ensures, ap length c.loop-child.invariant.trail, deeper)))

pub pop-requires : goal.pop-requires
pop-requires t c = omega (arith, one_longer _ _ _ (c.in_ok-add_topmost.ensures.trail ∙ c.push.ensures))

pub loop-child-preserved : goal.loop-child-preserved
loop-child-preserved t c =
    let problem = c.args.problem.now in
    let node = c.args.node.now in
    let path = c.args.trail.now in
    let child = c.in-Some in
    let below : node.depth < length problem.terms = omega (arith, c.if-node-len.false, c.len.ensures.len) in
    let old = c.loop-child.invariant in
    let more : c.push.new.self ≡ path ++ child.child.piece ∷ [] = c.push.ensures ∙ ap (λ p. p ++ child.child.piece ∷ []) old.trail in
    record {
      few = omega (arith, child.ensures.piece.1);
      lines = old.lines ∙ child_added problem c.args.key path c.push.new.self node child.child.node c.loop-child.from child.child.piece c.loop-child.lines.items c.add_topmost.new.lines.items below child.ensures.piece.0 child.ensures.least child.ensures.child more c.in_ok-add_topmost.ensures.lines;
      trail = popped_back path c.add_topmost.new.trail c.pop.new.self child.child.piece (c.in_ok-add_topmost.ensures.trail ∙ more) c.pop.ensures;
    }

pub returns-clause-lines : goal.returns-clause-lines
returns-clause-lines t c =
    let problem = c.args.problem.now in
    let node = c.args.node.now in
    let none = left_last problem c.args.key c.args.trail.now node c.loop-child.from (omega (arith, c.if-node-len.false, c.len.ensures.len)) c.in_default.ensures.none in
    sym (c.loop-child.invariant.lines ∙ (ap (λ ls. c.loop-child.lines.items ++ ls) none ∙ append-nil c.loop-child.lines.items))
