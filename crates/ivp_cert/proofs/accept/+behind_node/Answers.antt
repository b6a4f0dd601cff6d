use Rattle.std.proofs.Common.{◌≡◌, ◌<◌, ◌∷◌, [], ◌++◌, Some, None, drop, length, refl, sym, ap, ◌∙◌, arith}
use Rattle.ivp_cert.specs.Walks.{behind_node, behind_own}
use Rattle.ivp_problem.proofs.Pieces.{child_depth}
use Rattle.ivp_cert.proofs.Stepping.{child_fails, child_passes, onward_full, onward_last, onward_own, onward_start, one_longer, popped_back}
use Rattle.ivp_cert.proofs.accept.+behind_node.Goals as goal

pub returns-in-Some-clause-behind : goal.returns-in-Some-clause-behind
returns-in-Some-clause-behind t c =
    let problem = c.args.problem.now in
    let node = c.args.node.now in
    let rest = drop c.in-Some.next c.args.cert.now in
    let lines = drop c.args.place c.args.cert.now in
    let own : behind_own problem c.args.key c.args.trail.now node lines ≡ Some rest = ap (λ p. behind_own problem c.args.key p node lines) (sym c.all.ensures.all) ∙ sym c.in-Some.ensures.behind in
    sym (onward_own problem c.args.key c.args.trail.now node lines rest (drop node.depth problem.terms) own)

pub returns-in_default-behind_node-clause-behind : goal.returns-in_default-behind_node-clause-behind
returns-in_default-behind_node-clause-behind t c =
    let problem = c.args.problem.now in
    let node = c.args.node.now in
    let path = c.args.trail.now in
    let child = c.in-Some-next_child in
    let lines = drop c.loop-child.place c.args.cert.now in
    let more = c.push.ensures ∙ ap (λ p. p ++ child.child.piece ∷ []) c.loop-child.invariant.trail in
    child_fails problem c.args.key path c.push.new.self node child.child.node c.loop-child.from child.child.piece lines
    (behind_node problem c.args.key (drop node.depth problem.terms) path node (drop c.args.place c.args.cert.now)) (omega (arith, c.if-node-len.false, c.len.ensures.len)) child.ensures.piece.0 child.ensures.least
    c.loop-child.invariant.onward child.ensures.child more c.in_default-behind_node.ensures.behind

pub returns-then-node-len-clause-behind : goal.returns-then-node-len-clause-behind
returns-then-node-len-clause-behind t c =
    let problem = c.args.problem.now in
    let node = c.args.node.now in
    let lines = drop c.args.place c.args.cert.now in
    let own : behind_own problem c.args.key c.args.trail.now node lines ≡ None = ap (λ p. behind_own problem c.args.key p node lines) (sym c.all.ensures.all) ∙ sym c.in_default.ensures.behind in
    sym (onward_full problem c.args.key c.args.trail.now node lines (omega (arith, c.if-node-len.true, c.len.ensures.len)) own)

pub loop-child-init : goal.loop-child-init
loop-child-init t c =
    let problem = c.args.problem.now in
    let node = c.args.node.now in
    let lines = drop c.args.place c.args.cert.now in
    let own : behind_own problem c.args.key c.args.trail.now node lines ≡ None = ap (λ p. behind_own problem c.args.key p node lines) (sym c.all.ensures.all) ∙ sym c.in_default.ensures.behind in
    record {
      few = omega arith;
      onward = onward_start problem c.args.key c.args.trail.now node lines (omega (arith, c.if-node-len.false, c.len.ensures.len)) own;
      within = c.requires.within;
      trail = refl;
    }

pub behind_node-requires : goal.behind_node-requires
behind_node-requires t c =
    let child = c.in-Some-next_child in
    let deeper = child_depth c.args.problem.now c.args.node.now child.child.node child.child.piece child.ensures.child in
    (omega (arith, deeper), (child.ensures.node, (omega (arith, one_longer _ _ _ c.push.ensures, ap length c.loop-child.invariant.trail, deeper), c.loop-child.invariant.within)))

pub pop-requires : goal.pop-requires
pop-requires t c = omega (arith, one_longer _ _ _ (c.in-Some-behind_node.ensures.trail ∙ c.push.ensures))

pub loop-child-preserved : goal.loop-child-preserved
loop-child-preserved t c =
    let problem = c.args.problem.now in
    let node = c.args.node.now in
    let path = c.args.trail.now in
    let cert = c.args.cert.now in
    let child = c.in-Some-next_child in
    let lines = drop c.loop-child.place cert in
    let whole = behind_node problem c.args.key (drop node.depth problem.terms) path node (drop c.args.place cert) in
    let below : node.depth < length problem.terms = omega (arith, c.if-node-len.false, c.len.ensures.len) in
    let old = c.loop-child.invariant in
    let more : c.push.new.self ≡ path ++ child.child.piece ∷ [] = c.push.ensures ∙ ap (λ p. p ++ child.child.piece ∷ []) old.trail in
    record {
      few = omega (arith, child.ensures.piece.1);
      onward = child_passes problem c.args.key path c.push.new.self node child.child.node c.loop-child.from child.child.piece lines (drop c.in-Some-behind_node.next cert) whole below child.ensures.piece.0 child.ensures.least old.onward child.ensures.child more c.in-Some-behind_node.ensures.behind;
      within = c.in-Some-behind_node.ensures.within;
      trail = popped_back path c.behind_node.new.trail c.pop.new.self child.child.piece (c.in-Some-behind_node.ensures.trail ∙ more) c.pop.ensures;
    }

pub returns-clause-behind : goal.returns-clause-behind
returns-clause-behind t c =
    let problem = c.args.problem.now in
    let node = c.args.node.now in
    let lines = drop c.loop-child.place c.args.cert.now in
    sym (c.loop-child.invariant.onward ∙ onward_last problem c.args.key c.args.trail.now node c.loop-child.from lines (omega (arith, c.if-node-len.false, c.len.ensures.len)) c.in_default-next_child.ensures.none)
