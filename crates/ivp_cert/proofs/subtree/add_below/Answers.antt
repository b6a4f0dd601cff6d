use Rattle.std.proofs.Common.{All, subst, ◌≡◌, ◌<◌, ◌++◌, ◌∷◌, [], length, ap, sym, ◌∙◌, arith, append-nil}
use Rattle.std.proofs.lemmas.Bool.{false≢true}
use Rattle.std.proofs.lemmas.List.Elements.{All-push}
use Rattle.ivp_problem.specs.declared.key.Key.{Key}
use Rattle.ivp_problem.specs.Keys.{AtMost}
use Rattle.ivp_problem.specs.Trees.{bound_of}
use Rattle.ivp_problem.proofs.KeyOrder.{false_at_most}
use Rattle.ivp_problem.proofs.Pieces.{child_depth}
use Rattle.ivp_cert.specs.declared.subtree.Subtree.{Subtree}
use Rattle.ivp_cert.specs.Subtrees.{IsSubtree, cut_in}
use Rattle.ivp_cert.proofs.Joining.{cuts_more}
use Rattle.ivp_cert.proofs.Stepping.{child_added, left_last, left_start, one_longer}
use Rattle.ivp_cert.proofs.subtree.add_below.Goals as goal

pub returns-then-subtree-len-clause-subtrees : goal.returns-then-subtree-len-clause-subtrees
returns-then-subtree-len-clause-subtrees c =
    let problem = c.args.problem.now in
    subst (All (IsSubtree problem)) (sym c.in_ok-push.ensures.items) (All-push (IsSubtree problem) c.args.subtrees.now.items c.args.subtree c.requires.subtrees c.requires.subtree)

pub loop-child-init : goal.loop-child-init
loop-child-init c =
    let problem = c.args.problem.now in
    let key = c.args.key in
    let node = c.args.subtree.node in
    let above = false_at_most (bound_of problem node) key (λ le. absurd (false≢true (sym c.if-at_most.false ∙ c.at_most.ensures.1 (subst (λ (k : Key). AtMost k key) (sym c.bound_of.ensures.bound) le)))) in
    record {
      few = omega arith;
      lines = ap (λ ls. cut_in problem key c.args.subtrees.now.items ++ ls) (left_start problem key c.args.subtree.path node (omega (arith, c.if-subtree-len.false, c.len.ensures.len)) above);
      subtrees = c.requires.subtrees;
    }

pub loop-child-preserved : goal.loop-child-preserved
loop-child-preserved c =
    let problem = c.args.problem.now in
    let key = c.args.key in
    let node = c.args.subtree.node in
    let path = c.args.subtree.path in
    let child = c.in-Some in
    let old = c.loop-child.invariant in
    let below : node.depth < length problem.terms = omega (arith, c.if-subtree-len.false, c.len.ensures.len) in
    let pushed = c.push-in-Some.new.self in
    let more : pushed ≡ path ++ child.child.piece ∷ [] = c.push-in-Some.ensures ∙ ap (λ p. p ++ child.child.piece ∷ []) c.copy-path.ensures in
    let deeper = child_depth problem node child.child.node child.child.piece child.ensures.child in
    let new : Subtree = record { path = pushed; node = child.child.node } in
    let is : IsSubtree problem new = record { node = child.ensures.node; path = omega (arith, one_longer path pushed child.child.piece more, c.requires.subtree.path, deeper) } in
    let added = ap (cut_in problem key) c.in_ok-push-2.ensures.items ∙ cuts_more problem key c.loop-child.subtrees.items new in
    record {
      few = omega (arith, child.ensures.piece.1);
      lines = old.lines ∙ child_added problem key path pushed node child.child.node c.loop-child.from child.child.piece (cut_in problem key c.loop-child.subtrees.items) (cut_in problem key c.push-in-Some-2.new.self.items) below child.ensures.piece.0 child.ensures.least child.ensures.child more added;
      subtrees = subst (All (IsSubtree problem)) (sym c.in_ok-push-2.ensures.items) (All-push (IsSubtree problem) c.loop-child.subtrees.items new old.subtrees is);
    }

pub returns-clause-lines : goal.returns-clause-lines
returns-clause-lines c =
    let problem = c.args.problem.now in
    let key = c.args.key in
    let node = c.args.subtree.node in
    let none = left_last problem key c.args.subtree.path node c.loop-child.from (omega (arith, c.if-subtree-len.false, c.len.ensures.len)) c.in_default.ensures.none in
    sym (c.loop-child.invariant.lines ∙ (ap (λ ls. cut_in problem key c.loop-child.subtrees.items ++ ls) none ∙ append-nil (cut_in problem key c.loop-child.subtrees.items)))
