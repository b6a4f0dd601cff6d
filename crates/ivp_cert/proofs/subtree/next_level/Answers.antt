use Rattle.std.proofs.Common.{◌≡◌, ◌∷◌, ◌++◌, All, suc, length, ap, sym, subst, ◌∙◌, arith}
use Rattle.std.specs.Vec.Iter.{into_iter_items}
use Rattle.ivp_cert.specs.Subtrees.{IsSubtree, cut_in}
use Rattle.ivp_cert.proofs.Joining.{cuts_next}
use Rattle.ivp_cert.proofs.subtree.next_level.Goals as goal

pub loop-subtree-preserved : goal.loop-subtree-preserved
loop-subtree-preserved c =
    let problem = c.args.problem.now in
    let key = c.args.key in
    let at = c.loop-subtree in
    let x = c.in-Some.subtree in
    let left = into_iter_items c.next.new.self in
    let steps : into_iter_items at.subtree-iterator ≡ x ∷ left = c.in-Some.ensures.steps.0 in
    let all : All (IsSubtree problem) (x ∷ left) = subst (All (IsSubtree problem)) steps at.invariant.rest in
    record {
      counted = let was = at.invariant.counted in let gone = c.in-Some.ensures.steps.1 in let short = ap length steps in omega arith;
      lines = cuts_next problem key at.deeper.items c.add_below.new.subtrees.items left x (cut_in problem key c.args.subtrees.items) c.in_ok-add_below.ensures.lines (ap (λ ls. cut_in problem key at.deeper.items ++ cut_in problem key ls) (sym steps) ∙ at.invariant.lines);
      subtrees = c.in_ok-add_below.ensures.subtrees;
      rest = λ k d h. all (suc k) d (omega (arith, h));
    }
