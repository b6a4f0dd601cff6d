use Rattle.std.proofs.Common.{◌≡◌, ◌∷◌, ◌++◌, [], List, drop, length, arith, ap, sym, subst, ◌∙◌}
use Rattle.std.specs.Prelude.{All}
use Rattle.std.specs.List.Sorted.{IsPermutation}
use Rattle.std.proofs.lemmas.List.{get_or-map, length-map}
use Rattle.std.proofs.lemmas.List.Sorted.{All-permutation, IsPermutation-map, length_permutation}
use Rattle.ivp_problem.specs.declared.node.Node.{Node}
use Rattle.ivp_problem.specs.Problems.{WeightedSum}
use Rattle.ivp_problem.specs.Trees.{bound_of, IsNode, root_of}
use Rattle.ivp_pool.specs.declared.root.Child.{Child}
use Rattle.ivp_pool.specs.Roots.{AreBounded, AreByBound, child_nodes}
use Rattle.ivp_pool.specs.Solving.{WentOn}
use Rattle.ivp_pool.proofs.Lent.{came_back}
use Rattle.ivp_pool.proofs.Teams.{went_in_order}
use Rattle.ivp_pool.proofs.root.close_root.Goals as goal

-- what holds of each node holds of each child
each_child : (P : Node → Type 0) (children : List Child) → All P (child_nodes children) → All (λ (child : Child). P child.node) children
each_child P children all = λ k d within. subst P (get_or-map (λ (child : Child). child.node) children k d d.node within) (all k d.node (omega (arith, within, length-map children (λ (child : Child). child.node))))

pub returns-clause-went : goal.returns-clause-went
returns-clause-went g c =
    let problem = c.args.problem.now in
    let node : Node = root_of problem in
    let old = c.close_next.new.tray.children in
    let new = c.sort_by_bound.new.children in
    let went = c.close_next.ensures.went in
    let took : child_nodes old.items ≡ went.0 = went.1 ∙ ap (λ (cs : List Child). child_nodes cs ++ went.0) c.new-children.ensures.items in
    let moved = subst (λ (cs : List Child). IsPermutation cs new) c.deref_mut.ensures.value c.sort_by_bound.ensures.moved in
    let back = came_back old.len new (drop (length new) old.items) (omega (arith, length_permutation old.items new moved, old.ok)) in
    let was = subst (λ (i : Node × List Node). WentOn problem (i.0 ∷ []) i.1 c.args.worker.now c.close_next.new.worker) (λ t. (c.root.ensures.root t, sym took t)) went.2 in
    subst (λ (cs : List Child). WentOn problem (node ∷ []) (child_nodes cs) c.args.worker.now c.close_next.new.worker) (sym back)
    (went_in_order problem (node ∷ []) (child_nodes old.items) (child_nodes new) c.args.worker.now c.close_next.new.worker (IsPermutation-map (λ (child : Child). child.node) old.items new moved) was)

pub returns-clause-nodes : goal.returns-clause-nodes
returns-clause-nodes g c =
    let P : Node → Type 0 = IsNode c.args.problem.now in
    let Q : Child → Type 0 = λ child. P child.node in
    let old = c.close_next.new.tray.children in
    let new = c.sort_by_bound.new.children in
    let went = c.close_next.ensures.went in
    let took : child_nodes old.items ≡ went.0 = went.1 ∙ ap (λ (cs : List Child). child_nodes cs ++ went.0) c.new-children.ensures.items in
    let moved = subst (λ (cs : List Child). IsPermutation cs new) c.deref_mut.ensures.value c.sort_by_bound.ensures.moved in
    let back = came_back old.len new (drop (length new) old.items) (omega (arith, length_permutation old.items new moved, old.ok)) in
    subst (All Q) (sym back) (All-permutation Q old.items new moved (each_child P old.items (subst (All P) (sym took) went.3)))

pub returns-clause-order : goal.returns-clause-order
returns-clause-order g c =
    let old = c.close_next.new.tray.children in
    let new = c.sort_by_bound.new.children in
    let moved = subst (λ (cs : List Child). IsPermutation cs new) c.deref_mut.ensures.value c.sort_by_bound.ensures.moved in
    let back = came_back old.len new (drop (length new) old.items) (omega (arith, length_permutation old.items new moved, old.ok)) in
    subst AreByBound (sym back) c.sort_by_bound.ensures.order

pub returns-clause-bounded : goal.returns-clause-bounded
returns-clause-bounded g c =
    let problem = c.args.problem.now in
    let P : Child → Type 0 = λ child. child.bound ≡ bound_of problem child.node in
    let old = c.close_next.new.tray.children in
    let new = c.sort_by_bound.new.children in
    let moved = subst (λ (cs : List Child). IsPermutation cs new) c.deref_mut.ensures.value c.sort_by_bound.ensures.moved in
    let back = came_back old.len new (drop (length new) old.items) (omega (arith, length_permutation old.items new moved, old.ok)) in
    let was = subst (λ (about : WeightedSum). AreBounded about old.items) c.close_next.ensures.tray c.close_next.new.tray.bounded in
    subst (All P) (sym back) (All-permutation P old.items new moved was)
