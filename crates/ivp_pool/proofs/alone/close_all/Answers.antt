use Rattle.std.proofs.Common.{◌∷◌, [], List, get_or, take, sym, ◌∙◌, subst}
use Rattle.std.proofs.lemmas.List.{map_more}
use Rattle.ivp_problem.specs.declared.node.Node.{Node}
use Rattle.ivp_pool.specs.declared.root.Child.{Child}
use Rattle.ivp_pool.specs.Roots.{child_nodes}
use Rattle.ivp_pool.specs.Solving.{WentOn}
use Rattle.ivp_pool.proofs.Roots.{blank_child}
use Rattle.ivp_pool.proofs.Teams.{went_more}
use Rattle.ivp_pool.proofs.alone.close_all.Goals as goal

pub loop-child-preserved : goal.loop-child-preserved
loop-child-preserved g c =
    let problem = c.args.problem.now in
    let children = c.args.children.now in
    let count = c.loop-child.child-index in
    let inv = c.loop-child.invariant in
    let new = c.close_next.new.worker in
    let child : Child = get_or children count blank_child in
    let went = c.close_next.ensures.went in
    let more = map_more (λ (one : Child). one.node) children count blank_child c.loop-child-test.true in
    let both = went_more problem (child_nodes (take count children)) [] (child.node ∷ []) went.0 c.args.worker.now c.loop-child.worker new inv.went went.2 in
    record {
      went = subst (λ (i : List Node × List Node). WentOn problem i.0 i.1 c.args.worker.now new) (λ t. (sym more t, sym went.1 t)) both;
      worker = c.close_next.ensures.worker;
      tray = c.close_next.ensures.tray ∙ inv.tray;
    }
