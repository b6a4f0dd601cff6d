use Rattle.std.proofs.Common.{[], List, subst}
use Rattle.ivp_pool.specs.declared.root.Child.{Child}
use Rattle.ivp_pool.specs.Roots.{child_nodes}
use Rattle.ivp_pool.specs.Solving.{WentOn}
use Rattle.ivp_pool.proofs.Searching.{new_worker, searched_alone}
use Rattle.ivp_pool.proofs.alone.search_alone.Goals as goal

pub close_root-children-requires-clause-worker : goal.close_root-children-requires-clause-worker
close_root-children-requires-clause-worker g c κs within = new_worker c.args.problem.now c.args.best.now c.args.worker.now c.requires

pub returns-clause-searched : goal.returns-clause-searched
returns-clause-searched g c = λ key up.
    let problem = c.args.problem.now in
    let mid = c.close_root-children.new.worker in
    let new = c.close_all.new.worker in
    let rest = subst (λ (cs : List Child). WentOn problem (child_nodes cs) [] mid new) c.deref.ensures.value c.close_all.ensures.went in
    (searched_alone problem c.problem_law.ensures key (child_nodes c.close_root-children.result.items) c.args.worker.now mid new c.requires.closed c.close_root-children.ensures.went rest up).all

pub returns-clause-most : goal.returns-clause-most
returns-clause-most g c = λ key up.
    let problem = c.args.problem.now in
    let mid = c.close_root-children.new.worker in
    let new = c.close_all.new.worker in
    let rest = subst (λ (cs : List Child). WentOn problem (child_nodes cs) [] mid new) c.deref.ensures.value c.close_all.ensures.went in
    (searched_alone problem c.problem_law.ensures key (child_nodes c.close_root-children.result.items) c.args.worker.now mid new c.requires.closed c.close_root-children.ensures.went rest up).most
