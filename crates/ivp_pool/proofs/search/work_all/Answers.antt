use Rattle.std.proofs.Common.{rules, ℕ, ◌<◌, get_or, length}
use Rattle.ivp_pool.specs.declared.team.Member.{Member}
use Rattle.ivp_pool.specs.Members.{Did}
use Rattle.ivp_pool.proofs.Whole.{all_beside, shapes_beside}
use Rattle.ivp_pool.proofs.search.work_all.Goals as goal

pub returns-clause-did : goal.returns-clause-did
returns-clause-did g c =
    let old = c.args.members.now in
    let new = c.for_each_mut.new.s in
    let did : (i : ℕ) (d : Member g.row.K.Denot) → i < length old → Did c.args.problem.now (get_or old i d) (get_or new i d) = search rules in
    all_beside c.args.problem.now c.args.best.now old new c.for_each_mut.auto.s c.requires.workers did

pub returns-clause-same : goal.returns-clause-same
returns-clause-same g c =
    let old = c.args.members.now in
    let new = c.for_each_mut.new.s in
    let did : (i : ℕ) (d : Member g.row.K.Denot) → i < length old → Did c.args.problem.now (get_or old i d) (get_or new i d) = search rules in
    shapes_beside c.args.problem.now c.args.best.now old new c.for_each_mut.auto.s did
