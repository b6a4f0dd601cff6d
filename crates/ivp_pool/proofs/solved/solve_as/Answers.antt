use Rattle.std.proofs.Common.{◌≡◌, List, [], ◌∷◌, refl, drop, length, map, ap, arith, subst, sym, ◌∙◌}
use Rattle.std.proofs.lemmas.List.Sums.{sum_by-cons}
use Rattle.ivp_pool.specs.declared.work.Work.{Work}
use Rattle.ivp_pool.specs.declared.team.Member.{Member}
use Rattle.ivp_problem.specs.declared.key.Key.{Key}
use Rattle.ivp_pool.specs.Parts.{Incumbent, knows_only}
use Rattle.ivp_pool.specs.Teams.{AreBelow, AreWorkers, closed_in}
use Rattle.ivp_pool.specs.Solving.{IsSearched, total_of}
use Rattle.ivp_pool.proofs.Deciding.{only_best}
use Rattle.ivp_pool.proofs.Lent.{came_back}
use Rattle.ivp_pool.proofs.solved.solve_as.Goals as goal

-- a count of the members is one of their works
counts : {K : Type 0} (members : List (Member K)) → closed_in members ≡ total_of (map (λ member. member.worker.work) members)
counts [] = refl
counts {K} (member ∷ members) = omega (arith, sum_by-cons (λ (m : Member K). m.worker.work.closed) member members, sum_by-cons (λ (work : Work). work.closed) member.worker.work (map (λ (m : Member K). m.worker.work) members), counts members)

pub works_of-requires-clause-team : goal.works_of-requires-clause-team
works_of-requires-clause-team g c =
    let team = c.search.new.members in
    let back = came_back c.in_ok-team.team.len team (drop (length team) c.in_ok-team.team.items) (omega (arith, c.in_ok-search.ensures.len, ap length c.deref_mut.ensures.value, c.in_ok-team.team.ok)) in
    subst (AreWorkers c.args.problem.now c.in_ok-best.best) (sym back) c.in_ok-search.ensures.workers

pub best_key-key-requires-clause-searched : goal.best_key-key-requires-clause-searched
best_key-key-requires-clause-searched g c =
    let team = c.search.new.members in
    let back = came_back c.in_ok-team.team.len team (drop (length team) c.in_ok-team.team.items) (omega (arith, c.in_ok-search.ensures.len, ap length c.deref_mut.ensures.value, c.in_ok-team.team.ok)) in
    c.in_ok-search.ensures.most (record { low = c.works_of.new.scout.me.0.low; own = c.works_of.new.own.key }) (subst (AreBelow (record { low = c.works_of.new.scout.me.0.low; own = c.works_of.new.own.key })) back c.in_ok-work.ensures.later)

pub returns-clause-closed : goal.returns-clause-closed
returns-clause-closed g c =
    let problem = c.args.problem.now in
    let team = c.search.new.members in
    let back = came_back c.in_ok-team.team.len team (drop (length team) c.in_ok-team.team.items) (omega (arith, c.in_ok-search.ensures.len, ap length c.deref_mut.ensures.value, c.in_ok-team.team.ok)) in
    let knows : Incumbent = record { low = c.works_of.new.scout.me.0.low; own = c.works_of.new.own.key } in
    let known = subst (AreBelow knows) back c.in_ok-work.ensures.later in
    let only = only_best c.works_of.new.scout.me.0.low c.works_of.new.own.key c.best_key-key.result c.best_key-key.ensures.later c.best_key-key.ensures.own in
    let all = c.in_ok-search.ensures.searched (knows_only c.best_key-key.result) (λ k d within. λ key out. only key (known k d within key out)) in
    let works = c.in_ok-work.ensures.works ∙ ap (map (λ (member : Member g.row.K.Denot). member.worker.work)) back in
    subst (λ (i : Key × List Work). IsSearched problem (knows_only i.0) (total_of i.1)) (λ t. (c.best_key-key.ensures.best t, sym works t)) (subst (IsSearched problem (knows_only c.best_key-key.result)) (counts team) all)
