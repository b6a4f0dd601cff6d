use Rattle.std.proofs.Common.{rules, ◌≡◌, [], ◌∷◌, List, arith, sym, subst}
use Rattle.std.proofs.lemmas.List.Sums.{sum_by-cons}
use Rattle.ivp_problem.specs.declared.key.Key.{Key}
use Rattle.ivp_pool.specs.declared.work.Work.{Work}
use Rattle.ivp_pool.specs.Parts.{knows_only}
use Rattle.ivp_pool.specs.Solving.{IsSearched, knows_of, total_of}
use Rattle.ivp_pool.proofs.Deciding.{only_best}
use Rattle.ivp_pool.proofs.solved.solve_alone.Goals as goal

pub best_key-key-requires-clause-searched : goal.best_key-key-requires-clause-searched
best_key-key-requires-clause-searched g c = c.search_alone.ensures.most (knows_of c.search_alone.new.worker) (λ key out. out)

pub returns-clause-closed : goal.returns-clause-closed
returns-clause-closed g c =
    let problem = c.args.problem.now in
    let worker = c.search_alone.new.worker in
    let key = c.best_key-key.result in
    let only = only_best worker.scout.me.0.low worker.own.key key c.best_key-key.ensures.later c.best_key-key.ensures.own in
    let all = c.search_alone.ensures.searched (knows_only key) only in
    let works : c.push.new.self ≡ worker.work ∷ [] = search rules in
    let total : worker.work.closed ≡ total_of (worker.work ∷ []) = omega (arith, sum_by-cons (λ (work : Work). work.closed) worker.work []) in
    subst (λ (i : Key × List Work). IsSearched problem (knows_only i.0) (total_of i.1)) (λ t. (c.best_key-key.ensures.best t, sym works t)) (subst (IsSearched problem (knows_only key)) total all)
