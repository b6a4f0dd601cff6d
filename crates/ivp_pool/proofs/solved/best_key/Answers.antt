use Rattle.std.proofs.Common.{◌≡◌, is_some, Some, sym, ap, ◌∙◌, arith}
use Rattle.ivp_problem.specs.Sums.{best_of, key_at}
use Rattle.ivp_pool.proofs.Deciding.{best_own, known_most}
use Rattle.ivp_pool.proofs.solved.best_key.Goals as goal

pub unwrap-requires : goal.unwrap-requires
unwrap-requires c =
    let problem = c.args.problem.now in
    let most = known_most problem c.known.result (best_of problem) (c.known.ensures.known problem c.requires.problem) c.keys_law.ensures.best in
    ap is_some (best_own problem c.args.scout.now.me.0.low c.args.own (best_of problem) c.requires.owned (omega (arith, most, c.known.ensures.later)) (c.requires.searched (best_of problem) c.keys_law.ensures.point) c.keys_law.ensures.best)

pub returns-clause-best : goal.returns-clause-best
returns-clause-best c =
    let problem = c.args.problem.now in
    let most = known_most problem c.known.result (best_of problem) (c.known.ensures.known problem c.requires.problem) c.keys_law.ensures.best in
    let found = best_own problem c.args.scout.now.me.0.low c.args.own (best_of problem) c.requires.owned (omega (arith, most, c.known.ensures.later)) (c.requires.searched (best_of problem) c.keys_law.ensures.point) c.keys_law.ensures.best in
    let both : Some c.unwrap.result ≡ Some (key_at problem (best_of problem)) = sym c.unwrap.ensures ∙ found in
    cc

pub returns-clause-own : goal.returns-clause-own
returns-clause-own c = c.unwrap.ensures

pub returns-clause-later : goal.returns-clause-later
returns-clause-later c =
    let problem = c.args.problem.now in
    let most = known_most problem c.known.result (best_of problem) (c.known.ensures.known problem c.requires.problem) c.keys_law.ensures.best in
    rw (returns-clause-best c) (omega (arith, most, c.known.ensures.later))
