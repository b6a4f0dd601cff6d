use Rattle.std.proofs.Common.{ap, ◌∙◌}
use Rattle.ivp_problem.specs.declared.key.Key.{Key}
use Rattle.ivp_pool.proofs.Deciding.{best_at, best_within}
use Rattle.ivp_pool.proofs.solved.best_point.Goals as goal

pub point_at-requires : goal.point_at-requires
point_at-requires c = best_within c.args.problem.now c.domain.result c.index_of_key.result c.domain.ensures (c.index_of_key.ensures ∙ ap (λ (k : Key). k.index) c.requires) c.best_law.ensures

pub returns : goal.returns
returns c = best_at c.args.problem.now c.domain.result c.index_of_key.result c.point_at.result c.domain.ensures (c.index_of_key.ensures ∙ ap (λ (k : Key). k.index) c.requires) c.best_law.ensures c.point_at.ensures.listed
