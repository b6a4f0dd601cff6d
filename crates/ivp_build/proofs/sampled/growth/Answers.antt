use Rattle.std.proofs.Common.{ℤ, pos, ap, ◌∙◌}
use Rattle.std.specs.Int.{int_max, int_min}
use Rattle.ivp_build.specs.Sampled.{IsRise}
use Rattle.ivp_build.proofs.Casts.{rise_from, rise_kept}
use Rattle.ivp_build.proofs.Sampling.{growth_small}
use Rattle.ivp_build.proofs.sampled.growth.Goals as goal

pub returns-clause-small : goal.returns-clause-small
returns-clause-small c =
    let growth = c.rise-growth.result in
    let small : IsRise growth = (c.rise-growth.ensures.above, c.rise-growth.ensures.below) in
    let both = growth_small growth small in
    let kept = rise_kept growth small in
    (rise_from c.min.result (int_min growth (pos 0)) (c.min.ensures.value ∙ ap (λ (z : ℤ). int_min z (pos 0)) kept) both.0, rise_from c.max.result (int_max growth (pos 0)) (c.max.ensures.value ∙ ap (λ (z : ℤ). int_max z (pos 0)) kept) both.1)
