use Rattle.std.proofs.Common.{◌≡◌, ℕ, true, false, sym, ap, ◌∙◌}
use Rattle.ivp_domain.specs.declared.axis.Axis.{Axis}
use Rattle.ivp_build.specs.declared.crest.Crest.TheVariants.{Round}
use Rattle.ivp_build.specs.declared.crest.Crest.TheVariants.{At, Round}
use Rattle.ivp_build.specs.Places.{axis_on, near, wraps}
use Rattle.std.specs.Prelude.{if◌then◌else◌}
use Rattle.ivp_build.proofs.Nearest.{end_cast}
use Rattle.ivp_build.proofs.peaks.peak_crest.Goals as goal

round : (axis : Axis) (place points near : ℕ) → wraps axis ≡ true → place ≡ near → points ≡ axis.points → Round place points ≡ (if wraps axis then Round near axis.points else At near)
round axis place points near h e e' = rw h (ap (λ n. Round n points) e ∙ ap (λ n. Round near n) e')

straight : (axis : Axis) (place near : ℕ) → wraps axis ≡ false → place ≡ near → At place ≡ (if wraps axis then Round near axis.points else At near)
straight axis place near h e = rw h (ap (λ n. At n) e)

pub returns-then-wraps-clause-crest : goal.returns-then-wraps-clause-crest
returns-then-wraps-clause-crest c =
    let axis = axis_on c.args.domain.now c.args.axis in
    let along = c.axis_on-along.ensures.axis in
    let place = c.near-place.ensures.place ∙ ap (near axis) (end_cast c.args.summit c.requires.summit) in
    let wrapped = sym (c.wraps.ensures ∙ ap wraps along) ∙ c.if-wraps.true in
    round axis c.near-place.result c.axis_on-along.result.points (near axis c.args.summit) wrapped place (ap (λ (a : Axis). a.points) along)

pub returns-else-wraps-clause-crest : goal.returns-else-wraps-clause-crest
returns-else-wraps-clause-crest c =
    let axis = axis_on c.args.domain.now c.args.axis in
    let along = c.axis_on-along.ensures.axis in
    let place = c.near-place.ensures.place ∙ ap (near axis) (end_cast c.args.summit c.requires.summit) in
    let plain = sym (c.wraps.ensures ∙ ap wraps along) ∙ c.if-wraps.false in
    straight axis c.near-place.result (near axis c.args.summit) plain place
