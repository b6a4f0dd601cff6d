use Rattle.std.proofs.Common.{◌≡◌, ℕ, ℤ, true, IfOk, IsTrue, pos, nat_abs, slice_index, to_z, of_z, w64, subst, ap, ◌∙◌}
use Rattle.ivp_domain.specs.declared.axis.Axis.{Axis}
use Rattle.ivp_domain.specs.declared.boxes.Point.{Point}
use Rattle.ivp_domain.specs.Axes.{is_end}
use Rattle.ivp_domain.specs.Domains.{is_point}
use Rattle.ivp_func.specs.Pieces.{is_value, value_at}
use Rattle.ivp_build.specs.declared.crest.Crest.TheVariants.{UpTo}
use Rattle.ivp_build.specs.declared.profile.Profile.{Profile}
use Rattle.ivp_build.specs.declared.slopes.Slopes.{Slopes}
use Rattle.ivp_build.specs.Builders.{pieces_along}
use Rattle.ivp_build.specs.Places.{IsWidth, axis_on, last_up_to}
use Rattle.ivp_build.specs.Shapes.{at_most_profile, limit_slopes, utility_along}
use Rattle.ivp_build.proofs.GoodAxes.{end_number, number_kept}
use Rattle.ivp_build.proofs.Profiles.{along, same_along}
use Rattle.ivp_build.proofs.Widths.{value_width, width_kept}
use Rattle.ivp_build.proofs.limits.at_most.Goals as goal

limit_is : (axis on : Axis) (limit basewidth max : ℤ) (s : Slopes) (place : ℕ) → is_end limit ≡ true → IsWidth basewidth → is_value max ≡ true → on ≡ axis
    → s ≡ limit_slopes on (nat_abs (to_z w64 (of_z w64 basewidth))) (nat_abs (to_z w64 (of_z w64 max))) → place ≡ last_up_to on (to_z w64 (of_z w64 limit))
    → along s (UpTo place) ≡ at_most_profile axis limit (nat_abs basewidth) (nat_abs max)
limit_is axis on limit basewidth max s place l w m e e' e'' =
    let slopes = e' ∙ ap (λ (b : ℤ). limit_slopes on (nat_abs b) (nat_abs (to_z w64 (of_z w64 max)))) (width_kept basewidth w) ∙ ap (λ (m : ℤ). limit_slopes on (nat_abs basewidth) (nat_abs m)) (width_kept max (value_width max m))
    ∙ ap (λ (a : Axis). limit_slopes a (nat_abs basewidth) (nat_abs max)) e in
    let crest = e'' ∙ ap (last_up_to on) (number_kept limit (end_number limit l)) ∙ ap (λ (a : Axis). last_up_to a limit) e in
    same_along s _ (UpTo place) _ slopes (ap (λ n. UpTo n) crest)

pub returns-clause-pieces : goal.returns-clause-pieces
returns-clause-pieces c =
    let same = limit_is (axis_on c.args.domain.now c.args.axis) c.axis_on-along.result c.args.limit c.args.basewidth c.args.max c.limit_slopes.result c.last_up_to.result c.requires.limit c.requires.basewidth c.requires.max c.axis_on-along.ensures.axis c.limit_slopes.ensures.slopes c.last_up_to.ensures.last in
    subst (λ (p : Profile). IfOk c.func_along.result (λ func. func ≡ record { axes = c.args.domain.now; pieces = pieces_along c.args.domain.now c.args.axis p })) same c.func_along.ensures.pieces

pub returns-clause-value : goal.returns-clause-value
returns-clause-value c =
    let same = limit_is (axis_on c.args.domain.now c.args.axis) c.axis_on-along.result c.args.limit c.args.basewidth c.args.max c.limit_slopes.result c.last_up_to.result c.requires.limit c.requires.basewidth c.requires.max c.axis_on-along.ensures.axis c.limit_slopes.ensures.slopes c.last_up_to.ensures.last in
    subst
    (λ (q : Profile). IfOk c.func_along.result (λ func. (p : Point) → IsTrue (is_point c.args.domain.now p) → value_at func.pieces p ≡ pos (utility_along q (slice_index p.at c.args.axis))))
    same c.func_along.ensures.value
