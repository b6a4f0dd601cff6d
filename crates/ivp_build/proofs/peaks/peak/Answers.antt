use Rattle.std.proofs.Common.{◌≡◌, ℕ, ℤ, Bool, true, false, IfOk, IsTrue, pos, slice_index, to_z, of_z, w64, sym, subst, ap, ◌∙◌}
use Rattle.std.specs.Prelude.{if◌then◌else◌}
use Rattle.ivp_domain.specs.declared.axis.Axis.{Axis}
use Rattle.ivp_domain.specs.declared.boxes.Point.{Point}
use Rattle.ivp_domain.specs.Domains.{is_point}
use Rattle.ivp_func.specs.Pieces.{value_at}
use Rattle.ivp_build.specs.declared.crest.Crest.{Crest}
use Rattle.ivp_build.specs.declared.crest.Crest.TheVariants.{At, Round}
use Rattle.ivp_build.specs.declared.profile.Profile.{Profile}
use Rattle.ivp_build.specs.declared.slopes.Slopes.{Slopes}
use Rattle.ivp_build.specs.Builders.{pieces_along}
use Rattle.ivp_build.specs.declared.shape.Peak.{Peak}
use Rattle.ivp_build.specs.Places.{axis_on, near, wraps}
use Rattle.ivp_build.specs.Shapes.{IsLevelOnTop, IsPeak, peak_profile, peak_slopes, utility_along}
use Rattle.ivp_build.proofs.Nearest.{end_cast}
use Rattle.ivp_build.proofs.Profiles.{along, same_along}
use Rattle.ivp_build.proofs.peaks.peak.Goals as goal

peak_level : (s : Slopes) (b : Bool) (place count : ℕ) → IsLevelOnTop (along s (if b then Round place count else At place)) (if b then Round place count else At place)
peak_level s true place count = tt
peak_level s false place count = tt

peak_is : (axis : Axis) (peak : Peak) (on : Axis) (s : Slopes) (crest : Crest) → IsPeak peak → on ≡ axis → s ≡ peak_slopes on peak
    → crest ≡ (if wraps axis then Round (near axis (to_z w64 (of_z w64 peak.summit))) axis.points else At (near axis (to_z w64 (of_z w64 peak.summit)))) → along s crest ≡ peak_profile axis peak
peak_is axis peak on s crest is e e' e'' =
    same_along s (peak_slopes axis peak) crest _ (e' ∙ ap (λ (a : Axis). peak_slopes a peak) e)
    (e'' ∙ ap (λ (summit : ℤ). if wraps axis then Round (near axis summit) axis.points else At (near axis summit)) (end_cast peak.summit is.summit))

pub func_along-requires-clause-profile : goal.func_along-requires-clause-profile
func_along-requires-clause-profile c =
    record {
      slopes = c.peak_slopes.ensures.sound;
      crest = c.peak_crest.ensures.within;
      level = subst (λ (crest : Crest). IsLevelOnTop (along c.peak_slopes.result crest) crest) (sym c.peak_crest.ensures.crest) (peak_level c.peak_slopes.result _ _ _);
    }

pub returns-clause-pieces : goal.returns-clause-pieces
returns-clause-pieces c =
    let axis = axis_on c.args.domain.now c.args.axis in
    let same = peak_is axis c.args.shape.now c.axis_on.result c.peak_slopes.result c.peak_crest.result c.requires.peak c.axis_on.ensures.axis c.peak_slopes.ensures.slopes c.peak_crest.ensures.crest in
    subst (λ (p : Profile). IfOk c.func_along.result (λ func. func ≡ record { axes = c.args.domain.now; pieces = pieces_along c.args.domain.now c.args.axis p })) same c.func_along.ensures.pieces

pub returns-clause-value : goal.returns-clause-value
returns-clause-value c =
    let axis = axis_on c.args.domain.now c.args.axis in
    let same = peak_is axis c.args.shape.now c.axis_on.result c.peak_slopes.result c.peak_crest.result c.requires.peak c.axis_on.ensures.axis c.peak_slopes.ensures.slopes c.peak_crest.ensures.crest in
    subst
    (λ (q : Profile). IfOk c.func_along.result (λ func. (p : Point) → IsTrue (is_point c.args.domain.now p) → value_at func.pieces p ≡ pos (utility_along q (slice_index p.at c.args.axis))))
    same c.func_along.ensures.value
