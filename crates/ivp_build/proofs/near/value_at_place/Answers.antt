use Rattle.std.proofs.Common.{◌≡◌, ℕ, ◌<◌, ℤ, List, Option, length, FitsSigned, IfSome, w64, rules, ap, subst, sym, ◌∙◌}
use Rattle.std.proofs.lemmas.Int.{to_z-of_z}
use Rattle.std.proofs.lemmas.Option.{slice_get-get_or}
use Rattle.std.specs.Prelude.{slice_get, unwrap_or}
use Rattle.ivp_domain.specs.declared.axis.Axis.{Axis}
use Rattle.ivp_domain.specs.Axes.{no_axis, value_on}
use Rattle.ivp_build.specs.Places.{axis_on}
use Rattle.ivp_build.proofs.near.value_at_place.Goals as goal

-- the number at a place of the axis of this number
at_axis : (axes : List Axis) (axis place : ℕ) (value : ℤ) → axis < length axes → IfSome (slice_get axes axis) (λ one. value ≡ value_on one place) → value ≡ value_on (axis_on axes axis) place
at_axis axes axis place value listed h =
    let there = slice_get-get_or axes axis no_axis listed in
    subst (λ (o : Option Axis). IfSome o (λ one. value ≡ value_on one place)) there h ∙ ap (λ (o : Option Axis). value_on (unwrap_or o no_axis) place) (sym there)

pub returns : goal.returns
returns c =
    let fits : FitsSigned w64 c.value.result = search rules in
    to_z-of_z w64 c.value.result fits ∙ at_axis c.args.domain.now c.args.axis c.args.place c.value.result c.requires.axis c.value.ensures
