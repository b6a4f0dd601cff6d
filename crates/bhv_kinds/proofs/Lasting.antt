-- The parameters after any updates and steps are valid where those of the file are, and the type needs the same axes.
use Rattle.std.proofs.Common.{◌≡◌, ◌≤◌, ◌^◌, ℕ, Bool, true, false, cond, Option, Some, None, List, [], ◌∷◌, refl, sym, ◌∙◌, subst}
use Rattle.std.specs.Prelude.{fold, IfSome, option_map, option_and_then, unwrap_or}
use Rattle.ivp_domain.specs.declared.axis.Axis.{Axis}
use Rattle.moos_text.specs.Pairs.{Sides, sides_of}
use Rattle.bhv_file.specs.declared.spec.Shape.{Shape}
use Rattle.bhv_file.specs.declared.spec.Spec.{Spec}
use Rattle.bhv_file.specs.declared.table.Parameter.{Parameter}
use Rattle.bhv_file.specs.declared.table.CommonParameter.TheVariants.{Weight}
use Rattle.bhv_file.specs.Params.{axes_of, with_param, with_value_of}
use Rattle.bhv_file.specs.Ranges.{InRanges, KeepsRanges}
use Rattle.bhv_file.specs.Table.{is_called_common, parameter_of}
use Rattle.bhv_file.specs.Validity.{IsValidSpec}
use Rattle.bhv_file.specs.Values.{weight_of}
use Rattle.bhv_file.proofs.Ranged.{own_kept, weight_within}
use Rattle.bhv_kinds.specs.Changes.{KindChange, Stepped, Updated, params_at}
use Rattle.bhv_file.specs.Updates.{update_parts, updated, with_update_part}
use Rattle.bhv_file.proofs.Pairwise.{good_valid, none_after, updated_axes, updated_good}

-- a parameter more keeps the ranges
param_ranges : (spec : Spec) (name value : List ℕ) → KeepsRanges spec → IfSome (with_param spec name value) KeepsRanges
param_ranges spec name value is = by (is_called_common name Weight) (weight_of value) (weight_within value) (parameter_of spec.shape name) (own_kept true spec.shape name value is.parameters)
  where
    set : (shape : Option Shape) → IfSome shape (InRanges true) → IfSome (option_map (λ shape. record spec { shape = shape }) shape) KeepsRanges
    set None h = tt
    set (Some shape) h = record { weight = is.weight; parameters = h }

    by : (b : Bool) (weight : Option ℕ) → IfSome weight (λ w. w ≤ 10 ^ 7) → (parameter : Option Parameter) → IfSome parameter (λ p. IfSome (with_value_of spec.shape p value) (InRanges true))
        → IfSome (cond b (option_map (λ weight. record spec { weight = weight }) weight) (option_map (λ shape. record spec { shape = shape }) (option_and_then (λ parameter. with_value_of spec.shape parameter value) parameter))) KeepsRanges
    by true None few parameter h = tt
    by true (Some weight) few parameter h = record { weight = few; parameters = is.parameters }
    by false weight few None h = tt
    by false weight few (Some parameter) h = set (with_value_of spec.shape parameter value) h

-- so does a pair of an update
pair_ranges : (spec : Spec) (part : List ℕ) → KeepsRanges spec → IfSome (with_update_part (Some spec) part) KeepsRanges
pair_ranges spec part is = by (sides_of part)
  where
    by : (sides : Option Sides) → IfSome (option_and_then (λ (sides : Sides). with_param spec sides.name sides.value) sides) KeepsRanges
    by None = tt
    by (Some sides) = param_ranges spec sides.name sides.value is

-- and so do all its pairs
pairs_ranges : (spec after : Spec) (parts : List (List ℕ)) → KeepsRanges spec → fold with_update_part (Some spec) parts ≡ Some after → KeepsRanges after
pairs_ranges spec after [] is e = subst (λ (o : Option Spec). IfSome o KeepsRanges) e is
pairs_ranges spec after (part ∷ parts) is e = by (with_update_part (Some spec) part) (pair_ranges spec part is) e (λ s h k. pairs_ranges s after parts h k)
  where
    by : (o : Option Spec) → IfSome o KeepsRanges → fold with_update_part o parts ≡ Some after → ((s : Spec) → KeepsRanges s → fold with_update_part (Some s) parts ≡ Some after → KeepsRanges after) → KeepsRanges after
    by None h k rest =
        let none : None ≡ Some after = sym (none_after parts) ∙ k in
        absurd cc
    by (Some s) h k rest = rest s h k

-- an update that is good leaves valid parameters
pub updated_valid : (axes : List Axis) (spec after : Spec) (text : List ℕ) → KeepsRanges spec → updated axes spec text ≡ Some after → IsValidSpec after
updated_valid axes spec after text is e =
    let good = updated_good axes spec after text e in
    good_valid axes after (pairs_ranges spec after (update_parts text) is good.0) good.1

-- so the parameters stay valid
pub params_valid : (spec : Spec) (changes : List KindChange) → IsValidSpec spec → IsValidSpec (params_at spec changes)
params_valid spec [] valid = valid
params_valid spec (Stepped step ∷ past) valid = params_valid spec past valid
params_valid spec (Updated axes text ∷ past) valid = by (updated axes (params_at spec past) text) refl (params_valid spec past valid)
  where
    by : (o : Option Spec) → updated axes (params_at spec past) text ≡ o → IsValidSpec (params_at spec past) → IsValidSpec (unwrap_or o (params_at spec past))
    by None e before = before
    by (Some after) e before = updated_valid axes (params_at spec past) after text before.ranges e

-- and the type needs the same axes
pub params_axes : (spec : Spec) (changes : List KindChange) → axes_of (params_at spec changes).shape ≡ axes_of spec.shape
params_axes spec [] = refl
params_axes spec (Stepped step ∷ past) = params_axes spec past
params_axes spec (Updated axes text ∷ past) = by (updated axes (params_at spec past) text) refl (params_axes spec past)
  where
    by : (o : Option Spec) → updated axes (params_at spec past) text ≡ o → axes_of (params_at spec past).shape ≡ axes_of spec.shape → axes_of (unwrap_or o (params_at spec past)).shape ≡ axes_of spec.shape
    by None e before = before
    by (Some after) e before = updated_axes axes (params_at spec past) after text e ∙ before
