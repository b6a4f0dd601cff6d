-- A domain that serves a behaviour serves it after updates over that domain.
use Rattle.std.proofs.Common.{◌≡◌, ℕ, Bool, true, false, if◌then◌else◌, List, [], ◌∷◌, fold, Option, Some, None, refl, ap, sym, subst, ◌∙◌}
use Rattle.std.specs.Prelude.{IsTrue, bytes_eq, unwrap_or}
use Rattle.std.specs.List.{list_all}
use Rattle.std.specs.Option.{option_eq}
use Rattle.std.proofs.lemmas.Bool.{and_from, and_parts}
use Rattle.moos_post.specs.declared.value.Pair.{Pair}
use Rattle.moos_post.specs.declared.value.Value.{Value}
use Rattle.moos_post.specs.declared.value.Value.TheVariants.{Num, Text}
use Rattle.ivp_domain.specs.declared.axis.Axis.{Axis}
use Rattle.helm_cond.specs.Learnt.{Knowledge}
use Rattle.bhv_file.specs.declared.spec.Spec.{Spec}
use Rattle.bhv_file.specs.Params.{has_axes, has_axis}
use Rattle.bhv_file.specs.Serving.{suits}
use Rattle.bhv_file.specs.Updates.{updated}
use Rattle.bhv_file.proofs.Pairwise.{updated_axes, updated_suits}
use Rattle.bhv_kinds.specs.Changes.{KindChange, Updated, params_at}
use Rattle.bhv_life.specs.declared.outcome.Phase.{Phase}
use Rattle.bhv_life.specs.declared.outcome.Phase.TheVariants.{Idle, Run, TimedOut, Completed}
use Rattle.helm_core.specs.declared.doer.Doer.{Doer}
use Rattle.helm_core.specs.declared.doer.Doer.TheVariants.{Kind, Avoid}
use Rattle.helm_core.specs.Behaviors.{Judged, heard_with, judged_in, judged_with, none_judged}
use Rattle.helm_core.specs.Doers.{IsDoerOf, params_of, serves_doer, serves_spec}
use Rattle.helm_core.specs.Standings.{changes_in}
use Rattle.helm_core.specs.Templates.{with_said}

-- the domain serves the parameters after these changes
abbrev pub ServesAt : List Axis → Spec → List KindChange → Type 0
ServesAt axes spec changes = IsTrue (serves_spec axes (params_at spec changes))

-- an update
after_update : (axes : List Axis) (spec : Spec) (text : List ℕ) (after : Option Spec) → updated axes spec text ≡ after → IsTrue (serves_spec axes spec) → IsTrue (serves_spec axes (unwrap_or after spec))
after_update axes spec text None is serves = serves
after_update axes spec text (Some after) is serves =
    let both = and_parts (has_axes axes spec.shape) (suits axes spec.shape) serves in
    and_from (has_axes axes after.shape) (suits axes after.shape) (ap (λ names. list_all (has_axis axes) names) (updated_axes axes spec after text is) ∙ both.0)
    (updated_suits axes spec after text is both.1)

pub serves_updated : (axes : List Axis) (spec : Spec) (changes : List KindChange) (text : List ℕ) → ServesAt axes spec changes → ServesAt axes spec (Updated axes text ∷ changes)
serves_updated axes spec changes text serves = after_update axes (params_at spec changes) text (updated axes (params_at spec changes) text) refl serves

-- the pairs of a letter
pub serves_said : (axes : List Axis) (spec : Spec) (changes : List KindChange) (pairs : Option (List ℕ)) → ServesAt axes spec changes → ServesAt axes spec (with_said axes changes pairs)
serves_said axes spec changes None serves = serves
serves_said axes spec changes (Some pairs) serves = serves_updated axes spec changes pairs serves

-- the updates of an iteration
with_value : (axes : List Axis) (spec : Spec) (so_far : Judged) (value : Value) → ServesAt axes spec so_far.changes → ServesAt axes spec (judged_with axes spec so_far value).changes
with_value axes spec so_far (Num number) serves = serves
with_value axes spec so_far (Text text) serves = serves_updated axes spec so_far.changes text serves

with_letter : (axes : List Axis) (updates : Option (List ℕ)) (spec : Spec) (so_far : Judged) (letter : Pair) → ServesAt axes spec so_far.changes → ServesAt axes spec (heard_with axes updates spec so_far letter).changes
with_letter axes updates spec so_far letter serves = by (option_eq bytes_eq updates (Some letter.var))
  where
    by : (b : Bool) → ServesAt axes spec (if b then judged_with axes spec so_far letter.value else so_far).changes
    by true = with_value axes spec so_far letter.value serves
    by false = serves

with_letters : (axes : List Axis) (updates : Option (List ℕ)) (spec : Spec) (so_far : Judged) (letters : List Pair) → ServesAt axes spec so_far.changes → ServesAt axes spec (fold (heard_with axes updates spec) so_far letters).changes
with_letters axes updates spec so_far [] serves = serves
with_letters axes updates spec so_far (letter ∷ letters) serves =
    with_letters axes updates spec (heard_with axes updates spec so_far letter) letters (with_letter axes updates spec so_far letter serves)

pub serves_judged : (axes : List Axis) (updates : Option (List ℕ)) (spec : Spec) (changes : List KindChange) (letters : List Pair) → ServesAt axes spec changes → ServesAt axes spec (judged_in axes updates spec changes letters).changes
serves_judged axes updates spec changes letters serves = with_letters axes updates spec (none_judged changes) letters serves

-- a step
pub serves_stepped : (axes : List Axis) (phase : Phase) (known : Knowledge) (stamp : ℕ) (spec : Spec) (changes : List KindChange) → ServesAt axes spec changes → ServesAt axes spec (changes_in phase axes known stamp changes)
serves_stepped axes Idle known stamp spec changes serves = serves
serves_stepped axes (Run fresh) known stamp spec changes serves = serves
serves_stepped axes TimedOut known stamp spec changes serves = serves
serves_stepped axes Completed known stamp spec changes serves = serves

-- it has the parameters that the updates left
pub params_same : (spec : Spec) (changes : List KindChange) (doer : Doer) → IsDoerOf spec changes doer → params_of doer ≡ params_at spec changes
params_same spec changes (Kind kind) is = is.params
params_same spec changes (Avoid params) is = is.params

-- so the domain serves it where it serves these, and the other way about
pub doer_served : (axes : List Axis) (spec : Spec) (changes : List KindChange) (doer : Doer) → IsDoerOf spec changes doer → ServesAt axes spec changes → IsTrue (serves_doer axes doer)
doer_served axes spec changes doer is serves = subst (λ params. IsTrue (serves_spec axes params)) (sym (params_same spec changes doer is)) serves

pub serves_at : (axes : List Axis) (spec : Spec) (changes : List KindChange) (doer : Doer) → IsDoerOf spec changes doer → IsTrue (serves_doer axes doer) → ServesAt axes spec changes
serves_at axes spec changes doer is served = subst (λ params. IsTrue (serves_spec axes params)) (params_same spec changes doer is) served
