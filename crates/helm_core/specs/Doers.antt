-- What a behaviour of the list runs: a behaviour of one of nine types, or one that keeps clear of a contact. How it stands for the
-- list of the behaviour's updates and steps.
use Rattle.std.specs.Prelude.{◌≡◌, Bool, true, ◌&&◌, List}
use Rattle.ivp_domain.specs.declared.axis.Axis.{Axis}
use Rattle.bhv_file.specs.declared.spec.Spec.{Spec}
use Rattle.bhv_file.specs.Params.{has_axes, is_avoid}
use Rattle.bhv_file.specs.Serving.{suits}
use Rattle.bhv_kinds.specs.Standing.{IsKindOf}
use Rattle.bhv_kinds.specs.Changes.{KindChange, params_at}
use Rattle.helm_core.specs.declared.doer.Doer.{Doer}
use Rattle.helm_core.specs.declared.doer.Doer.TheVariants.{Kind, Avoid}

-- the parameters that it has
abbrev pub params_of : Doer → Spec
params_of (Kind kind) = kind.params
params_of (Avoid params) = params

-- a behaviour that keeps clear of a contact keeps nothing but the parameters that the updates left
pub record IsAvoidOf (spec : Spec) (changes : List KindChange) (now : Spec) : Type 0 where
  pub params : now ≡ params_at spec changes
  pub avoids : is_avoid now.shape ≡ true

-- A doer stands for these updates and steps, the latest first, of a behaviour with these parameters in its file.
abbrev pub IsDoerOf : Spec → List KindChange → Doer → Type 0
IsDoerOf spec changes (Kind kind) = IsKindOf spec changes kind
IsDoerOf spec changes (Avoid params) = IsAvoidOf spec changes params

-- the domain serves a behaviour with these parameters: it has the axes that they need, and suits them
abbrev pub serves_spec : List Axis → Spec → Bool
serves_spec axes spec = has_axes axes spec.shape && suits axes spec.shape

-- the domain serves it, so that it can be stepped
abbrev pub serves_doer : List Axis → Doer → Bool
serves_doer axes doer = serves_spec axes (params_of doer)
