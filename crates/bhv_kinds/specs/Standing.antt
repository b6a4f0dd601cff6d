-- How a kind stands for the list of a behaviour's updates and steps: each of its fields is what they came to.
use Rattle.std.specs.Prelude.{◌≡◌, ℕ, ◌^◌, Bool, List, min}
use Rattle.bhv_file.specs.declared.spec.Spec.{Spec}
use Rattle.ivp_domain.specs.declared.axis.Axis.{Axis}
use Rattle.bhv_file.specs.Params.{axes_of, has_axes}
use Rattle.bhv_kinds.specs.Kinds.{IsSoundKind, KindNow}
use Rattle.bhv_kinds.specs.Stations.{centre_at}
use Rattle.bhv_kinds.specs.Targets.{headway_at, is_reversed, last_position, vertex_at}
use Rattle.bhv_kinds.specs.Changes.{KindChange, first_step, params_at, params_at_step}

-- The kind stands for these updates and steps, the latest first, of a behaviour with these parameters in its file. Its
-- type needs the same axes ever since. Repeats are counted up to the most that a limit can be.
pub record IsKindOf (spec : Spec) (changes : List KindChange) (kind : KindNow) : Type 0 where
  pub sound : IsSoundKind kind
  pub axes : axes_of kind.params.shape ≡ axes_of spec.shape
  pub params : kind.params ≡ params_at spec changes
  pub captured : kind.captured ≡ (headway_at spec changes).captured
  pub again : kind.again ≡ min (headway_at spec changes).again (10 ^ 6)
  pub reversed : kind.reversed ≡ is_reversed (params_at_step spec changes).shape
  pub vertex : kind.vertex ≡ vertex_at spec changes
  pub centre : kind.centre ≡ centre_at changes
  pub last : kind.last ≡ last_position spec changes
  pub first : kind.first ≡ first_step changes

-- the names of the axes that the kind's functions mention, which no update and no step changes
abbrev pub axes_needed : KindNow → List (List ℕ)
axes_needed kind = axes_of kind.params.shape

-- the domain has those axes
abbrev pub fits_domain : List Axis → KindNow → Bool
fits_domain axes kind = has_axes axes kind.params.shape
