-- The changes of a behaviour, the latest first: its steps, and the updates between them.
use Rattle.std.specs.Prelude.{ℕ, Bool, List, [], ◌∷◌, Option, Some, None, unwrap_or}
use Rattle.std.specs.Option.{option_or}
use Rattle.ivp_domain.specs.declared.axis.Axis.{Axis}
use Rattle.helm_cond.specs.Learnt.{Knowledge}
use Rattle.bhv_file.specs.declared.spec.Spec.{Spec}
use Rattle.bhv_file.specs.Updates.{updated}

-- a step: the domain, what is known, the stamp, and whether the behaviour wasn't stepped in the iteration before
pub record KindStep : Type 0 where
  pub axes : List Axis
  pub known : Knowledge
  pub stamp : ℕ
  pub fresh : Bool

-- a step over a domain
abbrev pub step_of : List Axis → Knowledge → ℕ → Bool → KindStep
step_of axes known stamp fresh = record { axes = axes; known = known; stamp = stamp; fresh = fresh }

-- an update over a domain by its text, or a step
pub data KindChange : Type 0 where
  Updated : List Axis → List ℕ → KindChange
  Stepped : KindStep → KindChange

-- The parameters after these changes: those of the file, with each update that is good as a whole.
abbrev pub params_at : Spec → List KindChange → Spec
params_at spec [] = spec
params_at spec (Updated axes text ∷ past) = unwrap_or (updated axes (params_at spec past) text) (params_at spec past)
params_at spec (Stepped step ∷ past) = params_at spec past

-- the parameters at the last step
abbrev pub params_at_step : Spec → List KindChange → Spec
params_at_step spec [] = spec
params_at_step spec (Updated axes text ∷ past) = params_at_step spec past
params_at_step spec (Stepped step ∷ past) = params_at spec past

-- the stamp of the first step of all
abbrev pub first_step : List KindChange → Option ℕ
first_step [] = None
first_step (Updated axes text ∷ past) = first_step past
first_step (Stepped step ∷ past) = option_or (first_step past) (Some step.stamp)
