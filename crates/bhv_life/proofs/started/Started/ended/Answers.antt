use Rattle.std.proofs.Common.{refl, sym, ◌∙◌}
use Rattle.bhv_life.proofs.Turning.{keeps_ended}
use Rattle.bhv_life.proofs.started.Started.ended.Goals as goal

pub returns : goal.returns
returns c = λ past one ended now stepped. keeps_ended past one _ ended now (stepped ∙ sym c.steps_in.ensures) refl refl refl refl
