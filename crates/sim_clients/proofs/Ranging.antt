-- The vehicle is in its ranges after each turn.
use Rattle.std.proofs.Common.{ℕ, zero, suc, List, take}
use Rattle.std.specs.Prelude.{codes}
use Rattle.moos_post.specs.declared.value.Pair.{Pair}
use Rattle.sim_vehicle.proofs.Ranges.{start_within, step_within}
use Rattle.sim_vehicle.specs.declared.settings.CraftSettings.{CraftSettings}
use Rattle.sim_vehicle.specs.Motion.{IsHull}
use Rattle.sim_vehicle.specs.Settings.{AreAllowed}
use Rattle.sim_clients.specs.Clients.{hull_after_turns, number_by}

pub turns_within : (craft : CraftSettings) → AreAllowed craft → (period : ℕ) (mails : List (List Pair)) (i : ℕ) → IsHull craft (hull_after_turns craft period mails i)
turns_within craft allowed period mails zero = start_within craft allowed
turns_within craft allowed period mails (suc i) =
    step_within craft allowed (hull_after_turns craft period mails i) (turns_within craft allowed period mails i) (number_by (take (suc i) mails) (codes "DESIRED_RUDDER"))
    (number_by (take (suc i) mails) (codes "DESIRED_THRUST")) (number_by (take (suc i) mails) (codes "DESIRED_DEPTH")) period
