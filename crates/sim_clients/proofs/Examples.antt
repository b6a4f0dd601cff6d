-- Turns worked by hand.
use Rattle.std.proofs.Common.{◌≡◌, List, [], ◌∷◌, refl}
use Rattle.std.specs.Prelude.{codes, pos, None}
use Rattle.helm_geo.specs.Angles.{half_sine, sines}
use Rattle.moos_post.specs.declared.value.Pair.{Pair}
use Rattle.moos_post.specs.declared.value.Value.TheVariants.{Text}
use Rattle.sim_vehicle.specs.Settings.{default_settings}
use Rattle.sim_clients.specs.Clients.{drive_by, hull_by, number_by, pair_numbered}

-- east is wanted at 2 m/s, and the vehicle heads north
abbrev wanted : List Pair
wanted = pair_numbered (codes "DESIRED_HEADING") (pos 90000) ∷ pair_numbered (codes "DESIRED_SPEED") (pos 2000) ∷ pair_numbered (codes "NAV_HEADING") (pos 0) ∷ []

first_drive : drive_by default_settings (wanted ∷ []) ≡ record { rudder = pos 90000; thrust = pos 100000 }
first_drive = refl

-- what was mailed at an earlier turn is known still, and the latest number counts
second_drive : drive_by default_settings (wanted ∷ (pair_numbered (codes "NAV_HEADING") (pos 562) ∷ []) ∷ []) ≡ record { rudder = pos 89438; thrust = pos 100000 }
second_drive = refl

-- a text in a number's place makes it unknown
text_is_unknown : number_by ((pair_numbered (codes "NAV_HEADING") (pos 0) ∷ record { var = codes "NAV_HEADING"; value = Text (codes "north") } ∷ []) ∷ []) (codes "NAV_HEADING") ≡ None
text_is_unknown = refl

-- before its first turn the vehicle lies still at its start
at_start : hull_by default_settings 250 [] ≡ record { x = pos 0; y = pos 0; heading = pos 0; speed = pos 0; depth = pos 0 }
at_start = refl

first_step : hull_by default_settings 250 ((pair_numbered (codes "DESIRED_RUDDER") (pos 90000) ∷ pair_numbered (codes "DESIRED_THRUST") (pos 100000) ∷ pair_numbered (codes "DESIRED_DEPTH") (pos 10000) ∷ []) ∷ [])
    ≡ record { x = pos 0; y = pos 62; heading = pos 562; speed = pos 250; depth = pos 125 }
unfolding half_sine sines
first_step = refl
