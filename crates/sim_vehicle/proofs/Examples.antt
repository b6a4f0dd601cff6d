-- Steps and vehicle files worked by hand.
use Rattle.std.proofs.Common.{◌≡◌, [], refl}
use Rattle.std.specs.Prelude.{codes, Ok, Err, pos, neg_ℤ, Some, None}
use Rattle.helm_geo.specs.Angles.{half_sine, sines}
use Rattle.moos_text.specs.declared.cause.Cause.TheVariants.{V1, V2}
use Rattle.moos_text.specs.declared.cause.ReadFault.TheVariants.{At}
use Rattle.sim_vehicle.specs.Motion.{depth_after, hull_after, speed_after, start_hull}
use Rattle.sim_vehicle.specs.Settings.{default_settings}
use Rattle.sim_vehicle.specs.Steering.{drive_of, fresh_rig, heading_error, rig_after, rudder_of}
use Rattle.sim_vehicle.specs.Vehicles.{vehicle_of}

-- The vehicle of an empty file lies at the origin and heads north. East, 2 m/s and a depth of 10 m are wanted.
first_drive : drive_of default_settings fresh_rig (heading_error (Some (pos 90000)) (Some (pos 0))) (Some (pos 2000)) ≡ record { rudder = pos 90000; thrust = pos 100000 }
first_drive = refl

first_step : hull_after default_settings (start_hull default_settings) (Some (pos 90000)) (Some (pos 100000)) (Some (pos 10000)) 250
    ≡ record { x = pos 0; y = pos 62; heading = pos 562; speed = pos 250; depth = pos 125 }
unfolding half_sine sines
first_step = refl

second_step : hull_after default_settings (record { x = pos 0; y = pos 62; heading = pos 562; speed = pos 250; depth = pos 125 }) (Some (pos 89438)) (Some (pos 100000)) (Some (pos 10000)) 250
    ≡ record { x = pos 2; y = pos 186; heading = pos 1679; speed = pos 500; depth = pos 250 }
unfolding half_sine sines
second_step = refl

-- with as much rudder to the left the heading passes north
left_step : hull_after default_settings (start_hull default_settings) (Some (neg_ℤ (pos 90000))) (Some (pos 100000)) None 250
    ≡ record { x = neg_ℤ (pos 1); y = pos 62; heading = pos 359438; speed = pos 250; depth = pos 0 }
unfolding half_sine sines
left_step = refl

-- without a thrust the vehicle slows down, and a wanted depth above the surface is as good as the surface
slower : speed_after default_settings (pos 2000) (pos 0) 250 ≡ pos 1750
slower = refl

at_the_surface : depth_after default_settings (pos 100) (Some (neg_ℤ (pos 5000))) 250 ≡ pos 0
at_the_surface = refl

-- the shorter way round, and half a turn to the right
left_over_north : drive_of default_settings fresh_rig (heading_error (Some (pos 350000)) (Some (pos 10000))) None ≡ record { rudder = neg_ℤ (pos 20000); thrust = pos 0 }
left_over_north = refl

half_round : drive_of default_settings fresh_rig (heading_error (Some (pos 190000)) (Some (pos 10000))) None ≡ record { rudder = pos 100000; thrust = pos 0 }
half_round = refl

-- an unknown heading is no error
heading_unknown : heading_error (Some (pos 90000)) None ≡ pos 0
heading_unknown = refl

-- the integral counts with the error of this step, the change is that since the last one, and -1.5 is rounded to -1
by_integral : rudder_of (record default_settings { yaw_kp = pos 0; yaw_ki = pos 1000 }) (record { integral = pos 5000; last_error = pos 5000 }) (pos 2000) ≡ pos 7000
by_integral = refl

by_change : rudder_of (record default_settings { yaw_kp = pos 0; yaw_kd = pos 1000 }) (record { integral = pos 5000; last_error = pos 5000 }) (pos 2000) ≡ neg_ℤ (pos 3000)
by_change = refl

toward_zero : rudder_of (record default_settings { yaw_kp = pos 1 }) fresh_rig (neg_ℤ (pos 1500)) ≡ neg_ℤ (pos 1)
toward_zero = refl

integral_held : rig_after (record default_settings { integral_limit = pos 10000 }) (record { integral = pos 9000; last_error = pos 9000 }) (pos 2000) ≡ record { integral = pos 10000; last_error = pos 2000 }
integral_held = refl

-- vehicle files
empty : vehicle_of [] ≡ Ok default_settings
empty = refl

last_counts : vehicle_of (codes "max_speed = 1 // slow\n\nMax_Speed=3\r\n") ≡ Ok (record default_settings { max_speed = pos 3000 })
last_counts = refl

digits_dropped : vehicle_of (codes "start_heading = 359.9999") ≡ Ok (record default_settings { start_heading = pos 359999 })
digits_dropped = refl

open_quote : vehicle_of (codes "accel = 1\n\nmax_speed = \"2\n") ≡ Err (At 3 V1)
open_quote = refl

unknown_name : vehicle_of (codes "max_sped = x") ≡ Err (At 1 V1)
unknown_name = refl

no_equals : vehicle_of (codes "max_speed 2") ≡ Err (At 1 V1)
no_equals = refl

out_of_range : vehicle_of (codes "start_heading = 360") ≡ Err (At 1 V2)
out_of_range = refl

still : vehicle_of (codes "max_speed = 0.0009") ≡ Err (At 1 V2)
still = refl
