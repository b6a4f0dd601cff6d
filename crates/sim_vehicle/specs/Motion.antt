-- The vehicle: how it moves in one time step. All numbers are thousandths, the step takes dt milliseconds, and division is
-- toward zero.
use Rattle.std.specs.Prelude.{ℕ, ℤ, pos, neg_ℤ, ◌+ℤ◌, ◌-ℤ◌, ◌*ℤ◌, ◌^◌, ◌/◌, int_div, nat_abs, Option, Some, None, unwrap_or}
use Rattle.std.specs.Int.{int_rem_euclid}
use Rattle.helm_geo.specs.Angles.{cos4, sin4}
use Rattle.sim_vehicle.specs.declared.hull.Hull.{Hull}
use Rattle.sim_vehicle.specs.Steering.{clamped, limited, Lies}
use Rattle.sim_vehicle.specs.declared.settings.CraftSettings.{CraftSettings}

-- at the start the vehicle lies still where its file says
abbrev pub start_hull : CraftSettings → Hull
start_hull craft = record { x = craft.start_x; y = craft.start_y; heading = craft.start_heading; speed = pos 0; depth = craft.start_depth }

-- a rudder as the vehicle takes it: held within a hundred either way, and 0 if it is unknown
abbrev pub rudder_taken : Option ℤ → ℤ
rudder_taken rudder = limited (pos 100000) (unwrap_or rudder (pos 0))

-- a thrust as the vehicle takes it: held from 0 to a hundred, and 0 if it is unknown
abbrev pub thrust_taken : Option ℤ → ℤ
thrust_taken thrust = clamped (pos 0) (pos 100000) (unwrap_or thrust (pos 0))

-- how much a quantity may change in the step, by its greatest rate a second; it is rounded toward zero, so a small rate changes
-- nothing in a short step
abbrev pub most_change : ℤ → ℕ → ℤ
most_change rate dt = int_div (rate *ℤ pos dt) (pos 1000)

-- the speed that a thrust leads to: that share in a hundred of the greatest speed
abbrev pub target_speed : CraftSettings → ℤ → ℤ
target_speed craft thrust = int_div (thrust *ℤ craft.max_speed) (pos 100000)

-- the speed after the step: it goes toward the target, no faster than the vehicle slows down and speeds up
abbrev pub speed_after : CraftSettings → ℤ → ℤ → ℕ → ℤ
speed_after craft speed thrust dt =
    speed +ℤ clamped (neg_ℤ (most_change craft.decel dt)) (most_change craft.accel dt) (target_speed craft thrust -ℤ speed)

-- how far the heading turns at this speed: by the full rate at full rudder and the greatest speed, and in proportion to both
abbrev pub heading_change : CraftSettings → ℤ → ℤ → ℕ → ℤ
heading_change craft rudder speed dt = int_div ((rudder *ℤ craft.turn_rate) *ℤ (speed *ℤ pos dt)) (pos (10 ^ 8) *ℤ craft.max_speed)

-- the heading after the step
abbrev pub heading_after : CraftSettings → ℤ → ℤ → ℤ → ℕ → ℤ
heading_after craft heading rudder speed dt = int_rem_euclid (heading +ℤ heading_change craft rudder speed dt) (pos 360000)

-- a heading in whole degrees
abbrev pub whole_degrees : ℤ → ℕ
whole_degrees heading = nat_abs heading / 1000

-- a coordinate after the step, by the sine or cosine of the heading in ten-thousandths; held within a million kilometres
abbrev pub coordinate_after : ℤ → ℤ → ℕ → ℤ → ℤ
coordinate_after start speed dt sine = limited (pos (10 ^ 12)) (start +ℤ int_div (speed *ℤ pos dt *ℤ sine) (pos (10 ^ 7)))

-- how far below the vehicle the wanted depth lies; 0 if it is unknown
abbrev pub depth_error : ℤ → Option ℤ → ℤ
depth_error depth None = pos 0
depth_error depth (Some want) = want -ℤ depth

-- the depth after the step: it goes toward the wanted one, no faster than the vehicle dives, and stays within 0 and 10,000
abbrev pub depth_after : CraftSettings → ℤ → Option ℤ → ℕ → ℤ
depth_after craft depth want dt =
    clamped (pos 0) (pos (10 ^ 7)) (depth +ℤ limited (most_change craft.dive dt) (depth_error depth want))

-- Where the vehicle is after the step, and how it moves: with the new speed it turns, and along the new heading it moves.
abbrev pub hull_after : CraftSettings → Hull → Option ℤ → Option ℤ → Option ℤ → ℕ → Hull
hull_after craft hull rudder thrust want_depth dt =
    let speed = speed_after craft hull.speed (thrust_taken thrust) dt in
    let heading = heading_after craft hull.heading (rudder_taken rudder) speed dt in
    record {
      x = coordinate_after hull.x speed dt (sin4 (whole_degrees heading));
      y = coordinate_after hull.y speed dt (cos4 (whole_degrees heading));
      heading = heading;
      speed = speed;
      depth = depth_after craft hull.depth want_depth dt;
    }

-- The hull of this craft: its place is within a million kilometres either way, and heading, speed and depth are in their
-- ranges.
pub record IsHull (craft : CraftSettings) (hull : Hull) : Type 0 where
  pub x : Lies (neg_ℤ (pos (10 ^ 12))) (pos (10 ^ 12)) hull.x
  pub y : Lies (neg_ℤ (pos (10 ^ 12))) (pos (10 ^ 12)) hull.y
  pub heading : Lies (pos 0) (pos 359999) hull.heading
  pub speed : Lies (pos 0) craft.max_speed hull.speed
  pub depth : Lies (pos 0) (pos (10 ^ 7)) hull.depth
