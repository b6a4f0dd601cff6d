-- A behaviour that keeps clear of a contact, worked by hand.
use Rattle.std.proofs.Common.{◌≡◌, ℕ, refl, arith}
use Rattle.std.specs.Prelude.{pos, true, false, List, [], ◌∷◌, codes, Some, None}
use Rattle.ivp_domain.specs.declared.axis.Axis.{Axis}
use Rattle.helm_cond.specs.Learnt.{Knowledge}
use Rattle.helm_geo.specs.Angles.{half_sine, sines}
use Rattle.bhv_file.specs.declared.out.BhvFault.TheVariants.{NoPosition}
use Rattle.bhv_file.specs.declared.spec.Avoidance.{Avoidance}
use Rattle.bhv_file.specs.declared.spec.Shape.TheVariants.{AvoidCollision}
use Rattle.contact_avoid.specs.Avoids.{avoid_out, avoid_utility, nothing_out, IsAvoid, track_in}

-- whole degrees, and speeds of 0, 1 and 2 metres a second
abbrev axes : List Axis
axes = record { name = codes "course"; low = pos 0; high = pos 359000; points = 360 } ∷ record { name = codes "speed"; low = pos 0; high = pos 2000; points = 3 } ∷ []

-- a contact 20 metres to the east that lies still, with the default distances
abbrev still : Avoidance
still = record {
  contact = Some (codes "b");
  contact_x = Some (pos 20000);
  contact_y = Some (pos 0);
  contact_speed = Some (pos 0);
  contact_heading = Some (pos 0);
  near = pos 10000;
  far = pos 75000;
  resolved = false;
  piece_size = 12;
}

pub still_avoids : IsAvoid (record { weight = 100000; shape = AvoidCollision still })
still_avoids = record {
  valid = record { ranges = record { weight = omega arith; parameters = (refl, refl, refl, refl, refl, refl, refl, refl) }; given = refl; relations = refl };
  avoids = refl;
}

-- the utility of a course in degrees at 1 metre a second
abbrev at_one : ℕ → ℕ
at_one degree = avoid_utility axes (AvoidCollision still) (record { x = pos 0; y = pos 0 }) (record { at = degree ∷ 1 ∷ 0 ∷ 0 ∷ [] })

onto : at_one 90 ≡ 0
unfolding half_sine sines
onto = refl

past : at_one 45 ≡ 1809
unfolding half_sine sines
past = refl

across : at_one 0 ≡ 5429
unfolding half_sine sines
across = refl

away : at_one 270 ≡ 5429
unfolding half_sine sines
away = refl

-- nothing is known
abbrev nothing : Knowledge
nothing var = None

lost : avoid_out axes (AvoidCollision still) nothing ≡ record nothing_out { fault = Some NoPosition }
lost = refl

-- a contact that is clear for good needs no position
clear : avoid_out axes (AvoidCollision (record still { resolved = true })) nothing ≡ record nothing_out { done = true }
clear = refl

-- one of the four numbers is missing
without_heading : track_in (record still { contact_heading = None }) ≡ None
without_heading = refl
