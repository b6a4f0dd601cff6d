-- Approaches worked by hand.
use Rattle.std.proofs.Common.{◌≡◌, ℕ, refl}
use Rattle.std.specs.Prelude.{ℤ, pos, neg_ℤ}
use Rattle.helm_geo.specs.Angles.{half_sine, sines}
use Rattle.helm_geo.specs.declared.spot.Spot.{Spot}
use Rattle.contact_avoid.specs.declared.motion.Track.{Track}
use Rattle.contact_avoid.specs.Approach.{closest, utility_between, approach_utility}

abbrev here : Spot
here = record { x = pos 0; y = pos 0 }

-- a contact 20 metres to the east that lies still
abbrev still : Track
still = record { x = pos 20000; y = pos 0; speed = pos 0; heading = pos 0 }

-- the utility of a course at 1 metre a second
abbrev at_one : ℤ → ℕ
at_one course = approach_utility 10000 75000 here still (pos 1000) course

onto : at_one (pos 90000) ≡ 0
unfolding half_sine sines
onto = refl

past : at_one (pos 45000) ≡ 1809
unfolding half_sine sines
past = refl

across : at_one (pos 0) ≡ 5429
unfolding half_sine sines
across = refl

away : at_one (pos 270000) ≡ 5429
unfolding half_sine sines
away = refl

-- a course below 0 is rounded downward, so it counts as 270
below : at_one (neg_ℤ (pos 89001)) ≡ 5429
unfolding half_sine sines
below = refl

lying_still : approach_utility 10000 75000 here still (pos 0) (pos 90000) ≡ 5429
unfolding half_sine sines
lying_still = refl

-- a contact that comes straight on, whose heading of 360 counts as 0
oncoming : approach_utility 10000 75000 here (record { x = pos 0; y = neg_ℤ (pos 70000); speed = pos 2000; heading = pos 360000 }) (pos 1000) (pos 0) ≡ 0
unfolding half_sine sines
oncoming = refl

far_away : approach_utility 10000 75000 here (record { x = pos 10000001; y = pos 0; speed = pos 0; heading = pos 0 }) (pos 1000) (pos 90000) ≡ 100000
far_away = refl

-- a contact that passes: 3 to the east and 4 to the north, moving westward, passes at 4, whatever its speed
passing : closest (record { x = pos 3; y = pos 4 }) (record { x = neg_ℤ (pos 5); y = pos 0 }) ≡ record { over = 400; under = 25 }
passing = refl

-- at the near distance the utility is 0, at the far one 100, and half between their squares 50
at_near : utility_between 1 3 (record { over = 1; under = 1 }) ≡ 0
at_near = refl

at_far : utility_between 1 3 (record { over = 9; under = 1 }) ≡ 100000
at_far = refl

between : utility_between 1 3 (record { over = 10; under = 2 }) ≡ 50000
between = refl
