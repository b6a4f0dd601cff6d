-- The closest approach of a contact, and the utility of a speed and a course by it. Distances and speeds are in
-- thousandths (of a metre, of a metre a second), and a velocity, which is a speed times a sine in ten-thousandths, in
-- units of 10^-7 metres a second.
use Rattle.std.specs.Prelude.{ℕ, ℤ, pos, ◌+◌, ◌-◌, ◌*◌, ◌/◌, ◌^◌, ◌+ℤ◌, ◌-ℤ◌, ◌*ℤ◌, nat_abs, int_le, Bool, not, ◌&&◌, nat_le, if◌then◌else◌}
use Rattle.std.specs.Int.{int_div_euclid, int_rem_euclid}
use Rattle.helm_geo.specs.declared.spot.Spot.{Spot}
use Rattle.helm_geo.specs.Angles.{cos4, sin4}
use Rattle.contact_avoid.specs.declared.approach.Fraction.{Fraction}
use Rattle.contact_avoid.specs.declared.motion.Track.{Track}
use Rattle.contact_avoid.specs.declared.vector.Vector.{Vector}

-- the dot product of two vectors: above 0 exactly if the angle between them is below 90 degrees
abbrev pub dot : Vector → Vector → ℤ
dot r w = r.x *ℤ w.x +ℤ r.y *ℤ w.y

-- the cross product of two vectors: 0 if they lie along one line
abbrev pub cross : Vector → Vector → ℤ
cross r w = r.x *ℤ w.y -ℤ r.y *ℤ w.x

-- the squared length of a vector
abbrev pub length_squared : Vector → ℕ
length_squared r = nat_abs r.x * nat_abs r.x + nat_abs r.y * nat_abs r.y

-- the difference of two vectors: the first less the second
abbrev pub minus : Vector → Vector → Vector
minus a b = record { x = a.x -ℤ b.x; y = a.y -ℤ b.y }

-- a course in whole degrees, rounded downward and taken once around
abbrev pub degree_of : ℤ → ℕ
degree_of course = nat_abs (int_rem_euclid (int_div_euclid course (pos 1000)) (pos 360))

-- the velocity of this speed along this degree
abbrev pub velocity : ℤ → ℕ → Vector
velocity speed degree = record { x = speed *ℤ sin4 degree; y = speed *ℤ cos4 degree }

-- where the contact is, seen from the own position
abbrev pub relative_position : Spot → Track → Vector
relative_position own contact = record { x = contact.x -ℤ own.x; y = contact.y -ℤ own.y }

-- how the contact moves, seen from an own ship of this speed and course
abbrev pub relative_velocity : Track → ℤ → ℤ → Vector
relative_velocity contact speed course =
    minus (velocity contact.speed (degree_of contact.heading)) (velocity speed (degree_of course))

-- The squared closest approach of a contact that is at r and moves by w: that of now if it doesn't come nearer, and else
-- the squared distance of the own position from the line along which it moves.
abbrev pub closest : Vector → Vector → Fraction
closest r w =
    if int_le (pos 0) (dot r w) then record { over = length_squared r; under = 1 }
    else record { over = nat_abs (cross r w) * nat_abs (cross r w); under = length_squared w }

-- a fraction is at most a whole number
abbrev pub fraction_at_most : Fraction → ℕ → Bool
fraction_at_most q n = nat_le q.over (n * q.under)

-- a fraction is at least a whole number
abbrev pub fraction_at_least : Fraction → ℕ → Bool
fraction_at_least q n = nat_le (n * q.under) q.over

-- the utility of a squared distance: 0 up to the near distance and 100 from the far one on, both in thousandths, and between
-- them in proportion to the squares, rounded downward
abbrev pub utility_between : ℕ → ℕ → Fraction → ℕ
utility_between near far q =
    if fraction_at_most q (near * near) then 0
    else if fraction_at_least q (far * far) then 100000
    else 100000 * (q.over - near * near * q.under) / ((far * far - near * near) * q.under)

-- a part of the vector is beyond 10,000,000 thousandths, which are 10 km
abbrev pub is_far : Vector → Bool
is_far r = not (nat_le (nat_abs r.x) (10 ^ 7) && nat_le (nat_abs r.y) (10 ^ 7))

-- the utility against a contact that is at r and moves by w; one that is far in x or in y counts as no danger, whatever the far
-- distance and its speed
abbrev pub utility_by : ℕ → ℕ → Vector → Vector → ℕ
utility_by near far r w = if is_far r then 100000 else utility_between near far (closest r w)

-- The utility of a speed and a course, by the near and the far distance, the own position and the contact.
abbrev pub approach_utility : ℕ → ℕ → Spot → Track → ℤ → ℤ → ℕ
approach_utility near far own contact speed course =
    utility_by near far (relative_position own contact) (relative_velocity contact speed course)
