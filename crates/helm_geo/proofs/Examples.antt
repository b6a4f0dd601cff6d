-- The definitions on worked examples.
use Rattle.std.proofs.Common.{◌≡◌, true, false, Some, None, ◌*◌, ◌^◌, ℤ, pos, neg_ℤ, List, [], ◌∷◌, length, map, refl}
use Rattle.helm_geo.specs.declared.spot.Spot.{Spot}
use Rattle.helm_geo.specs.Angles.{bearing, cos4, farthest, half_sine, sin4, sines}
use Rattle.helm_geo.specs.Plane.{is_spot, isqrt, within}
use Rattle.helm_geo.specs.Polygons.{convex, inside}

abbrev spot : ℤ → ℤ → Spot
spot x y = record { x = x; y = y }

-- a square in both directions
abbrev anticlockwise : List Spot
anticlockwise = spot (pos 0) (pos 0) ∷ spot (pos 4) (pos 0) ∷ spot (pos 4) (pos 4) ∷ spot (pos 0) (pos 4) ∷ []

abbrev clockwise : List Spot
clockwise = spot (pos 0) (pos 0) ∷ spot (pos 0) (pos 4) ∷ spot (pos 4) (pos 4) ∷ spot (pos 4) (pos 0) ∷ []

squares : (convex anticlockwise ≡ true) × (convex clockwise ≡ true)
squares = (refl, refl)

-- a vertex in the middle of a side, the first vertex given twice, sides that cross, two vertices alone, and a star of five
flat_vertex : convex (spot (pos 2) (pos 0) ∷ anticlockwise) ≡ false
flat_vertex = refl

given_twice : convex (spot (pos 0) (pos 0) ∷ anticlockwise) ≡ false
given_twice = refl

crossed : convex (spot (pos 0) (pos 0) ∷ spot (pos 4) (pos 4) ∷ spot (pos 4) (pos 0) ∷ spot (pos 0) (pos 4) ∷ []) ≡ false
crossed = refl

two_alone : convex (spot (pos 0) (pos 0) ∷ spot (pos 1) (pos 0) ∷ []) ≡ false
two_alone = refl

star : convex (spot (pos 0) (pos 30) ∷ spot (pos 18) (neg_ℤ (pos 24)) ∷ spot (neg_ℤ (pos 29)) (pos 9) ∷ spot (pos 29) (pos 9) ∷ spot (neg_ℤ (pos 18)) (neg_ℤ (pos 24)) ∷ []) ≡ false
star = refl

-- within, on a side, at a vertex, and one thousandth beyond a side
insides : (inside anticlockwise (spot (pos 2) (pos 2)) ≡ true) × (inside clockwise (spot (pos 2) (pos 2)) ≡ true)
insides = (refl, refl)

on_the_border : (inside clockwise (spot (pos 4) (pos 2)) ≡ true) × (inside anticlockwise (spot (pos 0) (pos 2)) ≡ true) × (inside clockwise (spot (pos 4) (pos 4)) ≡ true)
on_the_border = (refl, refl, refl)

outsides : (inside anticlockwise (spot (pos 5) (pos 4)) ≡ false) × (inside clockwise (spot (pos 2) (neg_ℤ (pos 1))) ≡ false) × (inside clockwise (spot (neg_ℤ (pos 1)) (pos 0)) ≡ false)
outsides = (refl, refl, refl)

-- the table, and what is read from it at the quarters and between them
table : length sines ≡ 91
unfolding sines
table = refl

quarters : (map sin4 (0 ∷ 90 ∷ 180 ∷ 270 ∷ []) ≡ pos 0 ∷ pos 10000 ∷ pos 0 ∷ neg_ℤ (pos 10000) ∷ []) × (map cos4 (0 ∷ 90 ∷ 180 ∷ 270 ∷ []) ≡ pos 10000 ∷ pos 0 ∷ neg_ℤ (pos 10000) ∷ pos 0 ∷ [])
unfolding half_sine sines
quarters = (refl, refl)

between : (sin4 91 ≡ pos 9998) × (sin4 359 ≡ neg_ℤ (pos 175)) × (cos4 359 ≡ pos 9998) × (sin4 150 ≡ pos 5000) × (cos4 150 ≡ neg_ℤ (pos 8660))
unfolding half_sine sines
between = (refl, refl, refl, refl, refl)

-- the eight winds, and a step that leads nowhere
right_winds : (bearing (pos 0) (pos 7) ≡ Some 0) × (bearing (pos 7) (pos 7) ≡ Some 45) × (bearing (pos 7) (pos 0) ≡ Some 90) × (bearing (pos 7) (neg_ℤ (pos 7)) ≡ Some 135)
unfolding half_sine sines farthest
right_winds = (refl, refl, refl, refl)

left_winds : (bearing (pos 0) (neg_ℤ (pos 7)) ≡ Some 180) × (bearing (neg_ℤ (pos 7)) (neg_ℤ (pos 7)) ≡ Some 225) × (bearing (neg_ℤ (pos 7)) (pos 0) ≡ Some 270) × (bearing (neg_ℤ (pos 7)) (pos 7) ≡ Some 315) × (bearing (pos 0) (pos 0) ≡ None)
unfolding half_sine sines farthest
left_winds = (refl, refl, refl, refl, refl)

-- of two degrees as good the least, also across north
equally : (bearing (pos 122) (pos 124) ≡ Some 44) × (bearing (neg_ℤ (pos 2)) (pos 175) ≡ Some 0)
unfolding half_sine sines farthest
equally = (refl, refl)

-- at exactly the radius, and one thousandth beyond
at_the_radius : (within (spot (pos 0) (pos 0)) (spot (pos 3000) (neg_ℤ (pos 4000))) 5000 ≡ true) × (within (spot (pos 0) (pos 0)) (spot (pos 3000) (pos 4001)) 5000 ≡ false)
at_the_radius = (refl, refl)

roots : (isqrt 0 ≡ 0) × (isqrt 15 ≡ 3) × (isqrt 16 ≡ 4) × (isqrt (10 ^ 24 * 4) ≡ 2 * 10 ^ 12)
unfolding isqrt
roots = (refl, refl, refl, refl)

-- the farthest spots, and one beyond them
farthest_spots : (is_spot (spot (pos (10 ^ 12)) (neg_ℤ (pos (10 ^ 12)))) ≡ true) × (is_spot (spot (pos 1000000000001) (pos 0)) ≡ false)
farthest_spots = (refl, refl)
