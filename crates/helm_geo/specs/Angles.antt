-- Angles in whole degrees, clockwise from north: sines and cosines from one table, and the bearing of a step.
use Rattle.std.specs.Prelude.{ℕ, zero, suc, ◌+◌, ◌-◌, ◌%◌, ℤ, pos, neg_ℤ, ◌+ℤ◌, ◌*ℤ◌, int_lt, ◌&&◌, nat_le, min, if◌then◌else◌, List, [], ◌∷◌, Option, Some, None, slice_index}
use Rattle.std.specs.Ordering.{int_eq}

-- the sines of 0 to 90 degrees, in ten-thousandths, rounded to the nearest
unfoldable pub sines : List ℕ
sines =
    0 ∷ 175 ∷ 349 ∷ 523 ∷ 698 ∷ 872 ∷ 1045 ∷ 1219 ∷ 1392 ∷ 1564 ∷ 1736 ∷ 1908 ∷ 2079 ∷ 2250 ∷ 2419 ∷ 2588 ∷ 2756 ∷ 2924 ∷ 3090 ∷
    3256 ∷ 3420 ∷ 3584 ∷ 3746 ∷ 3907 ∷ 4067 ∷ 4226 ∷ 4384 ∷ 4540 ∷ 4695 ∷ 4848 ∷ 5000 ∷ 5150 ∷ 5299 ∷ 5446 ∷ 5592 ∷ 5736 ∷
    5878 ∷ 6018 ∷ 6157 ∷ 6293 ∷ 6428 ∷ 6561 ∷ 6691 ∷ 6820 ∷ 6947 ∷ 7071 ∷ 7193 ∷ 7314 ∷ 7431 ∷ 7547 ∷ 7660 ∷ 7771 ∷ 7880 ∷
    7986 ∷ 8090 ∷ 8192 ∷ 8290 ∷ 8387 ∷ 8480 ∷ 8572 ∷ 8660 ∷ 8746 ∷ 8829 ∷ 8910 ∷ 8988 ∷ 9063 ∷ 9135 ∷ 9205 ∷ 9272 ∷ 9336 ∷
    9397 ∷ 9455 ∷ 9511 ∷ 9563 ∷ 9613 ∷ 9659 ∷ 9703 ∷ 9744 ∷ 9781 ∷ 9816 ∷ 9848 ∷ 9877 ∷ 9903 ∷ 9925 ∷ 9945 ∷ 9962 ∷ 9976 ∷
    9986 ∷ 9994 ∷ 9998 ∷ 10000 ∷ []

-- the sine of an angle up to 180 degrees, in ten-thousandths; beyond 90 degrees it is that of 180 less the angle
unfoldable pub half_sine : ℕ → ℕ
half_sine degree = slice_index sines (min degree (180 - degree))

-- the sine of an angle below 360 degrees, in ten-thousandths
abbrev pub sin4 : ℕ → ℤ
sin4 degree = if nat_le degree 180 then pos (half_sine degree) else neg_ℤ (pos (half_sine (degree - 180)))

-- the cosine: the sine of a quarter further
abbrev pub cos4 : ℕ → ℤ
cos4 degree = sin4 ((degree + 90) % 360)

-- how far a step of dx east and dy north leads along a degree
abbrev pub along : ℤ → ℤ → ℕ → ℤ
along dx dy degree = dx *ℤ sin4 degree +ℤ dy *ℤ cos4 degree

-- of the first `count` degrees, from 0 on, the least along which a step leads farthest
unfoldable pub farthest : ℤ → ℤ → ℕ → ℕ
farthest dx dy zero = 0
farthest dx dy (suc count) =
    let best = farthest dx dy count in
    if int_lt (along dx dy best) (along dx dy count) then count else best

-- The bearing of a step: the least degree along which it leads farthest; none if it leads nowhere.
abbrev pub bearing : ℤ → ℤ → Option ℕ
bearing dx dy = if int_eq dx (pos 0) && int_eq dy (pos 0) then None else Some (farthest dx dy 360)
