-- Spots on the plane: on which side of a line they lie, and how far they are apart.
use Rattle.std.specs.Prelude.{ℕ, zero, suc, ◌+◌, ◌*◌, ◌/◌, ◌^◌, ℤ, pos, neg_ℤ, ◌-ℤ◌, ◌*ℤ◌, nat_abs, int_le, int_lt, Bool, ◌&&◌, nat_le, if◌then◌else◌}
use Rattle.helm_geo.specs.declared.spot.Spot.{Spot}

-- the number is within 10^12 thousandths of 0
abbrev pub is_coordinate : ℤ → Bool
is_coordinate number = int_le (neg_ℤ (pos (10 ^ 12))) number && int_le number (pos (10 ^ 12))

-- both coordinates are within 10^12 thousandths of 0
abbrev pub is_spot : Spot → Bool
is_spot spot = is_coordinate spot.x && is_coordinate spot.y

-- the spot lies strictly left of the line from a to b
abbrev pub is_left_of : Spot → Spot → Spot → Bool
is_left_of a b p = int_lt ((b.y -ℤ a.y) *ℤ (p.x -ℤ a.x)) ((b.x -ℤ a.x) *ℤ (p.y -ℤ a.y))

-- the spot lies strictly right of the line from a to b
abbrev pub is_right_of : Spot → Spot → Spot → Bool
is_right_of a b p = is_left_of b a p

-- the square of a number
abbrev pub square : ℕ → ℕ
square n = n * n

-- the square of the distance of two spots, the distance counted in thousandths
abbrev pub distance_squared : Spot → Spot → ℕ
distance_squared p q = square (nat_abs (q.x -ℤ p.x)) + square (nat_abs (q.y -ℤ p.y))

-- the spots are not farther apart than the radius
abbrev pub within : Spot → Spot → ℕ → Bool
within p q radius = nat_le (distance_squared p q) (square radius)

-- the root of a number of at most `digits` digits to the base 4, rounded down: twice that of its fourth part, or one more
abbrev pub root_by_digits : ℕ → ℕ → ℕ
root_by_digits zero n = 0
root_by_digits (suc digits) n =
    let twice = 2 * root_by_digits digits (n / 4) in
    if nat_le (square (suc twice)) n then suc twice else twice

-- the root of a number below 2^128, rounded down
unfoldable pub isqrt : ℕ → ℕ
isqrt n = root_by_digits 64 n
