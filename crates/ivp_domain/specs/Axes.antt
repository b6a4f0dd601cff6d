-- Axes: which are good, and the number that a place on one stands for.
use Rattle.std.specs.Prelude.{ℕ, ℤ, pos, neg_ℤ, ◌+ℤ◌, ◌-ℤ◌, nat_abs, ◌-◌, ◌*◌, ◌/◌, ◌^◌, Bool, ◌&&◌, nat_le, int_lt, int_le, [], ◌∷◌}
use Rattle.ivp_domain.specs.declared.axis.Axis.{Axis}

-- within 10^12 thousandths of 0
abbrev pub is_end : ℤ → Bool
is_end number = int_le (neg_ℤ (pos (10 ^ 12))) number && int_le number (pos (10 ^ 12))

-- at least two points, the low end below the high one, both within bounds
abbrev pub is_good_axis : Axis → Bool
is_good_axis axis = nat_le 2 axis.points && int_lt axis.low axis.high && is_end axis.low && is_end axis.high

-- the number at a place, rounded down: as far from the low end to the high one as the place is from the first to the last
abbrev pub value_on : Axis → ℕ → ℤ
value_on axis place = axis.low +ℤ pos (place * nat_abs (axis.high -ℤ axis.low) / (axis.points - 1))

-- what is past the last axis: an axis of one point
abbrev pub no_axis : Axis
no_axis = record { name = 120 ∷ []; low = pos 0; high = pos 1; points = 1 }
