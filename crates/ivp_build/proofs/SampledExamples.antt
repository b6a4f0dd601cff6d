-- Utilities sampled on small domains: where the boxes lie, what a piece has for slopes, and where it is constant.
use Rattle.std.proofs.Common.{◌≡◌, ℕ, true, ◌+◌, ◌*◌, ℤ, pos, neg_ℤ, ◌+ℤ◌, Bool, ◌&&◌, List, [], ◌∷◌, ◌++◌, map, refl}
use Rattle.std.specs.Prelude.{◌==◌, if◌then◌else◌, codes, slice_index, slice_index_or}
use Rattle.std.specs.List.{list_all}
use Rattle.std.specs.Ordering.{int_eq}
use Rattle.ivp_domain.specs.declared.axis.Axis.{Axis}
use Rattle.ivp_domain.specs.declared.boxes.BoxN.{BoxN}
use Rattle.ivp_domain.specs.declared.boxes.Point.{Point}
use Rattle.ivp_domain.specs.Domains.{points_of}
use Rattle.ivp_func.specs.declared.piece.Piece.{Piece}
use Rattle.ivp_func.specs.Functions.{has_values, is_partition}
use Rattle.ivp_func.specs.Pieces.{are_pieces_of, value_at}
use Rattle.ivp_build.specs.Sampled.{boxes_of, uniform_at, uniform_pieces}

-- five places and three
abbrev axes : List Axis
axes = record { name = codes "a"; low = pos 0; high = pos 4; points = 5 } ∷ record { name = codes "b"; low = pos 0; high = pos 2; points = 3 } ∷ []

abbrev area : ℕ → ℕ → ℕ → ℕ → BoxN
area low high low_too high_too = record { low = low ∷ low_too ∷ 0 ∷ 0 ∷ []; high = high ∷ high_too ∷ 0 ∷ 0 ∷ [] }

-- from place 0 on in runs of two, the last one shorter, the first axis outermost
boxes : boxes_of axes 2 ≡ area 0 1 0 1 ∷ area 0 1 2 2 ∷ area 2 3 0 1 ∷ area 2 3 2 2 ∷ area 4 4 0 1 ∷ area 4 4 2 2 ∷ []
boxes = refl

-- a run of more places than there are is the whole axis, and one of one place each place
whole_box : boxes_of axes 9 ≡ area 0 4 0 2 ∷ []
whole_box = refl

-- the pieces partition the domain, with values in range, and the value at each point is what the definition says without pieces
abbrev agree : ℕ → (Point → ℤ) → Bool
agree size utility =
    let pieces = uniform_pieces axes size utility in
    are_pieces_of axes pieces && is_partition axes pieces && has_values axes pieces && list_all (λ point. int_eq (value_at pieces point) (uniform_at axes size utility point)) (points_of axes)

-- 7 times the square of the first place, and 3 times the second
abbrev square : Point → ℤ
square point = pos (7 * (slice_index point.at 0 * slice_index point.at 0) + 3 * slice_index point.at 1)

-- falling from 100,000 by 7 and by 49,000
abbrev steep : Point → ℤ
steep point = pos 100000 +ℤ neg_ℤ (pos (7 * slice_index point.at 0)) +ℤ neg_ℤ (pos (49000 * slice_index point.at 1))

sound : (agree 1 square && agree 2 square && agree 3 square && agree 5 square && agree 9 square && agree 1 steep && agree 2 steep && agree 3 steep && agree 9 steep) ≡ true
sound = refl

abbrev piece : BoxN → ℤ → ℤ → ℤ → Piece
piece area base slope slope_too = record { area = area; base = base; slope = slope ∷ slope_too ∷ pos 0 ∷ pos 0 ∷ [] }

-- the slopes are the changes to the high ends, 0 where there is one place, and the base fits the low corner
squares : uniform_pieces axes 2 square ≡
    piece (area 0 1 0 1) (pos 0) (pos 7) (pos 3) ∷ piece (area 0 1 2 2) (pos 6) (pos 7) (pos 0)
    ∷ piece (area 2 3 0 1) (neg_ℤ (pos 42)) (pos 35) (pos 3) ∷ piece (area 2 3 2 2) (neg_ℤ (pos 36)) (pos 35) (pos 0)
    ∷ piece (area 4 4 0 1) (pos 112) (pos 0) (pos 3) ∷ piece (area 4 4 2 2) (pos 118) (pos 0) (pos 0) ∷ []
squares = refl

-- over four places to 100 in all: by 33 and a third, toward zero, and so it falls
abbrev third : ℤ → ℤ → Point → ℤ
third from to point = if slice_index point.at 0 == 3 then to else from

thirds : map (λ (piece : Piece). slice_index_or piece.slope 0 (pos 0)) (uniform_pieces (record { name = codes "a"; low = pos 0; high = pos 3; points = 4 } ∷ []) 4 (third (pos 0) (pos 100))
    ++ uniform_pieces (record { name = codes "a"; low = pos 0; high = pos 3; points = 4 } ∷ []) 4 (third (pos 100) (pos 0))) ≡ pos 33 ∷ neg_ℤ (pos 33) ∷ []
thirds = refl

-- rising to 100,000 on both axes it would come to 200,000 at the far corner, so it is constant; and to 100,000 it is not
abbrev corner : ℤ → Point → ℤ
corner most point = if slice_index point.at 0 + slice_index point.at 1 == 0 then pos 0 else most

leaves : uniform_pieces axes 9 (corner (pos 100000)) ≡ piece (area 0 4 0 2) (pos 0) (pos 0) (pos 0) ∷ []
leaves = refl

keeps : uniform_pieces axes 9 (corner (pos 50000)) ≡ piece (area 0 4 0 2) (pos 0) (pos 12500) (pos 25000) ∷ []
keeps = refl

one_more : uniform_pieces axes 9 (corner (pos 50004)) ≡ piece (area 0 4 0 2) (pos 0) (pos 0) (pos 0) ∷ []
one_more = refl

-- and so where it would fall below 0
abbrev valley : ℤ → Point → ℤ
valley most point = if slice_index point.at 0 + slice_index point.at 1 == 0 then most else pos 0

falls_below : uniform_pieces axes 9 (valley (pos 4)) ≡ piece (area 0 4 0 2) (pos 4) (pos 0) (pos 0) ∷ []
falls_below = refl

-- seven times the square of a place of five, in runs of 1, 3 and 9
abbrev line : List Axis
line = record { name = codes "a"; low = pos 0; high = pos 4; points = 5 } ∷ []

one_by_one : map (uniform_at line 1 square) (points_of line) ≡ pos 0 ∷ pos 7 ∷ pos 28 ∷ pos 63 ∷ pos 112 ∷ []
one_by_one = refl

by_threes : map (uniform_at line 3 square) (points_of line) ≡ pos 0 ∷ pos 14 ∷ pos 28 ∷ pos 63 ∷ pos 112 ∷ []
by_threes = refl

at_once : map (uniform_at line 9 square) (points_of line) ≡ pos 0 ∷ pos 28 ∷ pos 56 ∷ pos 84 ∷ pos 112 ∷ []
at_once = refl
