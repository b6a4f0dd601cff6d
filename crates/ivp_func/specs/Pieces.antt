-- Pieces: a linear function on a box. Their values, and which pieces fit a domain.
use Rattle.std.specs.Prelude.{ℕ, ◌^◌, ℤ, pos, neg_ℤ, ◌+ℤ◌, ◌*ℤ◌, int_le, Bool, ◌&&◌, ◌||◌, nat_lt, Option, Some, None, List, length, slice_index, slice_index_or, find, count_by}
use Rattle.std.specs.List.{list_all}
use Rattle.ivp_domain.specs.declared.axis.Axis.{Axis}
use Rattle.ivp_domain.specs.declared.boxes.BoxN.{BoxN}
use Rattle.ivp_domain.specs.declared.boxes.Point.{Point}
use Rattle.ivp_domain.specs.Boxes.{has_point, is_box}
use Rattle.ivp_domain.specs.Domains.{size_on}
use Rattle.ivp_func.specs.declared.piece.Piece.{Piece}

-- the slope of a piece along an axis
abbrev pub slope_on : ℕ → Piece → ℤ
slope_on axis piece = slice_index_or piece.slope axis (pos 0)

-- what an axis adds to the value: slope times place
abbrev pub rise_on : ℕ → Piece → Point → ℤ
rise_on axis piece point = slope_on axis piece *ℤ pos (slice_index point.at axis)

-- base plus slopes times places
abbrev pub piece_value : Piece → Point → ℤ
piece_value piece point = piece.base +ℤ rise_on 0 piece point +ℤ rise_on 1 piece point +ℤ rise_on 2 piece point +ℤ rise_on 3 piece point

-- the piece's box has the point
abbrev pub piece_has : Point → Piece → Bool
piece_has point piece = has_point piece.area point

-- how many of the pieces hold the point
abbrev pub count_at : List Piece → Point → ℕ
count_at pieces point = count_by (piece_has point) pieces

-- the value of this piece at a point; 0 if there is no piece
abbrev pub value_in : Option Piece → Point → ℤ
value_in None point = pos 0
value_in (Some piece) point = piece_value piece point

-- the value at a point: that of the first piece that holds it, in a partition the only one
abbrev pub value_at : List Piece → Point → ℤ
value_at pieces point = value_in (find (piece_has point) pieces) point

-- from 0 to 100,000
abbrev pub is_value : ℤ → Bool
is_value number = int_le (pos 0) number && int_le number (pos 100000)

-- the box lies in the domain and has points
abbrev pub is_box_of : List Axis → BoxN → Bool
is_box_of axes area =
    is_box area && nat_lt (slice_index area.high 0) (size_on 0 axes) && nat_lt (slice_index area.high 1) (size_on 1 axes) && nat_lt (slice_index area.high 2) (size_on 2 axes)
    && nat_lt (slice_index area.high 3) (size_on 3 axes)

-- at most 100,000 either way
abbrev pub is_slope : ℤ → Bool
is_slope number = int_le (neg_ℤ (pos 100000)) number && int_le number (pos 100000)

-- at most 10^14 either way
abbrev pub is_base : ℤ → Bool
is_base number = int_le (neg_ℤ (pos (10 ^ 14))) number && int_le number (pos (10 ^ 14))

-- base and slopes within their bounds
abbrev pub is_small : Piece → Bool
is_small piece = is_base piece.base && is_slope (slope_on 0 piece) && is_slope (slope_on 1 piece) && is_slope (slope_on 2 piece) && is_slope (slope_on 3 piece)

-- no slope, if the domain has no such axis
abbrev pub is_flat_past : List Axis → ℕ → Piece → Bool
is_flat_past axes axis piece = nat_lt axis (length axes) || (int_le (pos 0) (slope_on axis piece) && int_le (slope_on axis piece) (pos 0))

-- the piece may be in a function over the domain
abbrev pub is_piece_of : List Axis → Piece → Bool
is_piece_of axes piece = is_box_of axes piece.area && is_small piece && is_flat_past axes 1 piece && is_flat_past axes 2 piece && is_flat_past axes 3 piece

-- each of these pieces may be in a function over the domain
abbrev pub are_pieces_of : List Axis → List Piece → Bool
are_pieces_of axes pieces = list_all (is_piece_of axes) pieces
