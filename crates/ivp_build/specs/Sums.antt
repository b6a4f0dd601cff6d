-- The sum of two functions: its value at a point, and its pieces.
use Rattle.std.specs.Prelude.{ℕ, ℤ, pos, ◌+ℤ◌, ◌≤ℤ◌, Bool, ◌&&◌, ◌||◌, IsTrue, Option, option_map, List, [], ◌∷◌}
use Rattle.std.specs.List.{filter_map, flat_map, list_all}
use Rattle.std.specs.Ordering.{int_eq}
use Rattle.ivp_domain.specs.declared.axis.Axis.{Axis}
use Rattle.ivp_domain.specs.declared.boxes.BoxN.{BoxN}
use Rattle.ivp_domain.specs.declared.boxes.Point.{Point}
use Rattle.ivp_domain.specs.Boxes.{meet_of}
use Rattle.ivp_domain.specs.Domains.{is_point}
use Rattle.ivp_func.specs.declared.piece.Piece.{Piece}
use Rattle.ivp_func.specs.Functions.{IsTop}
use Rattle.ivp_func.specs.Pieces.{slope_on, value_at}

-- Couple: the sum of two utilities at a point.
abbrev pub couple_at : (Point → ℤ) → (Point → ℤ) → Point → ℤ
couple_at f g point = f point +ℤ g point

-- the sum of two pieces on a box
abbrev pub sum_of_pieces : Piece → Piece → BoxN → Piece
sum_of_pieces p q area =
    record {
      area = area;
      base = p.base +ℤ q.base;
      slope = (slope_on 0 p +ℤ slope_on 0 q) ∷ (slope_on 1 p +ℤ slope_on 1 q) ∷ (slope_on 2 p +ℤ slope_on 2 q) ∷ (slope_on 3 p +ℤ slope_on 3 q) ∷ [];
    }

-- the sum of two pieces on what their boxes have in common, if that is anything
abbrev pub met_sum : Piece → Piece → Option Piece
met_sum p q = option_map (sum_of_pieces p q) (meet_of p.area q.area)

-- the sums of a piece with those that meet it, in order
abbrev pub met_sums : Piece → List Piece → List Piece
met_sums p qs = filter_map (met_sum p) qs

-- the pieces of the sum of two functions: one for each pair that meets, in the first one's order and then in the second's
abbrev pub couple_pieces : List Piece → List Piece → List Piece
couple_pieces ps qs = flat_map (λ p. met_sums p qs) ps

-- none of the pieces has a slope on this axis
abbrev pub is_level_on : ℕ → List Piece → Bool
is_level_on axis pieces = list_all (λ piece. int_eq (slope_on axis piece) (pos 0)) pieces

-- on each axis at most one of two functions has slopes
abbrev pub slope_apart : List Piece → List Piece → Bool
slope_apart ps qs = (is_level_on 0 ps || is_level_on 0 qs) && (is_level_on 1 ps || is_level_on 1 qs) && (is_level_on 2 ps || is_level_on 2 qs) && (is_level_on 3 ps || is_level_on 3 qs)

-- at each point the values of two functions are together at most 100,000
abbrev pub HaveRoom : List Axis → List Piece → List Piece → Type 0
HaveRoom axes ps qs = (point : Point) → IsTrue (is_point axes point) → couple_at (value_at ps) (value_at qs) point ≤ℤ pos 100000

-- The values of two functions are together at most 100,000 at each point if their greatest values are.
abbrev pub TopsLeaveRoom : Type 0
TopsLeaveRoom = (axes : List Axis) (ps qs : List Piece) (top other : ℤ) → IsTop axes ps top → IsTop axes qs other → (top +ℤ other) ≤ℤ pos 100000 → HaveRoom axes ps qs
