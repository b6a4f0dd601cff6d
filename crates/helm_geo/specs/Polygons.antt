-- Convex polygons, as the list of their vertices in order.
use Rattle.std.specs.Prelude.{ℕ, Bool, false, ◌&&◌, ◌||◌, not, nat_le, List, [], ◌∷◌, ◌++◌, length, take, drop}
use Rattle.std.specs.List.{list_all, range_with_len}
use Rattle.helm_geo.specs.declared.spot.Spot.{Spot}
use Rattle.helm_geo.specs.Plane.{is_left_of, is_right_of, is_spot}

-- the vertices from this one on, around to the one before it
abbrev pub round_from : ℕ → List Spot → List Spot
round_from place vertices = drop place vertices ++ take place vertices

-- a test of the side from each vertex, on the vertices from there on
abbrev pub at_each_side : (List Spot → Bool) → List Spot → Bool
at_each_side test vertices = list_all (λ place. test (round_from place vertices)) (range_with_len 0 (length vertices))

-- all further vertices lie left of the side from the first to the second, or all right of it
abbrev pub is_bent : List Spot → Bool
is_bent [] = false
is_bent (a ∷ []) = false
is_bent (a ∷ b ∷ others) = list_all (is_left_of a b) others || list_all (is_right_of a b) others

-- 3 to 64 vertices, and of each side's line all other vertices lie strictly on one side
abbrev pub convex : List Spot → Bool
convex vertices = nat_le 3 (length vertices) && nat_le (length vertices) 64 && at_each_side is_bent vertices

-- the spot lies strictly left of the side from the first of these vertices to the second
abbrev pub has_on_left : Spot → List Spot → Bool
has_on_left p [] = false
has_on_left p (a ∷ []) = false
has_on_left p (a ∷ b ∷ others) = is_left_of a b p

-- the spot lies strictly right of the side from the first of these vertices to the second
abbrev pub has_on_right : Spot → List Spot → Bool
has_on_right p [] = false
has_on_right p (a ∷ []) = false
has_on_right p (a ∷ b ∷ others) = is_right_of a b p

-- Inside, the border included: strictly left of no side, or strictly right of no side.
abbrev pub inside : List Spot → Spot → Bool
inside vertices p = at_each_side (λ side. not (has_on_left p side)) vertices || at_each_side (λ side. not (has_on_right p side)) vertices

-- each vertex is a spot: both its coordinates are within 10^12 thousandths of 0
abbrev pub are_spots : List Spot → Bool
are_spots vertices = list_all is_spot vertices
