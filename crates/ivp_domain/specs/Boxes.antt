-- Points, boxes of points, the common points of two boxes, and how many points a box has.
use Rattle.std.specs.Prelude.{ℕ, ◌+◌, ◌-◌, ◌*◌, zero, suc, max, min, Bool, ◌&&◌, nat_le, if◌then◌else◌, Option, Some, None, List, [], ◌∷◌, map, slice_index}
use Rattle.std.specs.List.{flat_map}
use Rattle.ivp_domain.specs.declared.boxes.Point.{Point}
use Rattle.ivp_domain.specs.declared.boxes.BoxN.{BoxN}

-- the point has a place of the box on this axis
abbrev pub has_place : ℕ → BoxN → Point → Bool
has_place axis area point =
    nat_le (slice_index area.low axis) (slice_index point.at axis) && nat_le (slice_index point.at axis) (slice_index area.high axis)

-- the box has the point
abbrev pub has_point : BoxN → Point → Bool
has_point area point = has_place 0 area point && has_place 1 area point && has_place 2 area point && has_place 3 area point

-- n whole numbers, from low on
abbrev pub numbers_from : ℕ → ℕ → List ℕ
numbers_from low zero = []
numbers_from low (suc n) = low ∷ numbers_from (suc low) n

-- how many places a box has on an axis
abbrev pub side_of : ℕ → BoxN → ℕ
side_of axis area = slice_index area.high axis + 1 - slice_index area.low axis

-- the places of a box on an axis, rising
abbrev pub places_on : ℕ → BoxN → List ℕ
places_on axis area = numbers_from (slice_index area.low axis) (side_of axis area)

-- the point at these four places
abbrev pub point_from : ℕ → ℕ → ℕ → ℕ → Point
point_from i j k l = record { at = i ∷ j ∷ k ∷ l ∷ [] }

-- all points of a box, the first axis outermost
abbrev pub points_in : BoxN → List Point
points_in area = flat_map (λ i. flat_map (λ j. flat_map (λ k. map (point_from i j k) (places_on 3 area)) (places_on 2 area)) (places_on 1 area)) (places_on 0 area)

-- the number of points of a box: the product of its sides
abbrev pub volume_of : BoxN → ℕ
volume_of area = side_of 0 area * side_of 1 area * side_of 2 area * side_of 3 area

-- low is at most high on each axis
abbrev pub is_box : BoxN → Bool
is_box area =
    nat_le (slice_index area.low 0) (slice_index area.high 0) && nat_le (slice_index area.low 1) (slice_index area.high 1)
    && nat_le (slice_index area.low 2) (slice_index area.high 2) && nat_le (slice_index area.low 3) (slice_index area.high 3)

-- from the greater low to the lesser high on each axis
abbrev pub common : BoxN → BoxN → BoxN
common a b =
    record {
      low =
          max (slice_index a.low 0) (slice_index b.low 0) ∷ max (slice_index a.low 1) (slice_index b.low 1)
          ∷ max (slice_index a.low 2) (slice_index b.low 2) ∷ max (slice_index a.low 3) (slice_index b.low 3) ∷ [];
      high =
          min (slice_index a.high 0) (slice_index b.high 0) ∷ min (slice_index a.high 1) (slice_index b.high 1)
          ∷ min (slice_index a.high 2) (slice_index b.high 2) ∷ min (slice_index a.high 3) (slice_index b.high 3) ∷ [];
    }

-- the box of the common points, if there are any
abbrev pub meet_of : BoxN → BoxN → Option BoxN
meet_of a b = if is_box (common a b) then Some (common a b) else None
