-- What the ranges of parameters say of lists of places.
use Rattle.std.proofs.Common.{◌≡◌, ◌≤◌, Bool, true, false, ◌&&◌, ◌||◌, List, length, refl}
use Rattle.std.proofs.lemmas.Bool.{and_parts, leb-true}
use Rattle.std.specs.Prelude.{nat_le}
use Rattle.helm_geo.specs.declared.spot.Spot.{Spot}
use Rattle.helm_geo.specs.Polygons.{are_spots, at_each_side, convex, is_bent}
use Rattle.bhv_file.specs.Ranges.{are_places, are_vertices}

-- points that are given are spots, and not too many
pub places_are : (spots : List Spot) → are_places true spots ≡ true → (are_spots spots ≡ true) × (length spots ≤ 64)
places_are spots given =
    let parts = and_parts ((nat_le 1 (length spots) || false) && nat_le (length spots) 64) (are_spots spots) given in
    let few = and_parts (nat_le 1 (length spots) || false) (nat_le (length spots) 64) parts.0 in
    (parts.1, leb-true (length spots) 64 few.1)

-- and so are the vertices of a polygon
pub vertices_are : (spots : List Spot) → are_vertices true spots ≡ true → (are_spots spots ≡ true) × (length spots ≤ 64)
vertices_are spots given =
    let parts = and_parts (convex spots || false) (are_spots spots) given in
    (parts.1, few (convex spots) refl parts.0)
  where
    few : (b : Bool) → convex spots ≡ b → (b || false) ≡ true → length spots ≤ 64
    few true is some =
        let sides = and_parts (nat_le 3 (length spots) && nat_le (length spots) 64) (at_each_side is_bent spots) is in
        leb-true (length spots) 64 (and_parts (nat_le 3 (length spots)) (nat_le (length spots) 64) sides.0).1
    few false is some = absurd cc
