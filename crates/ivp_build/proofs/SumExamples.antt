-- The sum of two functions on small domains.
use Rattle.std.proofs.Common.{◌≡◌, ℕ, true, false, ℤ, pos, neg_ℤ, Bool, ◌&&◌, List, [], ◌∷◌, map, refl}
use Rattle.std.specs.Prelude.{codes}
use Rattle.std.specs.List.{list_all}
use Rattle.std.specs.Ordering.{int_eq}
use Rattle.ivp_domain.specs.declared.axis.Axis.{Axis}
use Rattle.ivp_domain.specs.declared.boxes.BoxN.{BoxN}
use Rattle.ivp_domain.specs.Domains.{points_of}
use Rattle.ivp_func.specs.declared.piece.Piece.{Piece}
use Rattle.ivp_func.specs.Functions.{has_values, is_partition}
use Rattle.ivp_func.specs.Pieces.{are_pieces_of, value_at}
use Rattle.ivp_build.specs.Sums.{couple_at, couple_pieces, slope_apart}

-- four places and three
abbrev axes : List Axis
axes = record { name = codes "a"; low = pos 0; high = pos 3; points = 4 } ∷ record { name = codes "b"; low = pos 0; high = pos 2; points = 3 } ∷ []

abbrev area : ℕ → ℕ → ℕ → ℕ → BoxN
area low high low_too high_too = record { low = low ∷ low_too ∷ 0 ∷ 0 ∷ []; high = high ∷ high_too ∷ 0 ∷ 0 ∷ [] }

abbrev piece : BoxN → ℤ → ℤ → ℤ → Piece
piece area base slope slope_too = record { area = area; base = base; slope = slope ∷ slope_too ∷ pos 0 ∷ pos 0 ∷ [] }

-- one function along the first axis, and one along the second
abbrev first : List Piece
first = piece (area 0 1 0 2) (pos 10) (pos 5) (pos 0) ∷ piece (area 2 3 0 2) (pos 40) (neg_ℤ (pos 8)) (pos 0) ∷ []

abbrev second : List Piece
second = piece (area 0 3 0 0) (pos 7) (pos 0) (pos 0) ∷ piece (area 0 3 1 2) (pos 1) (pos 0) (pos 3) ∷ []

-- each pair meets: in the first one's order, and then in the second's
sums : couple_pieces first second ≡
    piece (area 0 1 0 0) (pos 17) (pos 5) (pos 0) ∷ piece (area 0 1 1 2) (pos 11) (pos 5) (pos 3)
    ∷ piece (area 2 3 0 0) (pos 47) (neg_ℤ (pos 8)) (pos 0) ∷ piece (area 2 3 1 2) (pos 41) (neg_ℤ (pos 8)) (pos 3) ∷ []
sums = refl

-- pieces that have no point in common have no sum
overlaps : map (λ (piece : Piece). piece.area) (couple_pieces (piece (area 0 1 0 2) (pos 0) (pos 0) (pos 0) ∷ piece (area 2 3 0 2) (pos 0) (pos 0) (pos 0) ∷ []) (piece (area 0 2 0 2) (pos 0) (pos 0) (pos 0) ∷ piece (area 3 3 0 2) (pos 0) (pos 0) (pos 0) ∷ []))
    ≡ area 0 1 0 2 ∷ area 2 2 0 2 ∷ area 3 3 0 2 ∷ []
overlaps = refl

-- the sums partition the domain, and have the sum of the values at each point
abbrev is_sum : List Piece → List Piece → Bool
is_sum ps qs =
    is_partition axes (couple_pieces ps qs) && has_values axes (couple_pieces ps qs) && are_pieces_of axes (couple_pieces ps qs)
    && list_all (λ point. int_eq (value_at (couple_pieces ps qs) point) (couple_at (value_at ps) (value_at qs) point)) (points_of axes)

summed : (is_sum first second ≡ true) × (is_sum second first ≡ true)
summed = (refl, refl)

-- slopes on different axes, and on the same one
sides : (slope_apart first second ≡ true) × (slope_apart first first ≡ false)
sides = (refl, refl)
