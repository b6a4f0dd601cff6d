-- The piece that the words of its line spell: low and high on each axis, the base, and a slope on each axis.
use Rattle.std.specs.Prelude.{ℕ, ◌^◌, ℤ, pos, Bool, true, false, ◌&&◌, ◌||◌, int_le, slice_index_or, nat_lt, List, [], ◌∷◌, ◌==◌, if◌then◌else◌, length, Option, Some, None, option_map, option_and_then}
use Rattle.ivp_domain.specs.declared.boxes.BoxN.{BoxN}
use Rattle.ivp_func.specs.declared.piece.Piece.{Piece}
use Rattle.ivp_func.specs.Pieces.{is_slope}
use Rattle.ivp_cert.specs.Words.{integer_of, place_of}

-- low and high on an axis, and the words behind them
pub record Range : Type 0 where
  pub low : ℕ
  pub high : ℕ
  pub rest : List (List ℕ)

-- the range of these two places, if both are good
abbrev pub range_with : Option ℕ → Option ℕ → List (List ℕ) → Option Range
range_with (Some low) (Some high) rest = Some (record { low = low; high = high; rest = rest })
range_with None high rest = None
range_with (Some low) None rest = None

-- two words give low and high on an axis that is there; on one that isn't, the one place is 0 and no word is read
abbrev pub range_of : Bool → List (List ℕ) → Option Range
range_of false words = Some (record { low = 0; high = 0; rest = words })
range_of true [] = None
range_of true (low ∷ []) = None
range_of true (low ∷ high ∷ rest) = range_with (place_of low) (place_of high) rest

-- the box of these ranges
abbrev pub box_with : Range → Range → Range → Range → BoxN
box_with one two three four =
    record { low = one.low ∷ two.low ∷ three.low ∷ four.low ∷ []; high = one.high ∷ two.high ∷ three.high ∷ four.high ∷ [] }

-- a slope along an axis, and the words behind it
pub record Slope : Type 0 where
  pub slope : ℤ
  pub rest : List (List ℕ)

-- one word gives the slope along an axis that is there; along one that isn't, it is 0 and no word is read
abbrev pub slope_of : Bool → List (List ℕ) → Option Slope
slope_of false words = Some (record { slope = pos 0; rest = words })
slope_of true [] = None
slope_of true (word ∷ rest) = option_map (λ slope. record { slope = slope; rest = rest }) (integer_of 100000 word)

-- a slope within its bounds along an axis that is there, and 0 along one that isn't
abbrev pub is_slope_where : Bool → ℤ → Bool
is_slope_where present slope = is_slope slope && (present || (int_le (pos 0) slope && int_le slope (pos 0)))

-- the slopes on all four axes are within their bounds, and 0 along each axis behind the first `axes`
abbrev pub are_slopes : ℕ → List ℤ → Bool
are_slopes axes slopes =
    is_slope_where (nat_lt 0 axes) (slice_index_or slopes 0 (pos 0)) && is_slope_where (nat_lt 1 axes) (slice_index_or slopes 1 (pos 0))
    && is_slope_where (nat_lt 2 axes) (slice_index_or slopes 2 (pos 0)) && is_slope_where (nat_lt 3 axes) (slice_index_or slopes 3 (pos 0))

-- the slopes along all four axes, if no word is left
abbrev pub slopes_with : Slope → Slope → Slope → Slope → Option (List ℤ)
slopes_with one two three four = if length four.rest == 0 then Some (one.slope ∷ two.slope ∷ three.slope ∷ four.slope ∷ []) else None

-- the slopes along `axes` axes that the words spell, read from the last line up
abbrev pub slopes_of : ℕ → List (List ℕ) → Option (List ℤ)
slopes_of axes words =
    option_and_then (λ one.
    option_and_then (λ two.
    option_and_then (λ three.
    option_and_then (λ four. slopes_with one two three four)
    (slope_of (nat_lt 3 axes) three.rest))
    (slope_of (nat_lt 2 axes) two.rest))
    (slope_of (nat_lt 1 axes) one.rest))
    (slope_of (nat_lt 0 axes) words)

-- a piece on this box, with the words of its base and its slopes
abbrev pub sloped : ℕ → BoxN → List (List ℕ) → Option Piece
sloped axes area [] = None
sloped axes area (word ∷ rest) =
    option_and_then (λ base. option_map (λ slope. record { area = area; base = base; slope = slope }) (slopes_of axes rest)) (integer_of (10 ^ 14) word)

-- the piece over `axes` axes that the words spell; the ranges on its axes are read from the last line up
abbrev pub piece_of : ℕ → List (List ℕ) → Option Piece
piece_of axes words =
    option_and_then (λ one.
    option_and_then (λ two.
    option_and_then (λ three.
    option_and_then (λ four. sloped axes (box_with one two three four) four.rest)
    (range_of (nat_lt 3 axes) three.rest))
    (range_of (nat_lt 2 axes) two.rest))
    (range_of (nat_lt 1 axes) one.rest))
    (range_of (nat_lt 0 axes) words)
