-- Which places of a domain a grid keeps: on an axis that every piece spans the first one alone, since all have the same pieces.
use Rattle.std.specs.Prelude.{ℕ, ◌==◌, min, Bool, ◌&&◌, if◌then◌else◌, List, [], ◌∷◌, length, slice_index}
use Rattle.std.specs.List.{list_all}
use Rattle.ivp_domain.specs.declared.axis.Axis.{Axis}
use Rattle.ivp_domain.specs.declared.boxes.BoxN.{BoxN}
use Rattle.ivp_func.specs.declared.piece.Piece.{Piece}
use Rattle.ivp_func.specs.Cuts.{axes_to}
use Rattle.ivp_func.specs.Grids.{last_on}

-- the piece has all places of this axis, up to the last one
abbrev pub spans : ℕ → ℕ → Piece → Bool
spans axis last piece = slice_index piece.area.low axis == 0 && slice_index piece.area.high axis == last

-- the last place that is kept of this axis
abbrev pub kept_to : ℕ → ℕ → List Piece → ℕ
kept_to axis last pieces = if list_all (spans axis last) pieces then 0 else last

-- the last places that are kept
abbrev pub kept_places : List Axis → List Piece → List ℕ
kept_places axes pieces = kept_to 0 (last_on 0 axes) pieces ∷ kept_to 1 (last_on 1 axes) pieces ∷ kept_to 2 (last_on 2 axes) pieces ∷ kept_to 3 (last_on 3 axes) pieces ∷ []

-- as many axes, with the places that are kept
abbrev pub kept_axes : List Axis → List Piece → List Axis
kept_axes axes pieces = axes_to (length axes) (kept_places axes pieces)

-- the area, if each place past the last one of its axis is that last one
abbrev pub clipped : List Axis → BoxN → BoxN
clipped axes area =
    record {
      low =
          min (slice_index area.low 0) (last_on 0 axes) ∷ min (slice_index area.low 1) (last_on 1 axes)
          ∷ min (slice_index area.low 2) (last_on 2 axes) ∷ min (slice_index area.low 3) (last_on 3 axes) ∷ [];
      high =
          min (slice_index area.high 0) (last_on 0 axes) ∷ min (slice_index area.high 1) (last_on 1 axes)
          ∷ min (slice_index area.high 2) (last_on 2 axes) ∷ min (slice_index area.high 3) (last_on 3 axes) ∷ [];
    }
