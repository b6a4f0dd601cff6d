-- Builders: the pieces of each shape. A piece has the slope of its zone and side, and its base fits its low end.
use Rattle.std.specs.Prelude.{ℕ, suc, ◌==◌, ℤ, pos, ◌-ℤ◌, ◌*ℤ◌, Bool, ◌&&◌, not, List, [], ◌∷◌, map, slice_set}
use Rattle.std.specs.Prelude.{if◌then◌else◌}
use Rattle.ivp_domain.specs.declared.axis.Axis.{Axis}
use Rattle.ivp_domain.specs.Domains.{size_on, whole}
use Rattle.ivp_func.specs.declared.piece.Piece.{Piece}
use Rattle.ivp_build.specs.declared.shape.Peak.{Peak}
use Rattle.ivp_build.specs.declared.profile.Profile.{Profile}
use Rattle.ivp_build.specs.Cuts.{Run, band, cuts_of}
use Rattle.ivp_build.specs.Places.{axis_on}
use Rattle.ivp_build.specs.Shapes.{at_least_profile, at_most_profile, is_right, is_summit, peak_profile, change_at, utility_along, zone_at}

-- no slope on any axis
abbrev pub level : List ℤ
level = pos 0 ∷ pos 0 ∷ pos 0 ∷ pos 0 ∷ []

-- the one piece that has this value everywhere
abbrev pub flat_pieces : List Axis → ℤ → List Piece
flat_pieces axes value = record { area = whole axes; base = value; slope = level } ∷ []

-- the side of a place as a number: 1 right, 0 left
abbrev pub side_at : Profile → ℕ → ℕ
side_at profile place = if is_right profile.crest place then 1 else 0

-- the next place is of the same cut: of the same side and zone, and no summit
abbrev pub goes_on : Profile → ℕ → Bool
goes_on profile place =
    side_at profile place == side_at profile (suc place) && zone_at profile place == zone_at profile (suc place) && not (is_summit profile.crest (suc place))

-- the piece of a shape over a run of the axis of this number
abbrev pub piece_over : List Axis → ℕ → Profile → Run → Piece
piece_over axes number profile run =
    record {
      area = band axes number run;
      base = pos (utility_along profile run.low) -ℤ change_at profile run.low *ℤ pos run.low;
      slope = slice_set level number (change_at profile run.low);
    }

-- the pieces of a shape along the axis of this number: one for each cut, rising
abbrev pub pieces_along : List Axis → ℕ → Profile → List Piece
pieces_along axes number profile = map (piece_over axes number profile) (cuts_of (goes_on profile) (size_on number axes))

-- the pieces of a peak along the axis of this number
abbrev pub peak_pieces : List Axis → ℕ → Peak → List Piece
peak_pieces axes number peak = pieces_along axes number (peak_profile (axis_on axes number) peak)

-- the pieces of an upper limit
abbrev pub at_most_pieces : List Axis → ℕ → ℤ → ℕ → ℕ → List Piece
at_most_pieces axes number limit basewidth max = pieces_along axes number (at_most_profile (axis_on axes number) limit basewidth max)

-- the pieces of a lower limit
abbrev pub at_least_pieces : List Axis → ℕ → ℤ → ℕ → ℕ → List Piece
at_least_pieces axes number limit basewidth max = pieces_along axes number (at_least_profile (axis_on axes number) limit basewidth max)
