-- The axis that a text NAME:LOW:HIGH:POINTS stands for.
use Rattle.std.specs.Prelude.{ℕ, ℤ, ◌==◌, if◌then◌else◌, List, [], ◌∷◌, Option, Some, None}
use Rattle.std.specs.List.{slice_split}
use Rattle.moos_text.specs.Numbers.{milli_of, whole_of}
use Rattle.ivp_domain.specs.declared.axis.Axis.{Axis}
use Rattle.ivp_domain.specs.AxisNames.{is_axis_name}

-- the fields of a text: it is cut at each `:`, and an empty text is one empty field
abbrev pub fields_of : List ℕ → List (List ℕ)
fields_of text = slice_split (λ byte. byte == 58) text

-- an axis by its name, its ends and its number of points, if its name is one of an axis and the three numbers can be read
abbrev pub axis_with : List ℕ → Option ℤ → Option ℤ → Option ℕ → Option Axis
axis_with name (Some low) (Some high) (Some points) =
    if is_axis_name name then Some (record { name = name; low = low; high = high; points = points }) else None
axis_with name None high points = None
axis_with name (Some low) None points = None
axis_with name (Some low) (Some high) None = None

-- the axis of four fields NAME:LOW:HIGH:POINTS
abbrev pub axis_from : List (List ℕ) → Option Axis
axis_from [] = None
axis_from (name ∷ []) = None
axis_from (name ∷ low ∷ []) = None
axis_from (name ∷ low ∷ high ∷ []) = None
axis_from (name ∷ low ∷ high ∷ points ∷ []) = axis_with name (milli_of low) (milli_of high) (whole_of points)
axis_from (name ∷ low ∷ high ∷ points ∷ more ∷ rest) = None
