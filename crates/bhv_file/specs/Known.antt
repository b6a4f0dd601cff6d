-- What a behaviour reads of what the helm knows.
use Rattle.std.specs.Prelude.{ℕ, ℤ, List, codes, Option, Some, None, option_and_then}
use Rattle.moos_post.specs.declared.value.Value.{Value}
use Rattle.moos_post.specs.declared.value.Value.TheVariants.{Num, Text}
use Rattle.helm_cond.specs.Learnt.{Knowledge}
use Rattle.helm_geo.specs.declared.spot.Spot.{Spot}
use Rattle.bhv_file.specs.Values.{spot_of_numbers}

-- the number that a value is
abbrev pub as_number : Value → Option ℤ
as_number (Num number) = Some number
as_number (Text text) = None

-- the latest value of a variable, if it is a number; it counts however long ago it was mailed
abbrev pub latest_number : Knowledge → List ℕ → Option ℤ
latest_number known var = option_and_then as_number (known var)

-- the own position by the latest values, however old, if both are numbers
abbrev pub position_of : Knowledge → Option Spot
position_of known = spot_of_numbers (latest_number known (codes "NAV_X")) (latest_number known (codes "NAV_Y"))
