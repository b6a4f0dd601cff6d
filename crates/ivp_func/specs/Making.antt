-- What making a function answers.
use Rattle.std.specs.Prelude.{◌≡◌, ◌≢◌, ◌≤◌, ◌<◌, false, IsTrue, List, length, Result, Ok, Err}
use Rattle.ivp_domain.specs.declared.axis.Axis.{Axis}
use Rattle.ivp_domain.specs.Domains.{is_point}
use Rattle.ivp_func.specs.declared.piece.Piece.{Piece}
use Rattle.ivp_func.specs.declared.func.FuncFault.{FuncFault}
use Rattle.ivp_func.specs.declared.func.FuncFault.TheVariants.{TooMany, NotPartition, ValueOut, NoMemory}
use Rattle.ivp_func.specs.Pieces.{count_at, is_value, value_at}
use Rattle.ivp_func.specs.Functions.{Function, HasValues, IsPartition}

-- each answer says when it comes, so each comes exactly there: these cases exclude each other
abbrev pub MadeFunction : List Axis → List Piece → Result Function FuncFault → Type 0
MadeFunction axes pieces (Ok func) = (length pieces ≤ 4096) × IsPartition axes pieces × HasValues axes pieces × (func ≡ record { axes = axes; pieces = pieces })
MadeFunction axes pieces (Err TooMany) = 4096 < length pieces
MadeFunction axes pieces (Err (NotPartition point count)) = (length pieces ≤ 4096) × IsTrue (is_point axes point) × (count ≡ count_at pieces point) × (count ≢ 1)
MadeFunction axes pieces (Err (ValueOut point value)) = (length pieces ≤ 4096) × IsPartition axes pieces × IsTrue (is_point axes point) × (value ≡ value_at pieces point) × (is_value value ≡ false)
MadeFunction axes pieces (Err NoMemory) = (length pieces ≤ 4096) × IsPartition axes pieces × HasValues axes pieces
