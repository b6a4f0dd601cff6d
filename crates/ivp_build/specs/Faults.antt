-- When a builder tells of too many pieces.
use Rattle.std.specs.Prelude.{ℕ, ◌<◌}
use Rattle.ivp_build.specs.declared.fault.BuildFault.{BuildFault}
use Rattle.ivp_build.specs.declared.fault.BuildFault.TheVariants.{TooMany, NoMemory}

-- too many pieces are told of only if there are more than 4,096
abbrev pub IsTooMany : ℕ → BuildFault → Type 0
IsTooMany count TooMany = 4096 < count
IsTooMany count NoMemory = Unit {0}
