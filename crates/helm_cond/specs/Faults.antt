-- What the fault of a condition's part is as the condition's own.
use Rattle.moos_post.specs.declared.name.NameFault.{NameFault}
use Rattle.moos_post.specs.declared.name.NameFault.TheVariants.{BadName, NoMemory as NoMemoryForName}
use Rattle.moos_text.specs.declared.pair.PairFault.{PairFault}
use Rattle.moos_text.specs.declared.pair.PairFault.TheVariants.{NoEquals, BadName as BadVariable, BadValue, TooLong, NoMemory as NoMemoryForValue}
use Rattle.helm_cond.specs.declared.fault.CondFault.{CondFault}
use Rattle.helm_cond.specs.declared.fault.CondFault.TheVariants.{BadCondition, NoMemory}

-- why a condition is refused, by the fault of a name
abbrev pub of_name : NameFault → CondFault
of_name BadName = BadCondition
of_name NoMemoryForName = NoMemory

-- why a condition is refused, by the fault of a value
abbrev pub of_value : PairFault → CondFault
of_value NoEquals = BadCondition
of_value BadVariable = BadCondition
of_value BadValue = BadCondition
of_value TooLong = BadCondition
of_value NoMemoryForValue = NoMemory
