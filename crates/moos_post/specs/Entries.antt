-- What the types of a history's parts let them be: values, pairs, registrations, calls and entries.
use Rattle.std.specs.Prelude.{◌^◌, ◌<◌, IsTrue, length}
use Rattle.std.specs.List.{All}
use Rattle.moos_post.specs.declared.entry.Call.{Call}
use Rattle.moos_post.specs.declared.entry.Call.TheVariants.{Register, Unregister, Post as Posts, Fetch}
use Rattle.moos_post.specs.declared.entry.Entry.{Entry}
use Rattle.moos_post.specs.declared.registration.Reg.{Reg}
use Rattle.moos_post.specs.declared.value.Pair.{Pair}
use Rattle.moos_post.specs.declared.value.Value.{Value}
use Rattle.moos_post.specs.declared.value.Value.TheVariants.{Num, Text}
use Rattle.moos_post.specs.Words.{is_name, is_pattern, is_text, IsMilli}

-- a number of thousandths within the bounds of a value, or bytes that a text can hold
abbrev pub IsValue : Value → Type 0
IsValue (Num number) = IsMilli number
IsValue (Text text) = IsTrue (is_text text)

-- a name, and what may be said of it
pub record IsPair (pair : Pair) : Type 0 where
  pub var : IsTrue (is_name pair.var)
  pub value : IsValue pair.value

-- two patterns, and an interval of 64 bits
pub record IsReg (reg : Reg) : Type 0 where
  pub var : IsTrue (is_pattern reg.var)
  pub source : IsTrue (is_pattern reg.source)
  pub interval : reg.interval < 2 ^ 64

-- what the parts of a call are: registrations, two patterns, or pairs, whose number has 64 bits
abbrev pub IsCall : Call → Type 0
IsCall (Register regs) = All IsReg regs
IsCall (Unregister var source) = IsTrue (is_pattern var) × IsTrue (is_pattern source)
IsCall (Posts batch) = (length batch < 2 ^ 64) × All IsPair batch
IsCall Fetch = Unit {0}

-- a stamp of 64 bits, and a call
pub record IsEntry (entry : Entry) : Type 0 where
  pub stamp : entry.stamp < 2 ^ 64
  pub call : IsCall entry.call
