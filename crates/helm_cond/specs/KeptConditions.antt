-- How a condition is kept: its symbols in reading order, and the names in its comparisons.
use Rattle.std.specs.Prelude.{◌≡◌, ℕ, ◌<◌, ◌^◌, true, List, [], length, is_some, unwrap_or}
use Rattle.moos_post.specs.declared.value.Value.TheVariants.{Text}
use Rattle.helm_cond.specs.declared.operator.Operator.TheVariants.{Equal}
use Rattle.helm_cond.specs.declared.symbol.Symbol.{Symbol}
use Rattle.helm_cond.specs.Conditions.{Condition, Compare}
use Rattle.helm_cond.specs.Flat.{names_among}
use Rattle.helm_cond.specs.Grammar.{condition_said}

-- what stands for the condition of symbols that say none; it never comes
abbrev pub no_condition : Condition
no_condition = Compare (record { var = []; operator = Equal; literal = Text [] })

-- the condition of symbols that say one
abbrev pub condition_in : List Symbol → Condition
condition_in symbols = unwrap_or (condition_said symbols) no_condition

-- symbols that say a condition, and the names in it, fewer than 2^32
pub record IsKeptCondition (symbols : List Symbol) (names : List (List ℕ)) : Type 0 where
  pub said : is_some (condition_said symbols) ≡ true
  pub vars : names ≡ names_among symbols
  pub few : length names < 2 ^ 32
