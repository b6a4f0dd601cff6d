-- The grammar of conditions as a grammar is written, over symbols. `or` binds weakest, then `and`, then `not`:
--     condition   = conjunction | conjunction or condition
--     conjunction = operand | conjunction and operand
--     operand     = comparison | not operand | ( condition )
-- The number says how many parentheses may be one within another.
use Rattle.std.specs.Prelude.{ℕ, suc, List, [], ◌∷◌, ◌++◌}
use Rattle.helm_cond.specs.declared.comparison.Comparison.{Comparison}
use Rattle.helm_cond.specs.declared.symbol.Symbol.{Symbol}
use Rattle.helm_cond.specs.declared.symbol.Symbol.TheVariants.{Open, Close, Not as NotWord, And as AndWord, Or as OrWord, Test}
use Rattle.helm_cond.specs.Conditions.{Condition, Compare, Not, And, Or}

mutual
  -- the symbols spell an operand
  pub data SpellsOperand : ℕ → List Symbol → Condition → Type 0 where
    comparison : (depth : ℕ) (one : Comparison) → SpellsOperand depth (Test one ∷ []) (Compare one)
    negated : (depth : ℕ) (symbols : List Symbol) (one : Condition) → SpellsOperand depth symbols one → SpellsOperand depth (NotWord ∷ symbols) (Not one)
    enclosed : (depth : ℕ) (symbols : List Symbol) (one : Condition) → SpellsCondition depth symbols one → SpellsOperand (suc depth) (Open ∷ symbols ++ Close ∷ []) one

  -- the symbols spell operands that `and` joins, from the left
  pub data SpellsConjunction : ℕ → List Symbol → Condition → Type 0 where
    single : (depth : ℕ) (symbols : List Symbol) (one : Condition) → SpellsOperand depth symbols one → SpellsConjunction depth symbols one
    joined : (depth : ℕ) (before symbols : List Symbol) (one other : Condition) → SpellsConjunction depth before one → SpellsOperand depth symbols other → SpellsConjunction depth (before ++ AndWord ∷ symbols) (And one other)

  -- the symbols spell a condition: conjunctions that `or` joins
  pub data SpellsCondition : ℕ → List Symbol → Condition → Type 0 where
    alone : (depth : ℕ) (symbols : List Symbol) (one : Condition) → SpellsConjunction depth symbols one → SpellsCondition depth symbols one
    either : (depth : ℕ) (symbols behind : List Symbol) (one other : Condition) → SpellsConjunction depth symbols one → SpellsCondition depth behind other → SpellsCondition depth (symbols ++ OrWord ∷ behind) (Or one other)
