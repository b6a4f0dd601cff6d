-- A condition told from left to right, one symbol after the other: this serves the reader and `holds` alone.
use Rattle.std.specs.Prelude.{◌≡◌, ℕ, zero, suc, Bool, true, false, not, ◌&&◌, ◌||◌, nat_lt, if◌then◌else◌, List, [], ◌∷◌, length, Option, Some, None}
use Rattle.helm_cond.specs.declared.comparison.Comparison.{Comparison}
use Rattle.helm_cond.specs.declared.level.Level.{Level}
use Rattle.helm_cond.specs.declared.symbol.Symbol.{Symbol}
use Rattle.helm_cond.specs.declared.symbol.Symbol.TheVariants.{Open, Close, Not, And, Or, Test}

-- These symbols make a condition whole of which `depth` parentheses are open, and whose last symbol was an operand's (true) or
-- asks for one (false).
abbrev pub accepts : ℕ → Bool → List Symbol → Bool
accepts zero true [] = true
accepts (suc depth) true [] = false
accepts depth false [] = false
accepts depth false (Open ∷ symbols) = nat_lt depth 64 && accepts (suc depth) false symbols
accepts depth true (Open ∷ symbols) = false
accepts (suc depth) true (Close ∷ symbols) = accepts depth true symbols
accepts zero true (Close ∷ symbols) = false
accepts depth false (Close ∷ symbols) = false
accepts depth false (Not ∷ symbols) = accepts depth false symbols
accepts depth true (Not ∷ symbols) = false
accepts depth true (And ∷ symbols) = accepts depth false symbols
accepts depth false (And ∷ symbols) = false
accepts depth true (Or ∷ symbols) = accepts depth false symbols
accepts depth false (Or ∷ symbols) = false
accepts depth false (Test comparison ∷ symbols) = accepts depth true symbols
accepts depth true (Test comparison ∷ symbols) = false

-- a level of which nothing was read
abbrev pub fresh_level : Level
fresh_level = record { any = false; all = true; negated = false }

-- whether the level's condition holds, if it ends here
abbrev pub level_holds : Level → Bool
level_holds level = level.any || level.all

-- the level after an operand that holds or not
abbrev pub with_operand : Bool → Level → Level
with_operand holds level = record { any = level.any; all = level.all && (if level.negated then not holds else holds); negated = false }

-- the level after `not`
abbrev pub with_not : Level → Level
with_not level = record { any = level.any; all = level.all; negated = not level.negated }

-- the level after `or`
abbrev pub with_or : Level → Level
with_or level = record { any = level.any || level.all; all = true; negated = false }

-- whether the outermost level's condition holds, if only that one is open
abbrev pub whole_holds : List Level → Option Bool
whole_holds [] = None
whole_holds (level ∷ []) = Some (level_holds level)
whole_holds (level ∷ outer ∷ more) = None

-- The answer that comes of these symbols behind what was read of each level that is open, the innermost first; none
-- if they make no condition whole.
abbrev pub answer_of : (Comparison → Bool) → Bool → List Level → List Symbol → Option Bool
answer_of test true levels [] = whole_holds levels
answer_of test false levels [] = None
answer_of test false (level ∷ outer) (Open ∷ symbols) =
    if nat_lt (length outer) 64 then answer_of test false (fresh_level ∷ level ∷ outer) symbols else None
answer_of test false [] (Open ∷ symbols) = None
answer_of test true levels (Open ∷ symbols) = None
answer_of test true (level ∷ outer ∷ more) (Close ∷ symbols) =
    answer_of test true (with_operand (level_holds level) outer ∷ more) symbols
answer_of test true (level ∷ []) (Close ∷ symbols) = None
answer_of test true [] (Close ∷ symbols) = None
answer_of test false levels (Close ∷ symbols) = None
answer_of test false (level ∷ outer) (Not ∷ symbols) = answer_of test false (with_not level ∷ outer) symbols
answer_of test false [] (Not ∷ symbols) = None
answer_of test true levels (Not ∷ symbols) = None
answer_of test true (level ∷ outer) (And ∷ symbols) = answer_of test false (level ∷ outer) symbols
answer_of test true [] (And ∷ symbols) = None
answer_of test false levels (And ∷ symbols) = None
answer_of test true (level ∷ outer) (Or ∷ symbols) = answer_of test false (with_or level ∷ outer) symbols
answer_of test true [] (Or ∷ symbols) = None
answer_of test false levels (Or ∷ symbols) = None
answer_of test false (level ∷ outer) (Test comparison ∷ symbols) = answer_of test true (with_operand (test comparison) level ∷ outer) symbols
answer_of test false [] (Test comparison ∷ symbols) = None
answer_of test true levels (Test comparison ∷ symbols) = None

-- levels of which so much was read come to this answer with these symbols behind
pub record LeadsTo (test : Comparison → Bool) (open_levels : List Level) (symbols : List Symbol) (answer : Bool) : Type 0 where
  pub ready : Bool
  pub is : answer_of test ready open_levels symbols ≡ Some answer
