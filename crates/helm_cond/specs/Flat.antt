-- The symbols of a condition without their nesting: this serves `variables` and `parent` alone.
use Rattle.std.specs.Prelude.{ℕ, Bool, true, false, if◌then◌else◌, List, [], ◌∷◌, Option, Some, None}
use Rattle.helm_cond.specs.declared.comparison.Comparison.{Comparison}
use Rattle.helm_cond.specs.declared.symbol.Symbol.{Symbol}
use Rattle.helm_cond.specs.declared.symbol.Symbol.TheVariants.{Open, Close, Not, And, Or, Test}

-- the names in the comparisons among symbols
abbrev pub names_among : List Symbol → List (List ℕ)
names_among [] = []
names_among (Open ∷ symbols) = names_among symbols
names_among (Close ∷ symbols) = names_among symbols
names_among (Not ∷ symbols) = names_among symbols
names_among (And ∷ symbols) = names_among symbols
names_among (Or ∷ symbols) = names_among symbols
names_among (Test comparison ∷ symbols) = comparison.var ∷ names_among symbols

-- symbols without the parentheses among them
abbrev pub bare : List Symbol → List Symbol
bare [] = []
bare (Open ∷ symbols) = bare symbols
bare (Close ∷ symbols) = bare symbols
bare (Not ∷ symbols) = Not ∷ bare symbols
bare (And ∷ symbols) = And ∷ bare symbols
bare (Or ∷ symbols) = Or ∷ bare symbols
bare (Test comparison ∷ symbols) = Test comparison ∷ bare symbols

-- the comparison that is the only symbol
abbrev pub only_test : List Symbol → Option Comparison
only_test [] = None
only_test (Test comparison ∷ []) = Some comparison
only_test (Test comparison ∷ symbol ∷ symbols) = None
only_test (Open ∷ symbols) = None
only_test (Close ∷ symbols) = None
only_test (Not ∷ symbols) = None
only_test (And ∷ symbols) = None
only_test (Or ∷ symbols) = None

-- the symbol is a parenthesis
abbrev pub is_parenthesis : Symbol → Bool
is_parenthesis Open = true
is_parenthesis Close = true
is_parenthesis Not = false
is_parenthesis And = false
is_parenthesis Or = false
is_parenthesis (Test comparison) = false

-- the symbols from the first on that is no parenthesis
abbrev pub behind_parentheses : List Symbol → List Symbol
behind_parentheses [] = []
behind_parentheses (symbol ∷ symbols) = if is_parenthesis symbol then behind_parentheses symbols else symbol ∷ symbols
