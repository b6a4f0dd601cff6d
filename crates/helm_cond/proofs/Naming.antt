-- Each variable of a condition that is read is a name.
use Rattle.std.proofs.Common.{◌≡◌, ℕ, Bool, true, false, ◌&&◌, cond, List, [], ◌∷◌, codes, Option, Some, None, option_map, refl}
use Rattle.std.specs.Prelude.{is_none, option_and_then, IfSome, IsTrue}
use Rattle.std.specs.List.{All}
use Rattle.std.specs.Str.{str_eq_ignore_ascii_case}
use Rattle.std.proofs.lemmas.Bool.{and_parts}
use Rattle.std.proofs.lemmas.List.Elements.{All-append, All-cons, All-head, All-nil, All-tail}
use Rattle.moos_post.specs.declared.value.Value.{Value}
use Rattle.moos_post.specs.Words.{is_name}
use Rattle.helm_cond.specs.declared.operator.Operator.{Operator}
use Rattle.helm_cond.specs.declared.symbol.Symbol.{Symbol}
use Rattle.helm_cond.specs.declared.symbol.Symbol.TheVariants.{Open, Close, Not as NotWord, And as AndWord, Or as OrWord, Test}
use Rattle.helm_cond.specs.Conditions.{Condition, Compare, HasNames, names_in}
use Rattle.helm_cond.specs.Grammar.{and_also, chain_condition, chain_of, compared, comparison_of, condition_of, condition_said, connective_of, grouped, is_shallow, joined, level_condition, levels_of, literal_of, negated_first, nested, onto_level, operator_of, outermost, symbols_of, tokens_of, with_symbol, AndItem, AndThen, Chain, Closing, Item, Last, Nesting, NotItem, Opening, Operand, OrElse, OrItem, Quoted, Sign, Token, Unclosed, Word}

-- one of two, by a test
some_of : {A : Type 0} (P : A → Type 0) (b : Bool) (one other : Option A) → (b ≡ true → IfSome one P) → IfSome other P → IfSome (cond b one other) P
some_of P true one other h g = h refl
some_of P false one other h g = g

-- a comparison's variable is a name
abbrev IsNamedSymbol : Symbol → Type 0
IsNamedSymbol Open = Unit {0}
IsNamedSymbol Close = Unit {0}
IsNamedSymbol NotWord = Unit {0}
IsNamedSymbol AndWord = Unit {0}
IsNamedSymbol OrWord = Unit {0}
IsNamedSymbol (Test comparison) = IsTrue (is_name comparison.var)

connective_named : (word : List ℕ) → IfSome (connective_of word) IsNamedSymbol
connective_named word =
    some_of IsNamedSymbol (str_eq_ignore_ascii_case word (codes "or")) (Some OrWord) (cond (str_eq_ignore_ascii_case word (codes "and")) (Some AndWord) (cond (str_eq_ignore_ascii_case word (codes "not")) (Some NotWord) None)) (λ _. tt)
    (some_of IsNamedSymbol (str_eq_ignore_ascii_case word (codes "and")) (Some AndWord) (cond (str_eq_ignore_ascii_case word (codes "not")) (Some NotWord) None) (λ _. tt)
    (some_of IsNamedSymbol (str_eq_ignore_ascii_case word (codes "not")) (Some NotWord) None (λ _. tt) tt))

comparison_named : (var sign : List ℕ) (literal : Token) → IfSome (comparison_of var sign literal) IsNamedSymbol
comparison_named var sign literal =
    some_of IsNamedSymbol (is_name var && is_none (connective_of var)) (compared var (operator_of sign) (literal_of literal)) None
    (λ good. by (and_parts (is_name var) (is_none (connective_of var)) good).0 (operator_of sign) (literal_of literal)) tt
  where
    by : is_name var ≡ true → (operator : Option Operator) (literal : Option Value) → IfSome (compared var operator literal) IsNamedSymbol
    by name (Some operator) (Some literal) = name
    by name (Some operator) None = tt
    by name None literal = tt

with_named : (symbol : Option Symbol) (symbols : Option (List Symbol)) → IfSome symbol IsNamedSymbol → IfSome symbols (All IsNamedSymbol) → IfSome (with_symbol symbol symbols) (All IsNamedSymbol)
with_named (Some symbol) (Some symbols) first rest = All-cons IsNamedSymbol symbol symbols first rest
with_named (Some symbol) None first rest = tt
with_named None symbols first rest = tt

symbols_named : (tokens : List Token) → IfSome (symbols_of tokens) (All IsNamedSymbol)
symbols_named [] = All-nil IsNamedSymbol
symbols_named (Opening ∷ tokens) = with_named (Some Open) (symbols_of tokens) tt (symbols_named tokens)
symbols_named (Closing ∷ tokens) = with_named (Some Close) (symbols_of tokens) tt (symbols_named tokens)
symbols_named (Word var ∷ Sign sign ∷ literal ∷ tokens) = with_named (comparison_of var sign literal) (symbols_of tokens) (comparison_named var sign literal) (symbols_named tokens)
symbols_named (Word word ∷ Sign sign ∷ []) = with_named (connective_of word) (symbols_of (Sign sign ∷ [])) (connective_named word) tt
symbols_named (Word word ∷ []) = with_named (connective_of word) (symbols_of []) (connective_named word) (symbols_named [])
symbols_named (Word word ∷ Opening ∷ tokens) = with_named (connective_of word) (symbols_of (Opening ∷ tokens)) (connective_named word) (symbols_named (Opening ∷ tokens))
symbols_named (Word word ∷ Closing ∷ tokens) = with_named (connective_of word) (symbols_of (Closing ∷ tokens)) (connective_named word) (symbols_named (Closing ∷ tokens))
symbols_named (Word word ∷ Quoted text ∷ tokens) = with_named (connective_of word) (symbols_of (Quoted text ∷ tokens)) (connective_named word) tt
symbols_named (Word word ∷ Unclosed ∷ tokens) = with_named (connective_of word) (symbols_of (Unclosed ∷ tokens)) (connective_named word) tt
symbols_named (Word word ∷ Word next ∷ tokens) = with_named (connective_of word) (symbols_of (Word next ∷ tokens)) (connective_named word) (symbols_named (Word next ∷ tokens))
symbols_named (Sign sign ∷ tokens) = tt
symbols_named (Quoted text ∷ tokens) = tt
symbols_named (Unclosed ∷ tokens) = tt

-- an operand's variables are names
abbrev IsNamedItem : Item → Type 0
IsNamedItem (Operand one) = IfSome one HasNames
IsNamedItem NotItem = Unit {0}
IsNamedItem AndItem = Unit {0}
IsNamedItem OrItem = Unit {0}

abbrev IsNamedChain : Chain → Type 0
IsNamedChain (Last one) = HasNames one
IsNamedChain (AndThen one rest) = HasNames one × IsNamedChain rest
IsNamedChain (OrElse one rest) = HasNames one × IsNamedChain rest

negated_named : (chain : Option Chain) → IfSome chain IsNamedChain → IfSome (option_map negated_first chain) IsNamedChain
negated_named None h = tt
negated_named (Some (Last one)) h = h
negated_named (Some (AndThen one rest)) h = h
negated_named (Some (OrElse one rest)) h = h

joined_and : (one : Option Condition) (rest : Option Chain) → IfSome one HasNames → IfSome rest IsNamedChain → IfSome (joined AndThen one rest) IsNamedChain
joined_and (Some one) (Some rest) h g = (h, g)
joined_and (Some one) None h g = tt
joined_and None rest h g = tt

joined_or : (one : Option Condition) (rest : Option Chain) → IfSome one HasNames → IfSome rest IsNamedChain → IfSome (joined OrElse one rest) IsNamedChain
joined_or (Some one) (Some rest) h g = (h, g)
joined_or (Some one) None h g = tt
joined_or None rest h g = tt

last_named : (one : Option Condition) → IfSome one HasNames → IfSome (option_map Last one) IsNamedChain
last_named None h = tt
last_named (Some one) h = h

chain_named : (items : List Item) → All IsNamedItem items → IfSome (chain_of items) IsNamedChain
chain_named [] h = tt
chain_named (NotItem ∷ items) h = negated_named (chain_of items) (chain_named items (All-tail IsNamedItem NotItem items h))
chain_named (Operand one ∷ []) h = last_named one (All-head IsNamedItem (Operand one) [] h)
chain_named (Operand one ∷ AndItem ∷ items) h =
    joined_and one (chain_of items) (All-head IsNamedItem (Operand one) (AndItem ∷ items) h) (chain_named items (All-tail IsNamedItem AndItem items (All-tail IsNamedItem (Operand one) (AndItem ∷ items) h)))
chain_named (Operand one ∷ OrItem ∷ items) h =
    joined_or one (chain_of items) (All-head IsNamedItem (Operand one) (OrItem ∷ items) h) (chain_named items (All-tail IsNamedItem OrItem items (All-tail IsNamedItem (Operand one) (OrItem ∷ items) h)))
chain_named (Operand one ∷ Operand other ∷ items) h = tt
chain_named (Operand one ∷ NotItem ∷ items) h = tt
chain_named (AndItem ∷ items) h = tt
chain_named (OrItem ∷ items) h = tt

abbrev is_word : List ℕ → Type 0
is_word name = IsTrue (is_name name)

and_also_named : (before : Option Condition) (one : Condition) → IfSome before HasNames → HasNames one → HasNames (and_also before one)
and_also_named None one h g = g
and_also_named (Some before) one h g = All-append is_word (names_in before) (names_in one) h g

condition_named : (before : Option Condition) (chain : Chain) → IfSome before HasNames → IsNamedChain chain → HasNames (chain_condition before chain)
condition_named before (Last one) h g = and_also_named before one h g
condition_named before (AndThen one rest) h g = condition_named (Some (and_also before one)) rest (and_also_named before one h g.0) g.1
condition_named before (OrElse one rest) h g =
    All-append is_word (names_in (and_also before one)) (names_in (chain_condition None rest)) (and_also_named before one h g.0) (condition_named None rest tt g.1)

level_named : (items : List Item) → All IsNamedItem items → IfSome (level_condition items) HasNames
level_named items h = by (chain_of items) (chain_named items h)
  where
    by : (chain : Option Chain) → IfSome chain IsNamedChain → IfSome (option_map (chain_condition None) chain) HasNames
    by None g = tt
    by (Some chain) g = condition_named None chain tt g

record IsNamedNesting (nesting : Nesting) : Type 0 where
  here : All IsNamedItem nesting.here
  around : All (All IsNamedItem) nesting.around

grouped_named : (here : List Item) (around : List (List Item)) → IsNamedNesting (nested here around) → IsNamedNesting (grouped here around)
grouped_named here [] h = record { here = All-cons IsNamedItem (Operand None) here tt h.here; around = All-nil (All IsNamedItem) }
grouped_named here (next ∷ more) h = record {
  here = All-cons IsNamedItem (Operand (level_condition here)) next (level_named here h.here) (All-head (All IsNamedItem) next more h.around);
  around = All-tail (All IsNamedItem) next more h.around;
}

onto_named : (item : Item) (behind : Nesting) → IsNamedItem item → IsNamedNesting behind → IsNamedNesting (onto_level item behind)
onto_named item behind is h = record { here = All-cons IsNamedItem item behind.here is h.here; around = h.around }

levels_named : (symbols : List Symbol) → All IsNamedSymbol symbols → IsNamedNesting (levels_of symbols)
levels_named [] h = record { here = All-nil IsNamedItem; around = All-nil (All IsNamedItem) }
levels_named (Open ∷ symbols) h = grouped_named (levels_of symbols).here (levels_of symbols).around (levels_named symbols (All-tail IsNamedSymbol Open symbols h))
levels_named (Close ∷ symbols) h =
    let behind = levels_named symbols (All-tail IsNamedSymbol Close symbols h) in
    record { here = All-nil IsNamedItem; around = All-cons (All IsNamedItem) (levels_of symbols).here (levels_of symbols).around behind.here behind.around }
levels_named (NotWord ∷ symbols) h = onto_named NotItem (levels_of symbols) tt (levels_named symbols (All-tail IsNamedSymbol NotWord symbols h))
levels_named (AndWord ∷ symbols) h = onto_named AndItem (levels_of symbols) tt (levels_named symbols (All-tail IsNamedSymbol AndWord symbols h))
levels_named (OrWord ∷ symbols) h = onto_named OrItem (levels_of symbols) tt (levels_named symbols (All-tail IsNamedSymbol OrWord symbols h))
levels_named (Test comparison ∷ symbols) h =
    onto_named (Operand (Some (Compare comparison))) (levels_of symbols)
    (All-cons is_word comparison.var [] (All-head IsNamedSymbol (Test comparison) symbols h) (All-nil is_word)) (levels_named symbols (All-tail IsNamedSymbol (Test comparison) symbols h))

outermost_named : (here : List Item) (around : List (List Item)) → All IsNamedItem here → IfSome (outermost here around) HasNames
outermost_named here [] h = level_named here h
outermost_named here (next ∷ more) h = tt

pub names_named : (bytes : List ℕ) → IfSome (condition_of bytes) HasNames
names_named bytes = by (symbols_of (tokens_of bytes)) (symbols_named (tokens_of bytes))
  where
    by : (symbols : Option (List Symbol)) → IfSome symbols (All IsNamedSymbol) → IfSome (option_and_then condition_said symbols) HasNames
    by None h = tt
    by (Some symbols) h =
        some_of HasNames (is_shallow 0 symbols) (outermost (levels_of symbols).here (levels_of symbols).around) None
        (λ _. outermost_named (levels_of symbols).here (levels_of symbols).around (levels_named symbols h).here) tt
