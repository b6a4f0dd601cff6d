-- The comparisons of a condition stand in it as its symbols have them from left to right.
use Rattle.std.proofs.Common.{◌≡◌, ◌-◌, ◌<◌, ◌≤◌, Bool, true, false, List, [], ◌∷◌, ◌++◌, Option, Some, None, option_map, refl, ap, sym, subst, ◌∙◌, append_assoc, append-nil, length, take, drop, get_or, arith}
use Rattle.std.proofs.lemmas.List.{take_all}
use Rattle.std.specs.Prelude.{if◌then◌else◌, IfSome, option_and_then}
use Rattle.helm_cond.specs.declared.comparison.Comparison.{Comparison}
use Rattle.helm_cond.specs.declared.symbol.Symbol.{Symbol}
use Rattle.helm_cond.specs.declared.symbol.Symbol.TheVariants.{Open, Close, Not as NotWord, And as AndWord, Or as OrWord, Test}
use Rattle.helm_cond.specs.Conditions.{Condition, Compare, Not, And, Or, mode_named, parent_of, names_in}
use Rattle.helm_cond.specs.Flat.{names_among, bare, is_parenthesis, behind_parentheses, only_test}
use Rattle.helm_cond.specs.Grammar.{Item, Operand, NotItem, AndItem, OrItem, Chain, Last, AndThen, OrElse, negated_first, chain_of, and_also, chain_condition, level_condition, grouped, levels_of, is_shallow, outermost, condition_said}

-- a condition's symbols without parentheses
abbrev flat : Condition → List Symbol
flat (Compare comparison) = Test comparison ∷ []
flat (Not one) = NotWord ∷ flat one
flat (And one other) = flat one ++ AndWord ∷ flat other
flat (Or one other) = flat one ++ OrWord ∷ flat other

-- and those of a chain, of what stands before an `and`, of a level's items, and of levels
abbrev flat_chain : Chain → List Symbol
flat_chain (Last one) = flat one
flat_chain (AndThen one rest) = flat one ++ AndWord ∷ flat_chain rest
flat_chain (OrElse one rest) = flat one ++ OrWord ∷ flat_chain rest

abbrev flat_before : Option Condition → List Symbol
flat_before None = []
flat_before (Some before) = flat before ++ AndWord ∷ []

abbrev flat_items : List Item → Option (List Symbol)
flat_items [] = Some []
flat_items (Operand None ∷ items) = None
flat_items (Operand (Some one) ∷ items) = option_map (λ more. flat one ++ more) (flat_items items)
flat_items (NotItem ∷ items) = option_map (λ more. NotWord ∷ more) (flat_items items)
flat_items (AndItem ∷ items) = option_map (λ more. AndWord ∷ more) (flat_items items)
flat_items (OrItem ∷ items) = option_map (λ more. OrWord ∷ more) (flat_items items)

abbrev appended : Option (List Symbol) → Option (List Symbol) → Option (List Symbol)
appended None more = None
appended (Some front) more = option_map (λ back. front ++ back) more

abbrev flat_levels : List Item → List (List Item) → Option (List Symbol)
flat_levels here [] = flat_items here
flat_levels here (next ∷ more) = appended (flat_items here) (flat_levels next more)

also_flat : (before : Option Condition) (one : Condition) → flat (and_also before one) ≡ flat_before before ++ flat one
also_flat None one = refl
also_flat (Some before) one = sym (append_assoc (flat before) (AndWord ∷ []) (flat one))

chain_flat : (chain : Chain) (before : Option Condition) → flat (chain_condition before chain) ≡ flat_before before ++ flat_chain chain
chain_flat (Last one) before = also_flat before one
chain_flat (AndThen one rest) before =
    chain_flat rest (Some (and_also before one))
    ∙ ap (λ front. (front ++ AndWord ∷ []) ++ flat_chain rest) (also_flat before one)
    ∙ append_assoc (flat_before before ++ flat one) (AndWord ∷ []) (flat_chain rest)
    ∙ append_assoc (flat_before before) (flat one) (AndWord ∷ flat_chain rest)
chain_flat (OrElse one rest) before =
    ap (λ front. front ++ OrWord ∷ flat (chain_condition None rest)) (also_flat before one)
    ∙ ap (λ back. (flat_before before ++ flat one) ++ OrWord ∷ back) (chain_flat rest None)
    ∙ append_assoc (flat_before before) (flat one) (OrWord ∷ flat_chain rest)

negated_flat : (chain : Chain) → flat_chain (negated_first chain) ≡ NotWord ∷ flat_chain chain
negated_flat (Last one) = refl
negated_flat (AndThen one rest) = refl
negated_flat (OrElse one rest) = refl

items_flat : (items : List Item) → IfSome (chain_of items) (λ chain. flat_items items ≡ Some (flat_chain chain))
items_flat [] = tt
items_flat (NotItem ∷ items) = by (chain_of items) (items_flat items)
  where
    by : (found : Option Chain) → IfSome found (λ chain. flat_items items ≡ Some (flat_chain chain)) →
        IfSome (option_map negated_first found) (λ chain. option_map (λ more. NotWord ∷ more) (flat_items items) ≡ Some (flat_chain chain))
    by None rest = tt
    by (Some chain) rest = ap (option_map (λ more. NotWord ∷ more)) rest ∙ ap Some (sym (negated_flat chain))
items_flat (AndItem ∷ items) = tt
items_flat (OrItem ∷ items) = tt
items_flat (Operand None ∷ []) = tt
items_flat (Operand None ∷ NotItem ∷ items) = tt
items_flat (Operand None ∷ AndItem ∷ items) = tt
items_flat (Operand None ∷ OrItem ∷ items) = tt
items_flat (Operand None ∷ Operand other ∷ items) = tt
items_flat (Operand (Some one) ∷ []) = ap Some (append-nil (flat one))
items_flat (Operand (Some one) ∷ NotItem ∷ items) = tt
items_flat (Operand (Some one) ∷ Operand other ∷ items) = tt
items_flat (Operand (Some one) ∷ AndItem ∷ items) = by (chain_of items) (items_flat items)
  where
    by : (found : Option Chain) → IfSome found (λ chain. flat_items items ≡ Some (flat_chain chain)) →
        IfSome (option_map (AndThen one) found) (λ chain. option_map (λ more. flat one ++ more) (option_map (λ more. AndWord ∷ more) (flat_items items)) ≡ Some (flat_chain chain))
    by None rest = tt
    by (Some chain) rest = ap (λ found. option_map (λ more. flat one ++ more) (option_map (λ more. AndWord ∷ more) found)) rest
items_flat (Operand (Some one) ∷ OrItem ∷ items) = by (chain_of items) (items_flat items)
  where
    by : (found : Option Chain) → IfSome found (λ chain. flat_items items ≡ Some (flat_chain chain)) →
        IfSome (option_map (OrElse one) found) (λ chain. option_map (λ more. flat one ++ more) (option_map (λ more. OrWord ∷ more) (flat_items items)) ≡ Some (flat_chain chain))
    by None rest = tt
    by (Some chain) rest = ap (λ found. option_map (λ more. flat one ++ more) (option_map (λ more. OrWord ∷ more) found)) rest

level_flat : (items : List Item) → IfSome (level_condition items) (λ one. flat_items items ≡ Some (flat one))
level_flat items = by (chain_of items) (items_flat items)
  where
    by : (found : Option Chain) → IfSome found (λ chain. flat_items items ≡ Some (flat_chain chain)) →
        IfSome (option_map (chain_condition None) found) (λ one. flat_items items ≡ Some (flat one))
    by None rest = tt
    by (Some chain) rest = rest ∙ ap Some (sym (chain_flat chain None))

-- what stands first at the innermost level stands first in all
onto_flat : (symbol : Symbol) (item : Item) → ((items : List Item) → flat_items (item ∷ items) ≡ option_map (λ more. symbol ∷ more) (flat_items items)) →
    (here : List Item) (around : List (List Item)) (all : List Symbol) →
    IfSome (flat_levels here around) (λ symbols. symbols ≡ all) → IfSome (flat_levels (item ∷ here) around) (λ symbols. symbols ≡ symbol ∷ all)
onto_flat symbol item first here [] all rest = subst (λ found. IfSome found (λ symbols. symbols ≡ symbol ∷ all)) (sym (first here)) (by (flat_items here) rest)
  where
    by : (found : Option (List Symbol)) → IfSome found (λ symbols. symbols ≡ all) → IfSome (option_map (λ more. symbol ∷ more) found) (λ symbols. symbols ≡ symbol ∷ all)
    by None rest = tt
    by (Some more) rest = ap (λ more. symbol ∷ more) rest
onto_flat symbol item first here (next ∷ more) all rest =
    subst (λ found. IfSome (appended found (flat_levels next more)) (λ symbols. symbols ≡ symbol ∷ all)) (sym (first here)) (by (flat_items here) (flat_levels next more) rest)
  where
    by : (front back : Option (List Symbol)) → IfSome (appended front back) (λ symbols. symbols ≡ all) → IfSome (appended (option_map (λ more. symbol ∷ more) front) back) (λ symbols. symbols ≡ symbol ∷ all)
    by None back rest = tt
    by (Some front) None rest = tt
    by (Some front) (Some back) rest = ap (λ more. symbol ∷ more) rest

group_flat : (here : List Item) (around : List (List Item)) (all : List Symbol) →
    IfSome (flat_levels here around) (λ symbols. symbols ≡ all) → IfSome (flat_levels (grouped here around).here (grouped here around).around) (λ symbols. symbols ≡ all)
group_flat here [] all rest = tt
group_flat here (next ∷ more) all rest = by (level_condition here) (level_flat here) more rest
  where
    by : (one : Option Condition) → IfSome one (λ one. flat_items here ≡ Some (flat one)) → (more : List (List Item)) →
        IfSome (appended (flat_items here) (flat_levels next more)) (λ symbols. symbols ≡ all) → IfSome (flat_levels (Operand one ∷ next) more) (λ symbols. symbols ≡ all)
    by None inside [] rest = tt
    by None inside (outer ∷ more) rest = tt
    by (Some one) inside [] rest = subst (λ front. IfSome (appended front (flat_items next)) (λ symbols. symbols ≡ all)) inside rest
    by (Some one) inside (outer ∷ more) rest =
        again (flat_items next) (flat_levels outer more) (subst (λ front. IfSome (appended front (appended (flat_items next) (flat_levels outer more))) (λ symbols. symbols ≡ all)) inside rest)
      where
        again : (middle back : Option (List Symbol)) → IfSome (option_map (λ back. flat one ++ back) (appended middle back)) (λ symbols. symbols ≡ all) →
            IfSome (appended (option_map (λ more. flat one ++ more) middle) back) (λ symbols. symbols ≡ all)
        again None back rest = tt
        again (Some middle) None rest = tt
        again (Some middle) (Some back) rest = append_assoc (flat one) middle back ∙ rest

levels_flat : (symbols : List Symbol) → IfSome (flat_levels (levels_of symbols).here (levels_of symbols).around) (λ all. all ≡ bare symbols)
levels_flat [] = refl
levels_flat (Open ∷ symbols) = group_flat (levels_of symbols).here (levels_of symbols).around (bare symbols) (levels_flat symbols)
levels_flat (Close ∷ symbols) = by (flat_levels (levels_of symbols).here (levels_of symbols).around) (levels_flat symbols)
  where
    by : (found : Option (List Symbol)) → IfSome found (λ all. all ≡ bare symbols) → IfSome (option_map (λ back. [] ++ back) found) (λ all. all ≡ bare symbols)
    by None rest = tt
    by (Some more) rest = rest
levels_flat (NotWord ∷ symbols) = onto_flat NotWord NotItem (λ items. refl) (levels_of symbols).here (levels_of symbols).around (bare symbols) (levels_flat symbols)
levels_flat (AndWord ∷ symbols) = onto_flat AndWord AndItem (λ items. refl) (levels_of symbols).here (levels_of symbols).around (bare symbols) (levels_flat symbols)
levels_flat (OrWord ∷ symbols) = onto_flat OrWord OrItem (λ items. refl) (levels_of symbols).here (levels_of symbols).around (bare symbols) (levels_flat symbols)
levels_flat (Test comparison ∷ symbols) = onto_flat (Test comparison) (Operand (Some (Compare comparison))) (λ items. refl) (levels_of symbols).here (levels_of symbols).around (bare symbols) (levels_flat symbols)

said_flat : (symbols : List Symbol) → IfSome (condition_said symbols) (λ one. flat one ≡ bare symbols)
said_flat symbols = by (is_shallow 0 symbols) (levels_of symbols).here (levels_of symbols).around (levels_flat symbols)
  where
    by : (shallow : Bool) (here : List Item) (around : List (List Item)) → IfSome (flat_levels here around) (λ all. all ≡ bare symbols) →
        IfSome (if shallow then outermost here around else None) (λ one. flat one ≡ bare symbols)
    by false here around rest = tt
    by true here (next ∷ more) rest = tt
    by true here [] rest = last (level_condition here) (level_flat here)
      where
        last : (one : Option Condition) → IfSome one (λ one. flat_items here ≡ Some (flat one)) → IfSome one (λ one. flat one ≡ bare symbols)
        last None inside = tt
        last (Some one) inside = subst (λ found. IfSome found (λ all. all ≡ bare symbols)) inside rest

-- names

among_append : (front back : List Symbol) → names_among (front ++ back) ≡ names_among front ++ names_among back
among_append [] back = refl
among_append (Open ∷ front) back = among_append front back
among_append (Close ∷ front) back = among_append front back
among_append (NotWord ∷ front) back = among_append front back
among_append (AndWord ∷ front) back = among_append front back
among_append (OrWord ∷ front) back = among_append front back
among_append (Test comparison ∷ front) back = ap (λ more. comparison.var ∷ more) (among_append front back)

-- a symbol more behind others
pub among_more : (symbols : List Symbol) (symbol : Symbol) → names_among (symbols ++ symbol ∷ []) ≡ names_among symbols ++ names_among (symbol ∷ [])
among_more symbols symbol = among_append symbols (symbol ∷ [])

among_flat : (one : Condition) → names_in one ≡ names_among (flat one)
among_flat (Compare comparison) = refl
among_flat (Not one) = among_flat one
among_flat (And one other) =
    ap (λ front. front ++ names_in other) (among_flat one) ∙ ap (λ back. names_among (flat one) ++ back) (among_flat other)
    ∙ sym (among_append (flat one) (AndWord ∷ flat other))
among_flat (Or one other) =
    ap (λ front. front ++ names_in other) (among_flat one) ∙ ap (λ back. names_among (flat one) ++ back) (among_flat other)
    ∙ sym (among_append (flat one) (OrWord ∷ flat other))

among_bare : (symbols : List Symbol) → names_among (bare symbols) ≡ names_among symbols
among_bare [] = refl
among_bare (Open ∷ symbols) = among_bare symbols
among_bare (Close ∷ symbols) = among_bare symbols
among_bare (NotWord ∷ symbols) = among_bare symbols
among_bare (AndWord ∷ symbols) = among_bare symbols
among_bare (OrWord ∷ symbols) = among_bare symbols
among_bare (Test comparison ∷ symbols) = ap (λ more. comparison.var ∷ more) (among_bare symbols)

-- the names in a condition are those among its symbols
pub names_said : (symbols : List Symbol) (one : Condition) → condition_said symbols ≡ Some one → names_in one ≡ names_among symbols
names_said symbols one said =
    among_flat one ∙ ap names_among (subst (λ found. IfSome found (λ one. flat one ≡ bare symbols)) said (said_flat symbols)) ∙ among_bare symbols

-- a condition that is one comparison

not_alone : (front back : List Symbol) (word : Symbol) → only_test (word ∷ back) ≡ None → only_test (front ++ word ∷ back) ≡ None
not_alone [] back word none = none
not_alone (Open ∷ front) back word none = refl
not_alone (Close ∷ front) back word none = refl
not_alone (NotWord ∷ front) back word none = refl
not_alone (AndWord ∷ front) back word none = refl
not_alone (OrWord ∷ front) back word none = refl
not_alone (Test comparison ∷ []) back word none = refl
not_alone (Test comparison ∷ symbol ∷ front) back word none = refl

parent_flat : (one : Condition) → parent_of one ≡ option_and_then (λ comparison. mode_named comparison comparison.operator) (only_test (flat one))
parent_flat (Compare comparison) = refl
parent_flat (Not one) = refl
parent_flat (And one other) = ap (option_and_then (λ comparison. mode_named comparison comparison.operator)) (sym (not_alone (flat one) (flat other) AndWord refl))
parent_flat (Or one other) = ap (option_and_then (λ comparison. mode_named comparison comparison.operator)) (sym (not_alone (flat one) (flat other) OrWord refl))

-- the parent that a condition names, by its symbols
pub parent_said : (symbols : List Symbol) (one : Condition) → condition_said symbols ≡ Some one →
    parent_of one ≡ option_and_then (λ comparison. mode_named comparison comparison.operator) (only_test (bare symbols))
parent_said symbols one said =
    parent_flat one
    ∙ ap (λ symbols. option_and_then (λ comparison. mode_named comparison comparison.operator) (only_test symbols))
    (subst (λ found. IfSome found (λ one. flat one ≡ bare symbols)) said (said_flat symbols))

-- parentheses in front are no part of what is bare
pub bare_behind : (symbols : List Symbol) → bare (behind_parentheses symbols) ≡ bare symbols
bare_behind [] = refl
bare_behind (Open ∷ symbols) = bare_behind symbols
bare_behind (Close ∷ symbols) = bare_behind symbols
bare_behind (NotWord ∷ symbols) = refl
bare_behind (AndWord ∷ symbols) = refl
bare_behind (OrWord ∷ symbols) = refl
bare_behind (Test comparison ∷ symbols) = refl

-- no parenthesis stands first behind them
no_parenthesis : (symbols : List Symbol) (symbol : Symbol) (rest : List Symbol) → behind_parentheses symbols ≡ symbol ∷ rest → is_parenthesis symbol ≡ false
no_parenthesis [] symbol rest is = absurd (let e : [] ≡ symbol ∷ rest = is in cc)
no_parenthesis (Open ∷ symbols) symbol rest is = no_parenthesis symbols symbol rest is
no_parenthesis (Close ∷ symbols) symbol rest is = no_parenthesis symbols symbol rest is
no_parenthesis (NotWord ∷ symbols) symbol rest is = let e : NotWord ≡ symbol = cc in ap is_parenthesis (sym e)
no_parenthesis (AndWord ∷ symbols) symbol rest is = let e : AndWord ≡ symbol = cc in ap is_parenthesis (sym e)
no_parenthesis (OrWord ∷ symbols) symbol rest is = let e : OrWord ≡ symbol = cc in ap is_parenthesis (sym e)
no_parenthesis (Test comparison ∷ symbols) symbol rest is = let e : Test comparison ≡ symbol = cc in ap is_parenthesis (sym e)

-- the comparison that a symbol is, where nothing stands behind it
abbrev pub one_alone : Symbol → List Symbol → Option Comparison
one_alone (Test comparison) [] = Some comparison
one_alone (Test comparison) (symbol ∷ symbols) = None
one_alone Open symbols = None
one_alone Close symbols = None
one_alone NotWord symbols = None
one_alone AndWord symbols = None
one_alone OrWord symbols = None

two_bare : (comparison : Comparison) (symbol : Symbol) (more : List Symbol) → is_parenthesis symbol ≡ false → only_test (Test comparison ∷ bare (symbol ∷ more)) ≡ None
two_bare comparison Open more off = absurd (let e : true ≡ false = off in cc)
two_bare comparison Close more off = absurd (let e : true ≡ false = off in cc)
two_bare comparison NotWord more off = refl
two_bare comparison AndWord more off = refl
two_bare comparison OrWord more off = refl
two_bare comparison (Test other) more off = refl

-- the only symbol is the first one behind parentheses, where nothing but parentheses is behind it
pub only_is : (symbols rest : List Symbol) (symbol : Symbol) → behind_parentheses symbols ≡ symbol ∷ rest → only_test (bare symbols) ≡ one_alone symbol (behind_parentheses rest)
only_is symbols rest symbol is =
    ap only_test (sym (bare_behind symbols) ∙ ap bare is) ∙ by symbol (no_parenthesis symbols symbol rest is)
  where
    alone : (comparison : Comparison) (behind : List Symbol) → behind_parentheses rest ≡ behind → only_test (Test comparison ∷ bare behind) ≡ one_alone (Test comparison) behind
    alone comparison [] same = refl
    alone comparison (next ∷ more) same = two_bare comparison next more (no_parenthesis rest next more same)

    by : (symbol : Symbol) → is_parenthesis symbol ≡ false → only_test (bare (symbol ∷ rest)) ≡ one_alone symbol (behind_parentheses rest)
    by Open off = absurd (let e : true ≡ false = off in cc)
    by Close off = absurd (let e : true ≡ false = off in cc)
    by NotWord off = refl
    by AndWord off = refl
    by OrWord off = refl
    by (Test comparison) off = ap (λ more. only_test (Test comparison ∷ more)) (sym (bare_behind rest)) ∙ alone comparison (behind_parentheses rest) refl

pub not_alone_behind : (symbol : Symbol) (behind : List Symbol) → 0 < length behind → one_alone symbol behind ≡ None
not_alone_behind symbol [] some = absurd (omega arith)
not_alone_behind Open (next ∷ more) some = refl
not_alone_behind Close (next ∷ more) some = refl
not_alone_behind NotWord (next ∷ more) some = refl
not_alone_behind AndWord (next ∷ more) some = refl
not_alone_behind OrWord (next ∷ more) some = refl
not_alone_behind (Test comparison) (next ∷ more) some = refl

pub no_test_alone : (symbol : Symbol) (behind : List Symbol) → ((comparison : Comparison) → symbol ≡ Test comparison → ⊥) → one_alone symbol behind ≡ None
no_test_alone Open behind other = refl
no_test_alone Close behind other = refl
no_test_alone NotWord behind other = refl
no_test_alone AndWord behind other = refl
no_test_alone OrWord behind other = refl
no_test_alone (Test comparison) behind other = absurd (other comparison refl)

-- nor is there one where none stands in front
pub none_only : (symbols : List Symbol) → behind_parentheses symbols ≡ [] → only_test (bare symbols) ≡ None
none_only symbols is = ap only_test (sym (bare_behind symbols) ∙ ap bare is)

-- symbols, as the first and those behind it
pub first_behind : (symbols : List Symbol) (symbol : Symbol) → 1 ≤ length symbols → symbol ≡ get_or symbols 0 symbol → symbols ≡ symbol ∷ take (length symbols - 1) (drop 1 symbols)
first_behind [] symbol some is = absurd (omega arith)
first_behind (first ∷ rest) symbol some is =
    ap (λ one. one ∷ rest) (sym is) ∙ ap (λ more. symbol ∷ more) (sym (take_all (length (first ∷ rest) - 1) rest (omega arith)))
