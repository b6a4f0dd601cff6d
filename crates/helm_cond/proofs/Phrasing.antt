-- What the levels of parentheses say, the grammar spells: the items of a level are read off the symbols again.
use Rattle.std.proofs.Common.{◌≡◌, ℕ, zero, suc, ◌+◌, ◌≤◌, Bool, true, false, ◌&&◌, List, [], ◌∷◌, ◌++◌, length, Option, Some, None, option_map, refl, sym, subst, append_assoc, append-nil, arith}
use Rattle.std.proofs.lemmas.Bool.{ltb-true}
use Rattle.std.proofs.lemmas.Option.{none-some, same_Some}
use Rattle.std.specs.Prelude.{nat_lt, if◌then◌else◌}
use Rattle.helm_cond.specs.declared.symbol.Symbol.{Symbol}
use Rattle.helm_cond.specs.declared.symbol.Symbol.TheVariants.{Open, Close, Not as NotWord, And as AndWord, Or as OrWord, Test}
use Rattle.helm_cond.specs.Conditions.{Condition, Compare, Not, And, Or}
use Rattle.helm_cond.specs.Grammar.{Item, Operand, NotItem, AndItem, OrItem, Chain, Last, AndThen, OrElse, negated_first, chain_of, chain_condition, level_condition, Nesting, grouped, levels_of, is_shallow, outermost, condition_said}
use Rattle.helm_cond.specs.Phrases.{SpellsOperand, comparison, negated, enclosed, SpellsConjunction, single, joined, SpellsCondition, alone, either}

-- the symbols of one level are these items, each operand spelled
data IsLevel : ℕ → List Symbol → List Item → Type 0 where
  ended : (depth : ℕ) → IsLevel depth [] []
  not_next : (depth : ℕ) (symbols : List Symbol) (items : List Item) → IsLevel depth symbols items → IsLevel depth (NotWord ∷ symbols) (NotItem ∷ items)
  and_next : (depth : ℕ) (symbols : List Symbol) (items : List Item) → IsLevel depth symbols items → IsLevel depth (AndWord ∷ symbols) (AndItem ∷ items)
  or_next : (depth : ℕ) (symbols : List Symbol) (items : List Item) → IsLevel depth symbols items → IsLevel depth (OrWord ∷ symbols) (OrItem ∷ items)
  operand_next : (depth : ℕ) (front symbols : List Symbol) (one : Condition) (items : List Item) → SpellsOperand depth front one → IsLevel depth symbols items → IsLevel depth (front ++ symbols) (Operand (Some one) ∷ items)

-- the symbols are a chain, each operand spelled
data IsChain : ℕ → List Symbol → Chain → Type 0 where
  last_one : (depth : ℕ) (symbols : List Symbol) (one : Condition) → SpellsOperand depth symbols one → IsChain depth symbols (Last one)
  then_and : (depth : ℕ) (symbols behind : List Symbol) (one : Condition) (rest : Chain) → SpellsOperand depth symbols one → IsChain depth behind rest → IsChain depth (symbols ++ AndWord ∷ behind) (AndThen one rest)
  then_or : (depth : ℕ) (symbols behind : List Symbol) (one : Condition) (rest : Chain) → SpellsOperand depth symbols one → IsChain depth behind rest → IsChain depth (symbols ++ OrWord ∷ behind) (OrElse one rest)

mapped : {A B : Type 0} (f : A → B) (found : Option A) (y : B) → option_map f found ≡ Some y → (x : A) × (found ≡ Some x) × (f x ≡ y)
mapped f None y is = absurd (none-some _ is)
mapped f (Some x) y is = (x, refl, same_Some _ _ is)

negated_chain : (depth : ℕ) (symbols : List Symbol) (chain : Chain) → IsChain depth symbols chain → IsChain depth (NotWord ∷ symbols) (negated_first chain)
negated_chain _ _ _ (last_one depth symbols one spelled) = last_one depth (NotWord ∷ symbols) (Not one) (negated depth symbols one spelled)
negated_chain _ _ _ (then_and depth symbols behind one rest spelled more) = then_and depth (NotWord ∷ symbols) behind (Not one) rest (negated depth symbols one spelled) more
negated_chain _ _ _ (then_or depth symbols behind one rest spelled more) = then_or depth (NotWord ∷ symbols) behind (Not one) rest (negated depth symbols one spelled) more

mutual
  chain_spelled : (depth : ℕ) (symbols : List Symbol) (items : List Item) → IsLevel depth symbols items → (chain : Chain) → chain_of items ≡ Some chain → IsChain depth symbols chain
  chain_spelled _ _ _ (ended depth) chain is = absurd (none-some _ is)
  chain_spelled _ _ _ (not_next depth symbols items level) chain is =
      let inner = mapped negated_first (chain_of items) chain is in
      subst (IsChain depth (NotWord ∷ symbols)) inner.2 (negated_chain depth symbols inner.0 (chain_spelled depth symbols items level inner.0 inner.1))
  chain_spelled _ _ _ (and_next depth symbols items level) chain is = absurd (none-some _ is)
  chain_spelled _ _ _ (or_next depth symbols items level) chain is = absurd (none-some _ is)
  chain_spelled _ _ _ (operand_next depth front symbols one items spelled level) chain is = behind_operand depth front one spelled symbols items level chain is

  behind_operand : (depth : ℕ) (front : List Symbol) (one : Condition) → SpellsOperand depth front one → (symbols : List Symbol) (items : List Item) → IsLevel depth symbols items →
      (chain : Chain) → chain_of (Operand (Some one) ∷ items) ≡ Some chain → IsChain depth (front ++ symbols) chain
  behind_operand depth front one spelled _ _ (ended _) chain is =
      subst (IsChain depth (front ++ [])) (same_Some _ _ is) (subst (λ symbols. IsChain depth symbols (Last one)) (sym (append-nil front)) (last_one depth front one spelled))
  behind_operand depth front one spelled _ _ (not_next _ symbols items level) chain is = absurd (none-some _ is)
  behind_operand depth front one spelled _ _ (and_next _ symbols items level) chain is =
      let inner = mapped (AndThen one) (chain_of items) chain is in
      subst (IsChain depth (front ++ AndWord ∷ symbols)) inner.2 (then_and depth front symbols one inner.0 spelled (chain_spelled depth symbols items level inner.0 inner.1))
  behind_operand depth front one spelled _ _ (or_next _ symbols items level) chain is =
      let inner = mapped (OrElse one) (chain_of items) chain is in
      subst (IsChain depth (front ++ OrWord ∷ symbols)) inner.2 (then_or depth front symbols one inner.0 spelled (chain_spelled depth symbols items level inner.0 inner.1))
  behind_operand depth front one spelled _ _ (operand_next _ next symbols other items also level) chain is = absurd (none-some _ is)

mutual
  chain_whole : (depth : ℕ) (symbols : List Symbol) (chain : Chain) → IsChain depth symbols chain → SpellsCondition depth symbols (chain_condition None chain)
  chain_whole _ _ _ (last_one depth symbols one spelled) = alone depth symbols one (single depth symbols one spelled)
  chain_whole _ _ _ (then_and depth symbols behind one rest spelled more) = chain_after depth symbols one (single depth symbols one spelled) behind rest more
  chain_whole _ _ _ (then_or depth symbols behind one rest spelled more) =
      either depth symbols behind one (chain_condition None rest) (single depth symbols one spelled) (chain_whole depth behind rest more)

  chain_after : (depth : ℕ) (before : List Symbol) (one : Condition) → SpellsConjunction depth before one → (symbols : List Symbol) (chain : Chain) → IsChain depth symbols chain →
      SpellsCondition depth (before ++ AndWord ∷ symbols) (chain_condition (Some one) chain)
  chain_after depth before one front _ _ (last_one _ symbols other spelled) =
      alone depth (before ++ AndWord ∷ symbols) (And one other) (joined depth before symbols one other front spelled)
  chain_after depth before one front _ _ (then_and _ symbols behind other rest spelled more) =
      subst (λ all. SpellsCondition depth all (chain_condition (Some (And one other)) rest)) (append_assoc before (AndWord ∷ symbols) (AndWord ∷ behind))
      (chain_after depth (before ++ AndWord ∷ symbols) (And one other) (joined depth before symbols one other front spelled) behind rest more)
  chain_after depth before one front _ _ (then_or _ symbols behind other rest spelled more) =
      subst (λ all. SpellsCondition depth all (Or (And one other) (chain_condition None rest))) (append_assoc before (AndWord ∷ symbols) (OrWord ∷ behind))
      (either depth (before ++ AndWord ∷ symbols) behind (And one other) (chain_condition None rest) (joined depth before symbols one other front spelled) (chain_whole depth behind rest more))

-- a level that says a condition spells it
level_spelled : (depth : ℕ) (symbols : List Symbol) (items : List Item) (one : Condition) → IsLevel depth symbols items → level_condition items ≡ Some one → SpellsCondition depth symbols one
level_spelled depth symbols items one level said =
    let inner = mapped (chain_condition None) (chain_of items) one said in
    subst (SpellsCondition depth symbols) inner.2 (chain_whole depth symbols inner.0 (chain_spelled depth symbols items level inner.0 inner.1))

-- symbols whose levels, each behind the `)` of the one before, are these
data AreLevels : ℕ → List Symbol → List Item → List (List Item) → Type 0 where
  only : (depth : ℕ) (symbols : List Symbol) (here : List Item) → IsLevel depth symbols here → AreLevels depth symbols here []
  within : (depth : ℕ) (symbols behind : List Symbol) (here next : List Item) (more : List (List Item)) → IsLevel depth symbols here → AreLevels (suc depth) behind next more →
      AreLevels depth (symbols ++ Close ∷ behind) here (next ∷ more)

-- a symbol more in front
front_levels : (depth : ℕ) (symbol : Symbol) (item : Item) → ((symbols : List Symbol) (items : List Item) → IsLevel depth symbols items → IsLevel depth (symbol ∷ symbols) (item ∷ items)) →
    (symbols : List Symbol) (here : List Item) (around : List (List Item)) → AreLevels depth symbols here around → AreLevels depth (symbol ∷ symbols) (item ∷ here) around
front_levels depth symbol item adds _ _ _ (only _ symbols here level) = only depth (symbol ∷ symbols) (item ∷ here) (adds symbols here level)
front_levels depth symbol item adds _ _ _ (within _ symbols behind here next more level rest) = within depth (symbol ∷ symbols) behind (item ∷ here) next more (adds symbols here level) rest

-- an operand more in front
operand_levels : (depth : ℕ) (front : List Symbol) (one : Condition) → SpellsOperand depth front one →
    (symbols : List Symbol) (here : List Item) (around : List (List Item)) → AreLevels depth symbols here around → AreLevels depth (front ++ symbols) (Operand (Some one) ∷ here) around
operand_levels depth front one spelled _ _ _ (only _ symbols here level) =
    only depth (front ++ symbols) (Operand (Some one) ∷ here) (operand_next depth front symbols one here spelled level)
operand_levels depth front one spelled _ _ _ (within _ symbols behind here next more level rest) =
    subst (λ all. AreLevels depth all (Operand (Some one) ∷ here) (next ∷ more)) (append_assoc front symbols (Close ∷ behind))
    (within depth (front ++ symbols) behind (Operand (Some one) ∷ here) next more (operand_next depth front symbols one here spelled level) rest)

abbrev heads : {A : Type 0} (first : A) → List A → A
heads first [] = first
heads first (x ∷ xs) = x

abbrev tails : {A : Type 0} → List A → List A
tails [] = []
tails (x ∷ xs) = xs

not_empty : {A : Type 0} (x : A) (xs : List A) → [] ≡ x ∷ xs → ⊥
not_empty x xs is = cc

-- the innermost of several levels ends in an operand of the next
closed_levels : (depth : ℕ) (symbols : List Symbol) (here : List Item) (around : List (List Item)) → AreLevels depth symbols here around → (next : List Item) (more : List (List Item)) → around ≡ next ∷ more →
    (one : Condition) → level_condition here ≡ Some one → AreLevels (suc depth) (Open ∷ symbols) (Operand (Some one) ∷ next) more
closed_levels _ _ _ _ (only depth symbols here level) next more is one said = absurd (not_empty next more is)
closed_levels _ _ _ _ (within depth symbols behind here first rest level levels) next more is one said =
    subst (λ all. AreLevels (suc depth) (Open ∷ symbols ++ Close ∷ behind) (Operand (Some one) ∷ heads first all) (tails all)) is
    (subst (λ all. AreLevels (suc depth) (Open ∷ all) (Operand (Some one) ∷ first) rest) (append_assoc symbols (Close ∷ []) behind)
    (operand_levels (suc depth) (Open ∷ symbols ++ Close ∷ []) one (enclosed depth symbols one (level_spelled depth symbols here one level said)) behind first rest levels))

-- no operand is missing
abbrev AreWhole : List Item → Type 0
AreWhole [] = Unit {0}
AreWhole (Operand None ∷ items) = ⊥
AreWhole (Operand (Some one) ∷ items) = AreWhole items
AreWhole (NotItem ∷ items) = AreWhole items
AreWhole (AndItem ∷ items) = AreWhole items
AreWhole (OrItem ∷ items) = AreWhole items

abbrev AreAllWhole : List (List Item) → Type 0
AreAllWhole [] = Unit {0}
AreAllWhole (items ∷ more) = AreWhole items × AreAllWhole more

mutual
  whole_chain : (items : List Item) (chain : Chain) → chain_of items ≡ Some chain → AreWhole items
  whole_chain [] chain is = tt
  whole_chain (NotItem ∷ items) chain is = let inner = mapped negated_first (chain_of items) chain is in whole_chain items inner.0 inner.1
  whole_chain (AndItem ∷ items) chain is = absurd (none-some _ is)
  whole_chain (OrItem ∷ items) chain is = absurd (none-some _ is)
  whole_chain (Operand None ∷ items) chain is = absurd (none_there items chain is)
  whole_chain (Operand (Some one) ∷ items) chain is = whole_behind one items chain is

  whole_behind : (one : Condition) (items : List Item) (chain : Chain) → chain_of (Operand (Some one) ∷ items) ≡ Some chain → AreWhole items
  whole_behind one [] chain is = tt
  whole_behind one (AndItem ∷ items) chain is = let inner = mapped (AndThen one) (chain_of items) chain is in whole_chain items inner.0 inner.1
  whole_behind one (OrItem ∷ items) chain is = let inner = mapped (OrElse one) (chain_of items) chain is in whole_chain items inner.0 inner.1
  whole_behind one (NotItem ∷ items) chain is = absurd (none-some _ is)
  whole_behind one (Operand other ∷ items) chain is = absurd (none-some _ is)

  none_there : (items : List Item) (chain : Chain) → chain_of (Operand None ∷ items) ≡ Some chain → ⊥
  none_there [] chain is = none-some _ is
  none_there (NotItem ∷ items) chain is = none-some _ is
  none_there (AndItem ∷ items) chain is = none-some _ is
  none_there (OrItem ∷ items) chain is = none-some _ is
  none_there (Operand other ∷ items) chain is = none-some _ is

whole_level : (items : List Item) (one : Condition) → level_condition items ≡ Some one → AreWhole items
whole_level items one said = let inner = mapped (chain_condition None) (chain_of items) one said in whole_chain items inner.0 inner.1

both_true : (a b : Bool) → (a && b) ≡ true → (a ≡ true) × (b ≡ true)
both_true true b is = (refl, is)
both_true false b is = cc

-- symbols that nest within the bound, and whose levels lack no operand, are read off again
abbrev AreReadOff : List Symbol → Type 0
AreReadOff symbols =
    (opened depth : ℕ) → opened + depth ≡ 64 → is_shallow opened symbols ≡ true → AreWhole (levels_of symbols).here → AreAllWhole (levels_of symbols).around →
    length (levels_of symbols).around ≤ opened → AreLevels depth symbols (levels_of symbols).here (levels_of symbols).around

closing_read_off : (symbols : List Symbol) → AreReadOff symbols → AreReadOff (Close ∷ symbols)
closing_read_off symbols behind zero depth room shallow here around few = absurd (omega (arith, few))
closing_read_off symbols behind (suc opened) depth room shallow here around few =
    within depth [] symbols [] (levels_of symbols).here (levels_of symbols).around (ended depth)
    (behind opened (suc depth) (omega (arith, room)) shallow around.0 around.1 (omega (arith, few)))

opening_read_off : (symbols : List Symbol) → AreReadOff symbols → AreReadOff (Open ∷ symbols)
opening_read_off symbols behind opened depth room shallow = among (levels_of symbols).around refl depth room
  where
    inside : List Item
    inside = (levels_of symbols).here

    both : (nat_lt opened 64 ≡ true) × (is_shallow (suc opened) symbols ≡ true)
    both = both_true (nat_lt opened 64) (is_shallow (suc opened) symbols) shallow

    grown : (found : Option Condition) → level_condition inside ≡ found → (next : List Item) (more : List (List Item)) → (levels_of symbols).around ≡ next ∷ more → (n : ℕ) → opened + n ≡ 64 →
        AreWhole (Operand found ∷ next) → AreAllWhole more → length more ≤ opened → AreLevels n (Open ∷ symbols) (Operand found ∷ next) more
    grown None is next more at n fits whole all few = absurd whole
    grown (Some one) is next more at zero fits whole all few = absurd (omega (arith, fits, ltb-true opened 64 both.0))
    grown (Some one) is next more at (suc n) fits whole all few =
        closed_levels n symbols inside (levels_of symbols).around
        (behind (suc opened) n (omega (arith, fits)) both.1 (whole_level inside one is)
        (subst AreAllWhole (sym at) (whole, all)) (subst (λ levels. length levels ≤ suc opened) (sym at) (omega (arith, few))))
        next more at one is

    among : (levels : List (List Item)) → (levels_of symbols).around ≡ levels → (n : ℕ) → opened + n ≡ 64 → AreWhole (grouped inside levels).here → AreAllWhole (grouped inside levels).around →
        length (grouped inside levels).around ≤ opened → AreLevels n (Open ∷ symbols) (grouped inside levels).here (grouped inside levels).around
    among [] at n fits whole all few = absurd whole
    among (next ∷ more) at n fits whole all few = grown (level_condition inside) refl next more at n fits whole all few

read_off : (symbols : List Symbol) → AreReadOff symbols
read_off [] opened depth room shallow here around few = only depth [] [] (ended depth)
read_off (NotWord ∷ symbols) opened depth room shallow here around few =
    front_levels depth NotWord NotItem (not_next depth) symbols (levels_of symbols).here (levels_of symbols).around (read_off symbols opened depth room shallow here around few)
read_off (AndWord ∷ symbols) opened depth room shallow here around few =
    front_levels depth AndWord AndItem (and_next depth) symbols (levels_of symbols).here (levels_of symbols).around (read_off symbols opened depth room shallow here around few)
read_off (OrWord ∷ symbols) opened depth room shallow here around few =
    front_levels depth OrWord OrItem (or_next depth) symbols (levels_of symbols).here (levels_of symbols).around (read_off symbols opened depth room shallow here around few)
read_off (Test one ∷ symbols) opened depth room shallow here around few =
    operand_levels depth (Test one ∷ []) (Compare one) (comparison depth one) symbols (levels_of symbols).here (levels_of symbols).around (read_off symbols opened depth room shallow here around few)
read_off (Close ∷ symbols) opened depth room shallow here around few = closing_read_off symbols (read_off symbols) opened depth room shallow here around few
read_off (Open ∷ symbols) opened depth room shallow here around few = opening_read_off symbols (read_off symbols) opened depth room shallow here around few

-- symbols spell the condition that they say
pub said_spelled : (symbols : List Symbol) (one : Condition) → condition_said symbols ≡ Some one → SpellsCondition 64 symbols one
said_spelled symbols one said = shallow (is_shallow 0 symbols) refl said
  where
    levels : Nesting
    levels = levels_of symbols

    outer : is_shallow 0 symbols ≡ true → (around : List (List Item)) → levels.around ≡ around → outermost levels.here around ≡ Some one → SpellsCondition 64 symbols one
    outer flat (next ∷ more) at is = absurd (none-some _ is)
    outer flat [] at is =
        lone symbols levels.here levels.around
        (read_off symbols 0 64 (omega arith) flat (whole_level levels.here one is) (subst AreAllWhole (sym at) tt) (subst (λ all. length all ≤ 0) (sym at) (omega arith))) at is
      where
        lone : (symbols : List Symbol) (here : List Item) (around : List (List Item)) → AreLevels 64 symbols here around → around ≡ [] → level_condition here ≡ Some one → SpellsCondition 64 symbols one
        lone _ _ _ (only _ all here level) none said = level_spelled 64 all here one level said
        lone _ _ _ (within _ all behind here next more level rest) none said = absurd (not_empty next more (sym none))

    shallow : (flat : Bool) → is_shallow 0 symbols ≡ flat → (if flat then outermost levels.here levels.around else None) ≡ Some one → SpellsCondition 64 symbols one
    shallow true is found = outer is levels.around refl found
    shallow false is found = absurd (none-some _ found)
