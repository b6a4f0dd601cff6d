-- What the grammar spells is what the levels of parentheses say: each phrase makes its items and no others.
use Rattle.std.proofs.Common.{◌≡◌, ℕ, suc, ◌+◌, ◌≤◌, true, ◌&&◌, List, [], ◌∷◌, ◌++◌, Option, Some, None, option_map, refl, ap, sym, ◌∙◌, append_assoc, append-nil, arith}
use Rattle.std.proofs.lemmas.Bool.{lt-ltb}
use Rattle.std.specs.Prelude.{nat_lt, if◌then◌else◌}
use Rattle.helm_cond.specs.declared.symbol.Symbol.{Symbol}
use Rattle.helm_cond.specs.declared.symbol.Symbol.TheVariants.{Open, Close, Not as NotWord, And as AndWord, Or as OrWord}
use Rattle.helm_cond.specs.Conditions.{Condition, Compare, Not, And, Or}
use Rattle.helm_cond.specs.Grammar.{Item, Operand, NotItem, AndItem, OrItem, Chain, Last, AndThen, OrElse, negated_first, chain_of, chain_condition, level_condition, Nesting, nested, grouped, levels_of, is_shallow, outermost, condition_said}
use Rattle.helm_cond.specs.Phrases.{SpellsOperand, comparison, negated, enclosed, SpellsConjunction, single, joined, SpellsCondition, alone, either}
use Rattle.helm_cond.proofs.Telling.{fused}

-- items in front of those of a level
abbrev onto : List Item → Nesting → Nesting
onto items behind = nested (items ++ behind.here) behind.around

-- symbols that are these items of their level, whatever stands behind, and nest at most so deep
record AreRead (depth : ℕ) (symbols : List Symbol) (items : List Item) : Type 0 where
  levels : (rest : List Symbol) → levels_of (symbols ++ rest) ≡ onto items (levels_of rest)
  shallow : (opened : ℕ) (rest : List Symbol) → opened + depth ≤ 64 → is_shallow opened (symbols ++ rest) ≡ is_shallow opened rest

-- items that an operand is, by itself and before what it is joined to
record AreOperand (one : Condition) (items : List Item) : Type 0 where
  last : chain_of items ≡ Some (Last one)
  and_then : (more : List Item) → chain_of (items ++ AndItem ∷ more) ≡ option_map (AndThen one) (chain_of more)
  or_else : (more : List Item) → chain_of (items ++ OrItem ∷ more) ≡ option_map (OrElse one) (chain_of more)

-- items before this one make a chain that goes on so
record GoesOn (items : List Item) (joint : Item) (condition : Chain → Condition) : Type 0 where
  lead : Chain → Chain
  chain : (more : List Item) → chain_of (items ++ joint ∷ more) ≡ option_map lead (chain_of more)
  said : (rest : Chain) → chain_condition None (lead rest) ≡ condition rest

-- items that operands joined by `and` are
record AreConjunction (one : Condition) (items : List Item) : Type 0 where
  whole : level_condition items ≡ Some one
  and_then : GoesOn items AndItem (chain_condition (Some one))
  or_else : GoesOn items OrItem (λ rest. Or one (chain_condition None rest))

alike : {A B : Type 0} (f g : A → B) → ((x : A) → f x ≡ g x) → (found : Option A) → option_map f found ≡ option_map g found
alike f g same None = refl
alike f g same (Some x) = ap Some (same x)

both_read : (depth : ℕ) (symbols more : List Symbol) (items others : List Item) → AreRead depth symbols items → AreRead depth more others → AreRead depth (symbols ++ more) (items ++ others)
both_read depth symbols more items others one other = record {
  levels = λ rest. ap levels_of (append_assoc symbols more rest) ∙ one.levels (more ++ rest) ∙ ap (onto items) (other.levels rest)
      ∙ ap (λ here. nested here (levels_of rest).around) (sym (append_assoc items others (levels_of rest).here));
  shallow = λ opened rest few. ap (is_shallow opened) (append_assoc symbols more rest) ∙ one.shallow opened (more ++ rest) few ∙ other.shallow opened rest few;
}

and_read : (depth : ℕ) → AreRead depth (AndWord ∷ []) (AndItem ∷ [])
and_read depth = record { levels = λ rest. refl; shallow = λ opened rest few. refl }

or_read : (depth : ℕ) → AreRead depth (OrWord ∷ []) (OrItem ∷ [])
or_read depth = record { levels = λ rest. refl; shallow = λ opened rest few. refl }

not_read : (depth : ℕ) → AreRead depth (NotWord ∷ []) (NotItem ∷ [])
not_read depth = record { levels = λ rest. refl; shallow = λ opened rest few. refl }

not_operand : (one : Condition) (items : List Item) → AreOperand one items → AreOperand (Not one) (NotItem ∷ items)
not_operand one items is = record {
  last = ap (option_map negated_first) is.last;
  and_then = λ more. ap (option_map negated_first) (is.and_then more) ∙ fused negated_first (AndThen one) (chain_of more);
  or_else = λ more. ap (option_map negated_first) (is.or_else more) ∙ fused negated_first (OrElse one) (chain_of more);
}

lone_operand : (one : Condition) → AreOperand one (Operand (Some one) ∷ [])
lone_operand one = record { last = refl; and_then = λ more. refl; or_else = λ more. refl }

deeper : (opened depth : ℕ) (rest : List Symbol) → opened + suc depth ≤ 64 → (nat_lt opened 64 && is_shallow (suc opened) (Close ∷ rest)) ≡ is_shallow opened rest
deeper opened depth rest few = ap (λ b. b && is_shallow opened rest) (lt-ltb opened 64 (omega (arith, few)))

-- what stands between parentheses is one operand of the level around
group_read : (depth : ℕ) (symbols : List Symbol) (items : List Item) (one : Condition) → AreRead depth symbols items → level_condition items ≡ Some one → AreRead (suc depth) (Open ∷ symbols ++ Close ∷ []) (Operand (Some one) ∷ [])
group_read depth symbols items one read said = record {
  levels = λ rest.
      ap (λ inside. grouped inside.here inside.around) (ap levels_of (append_assoc symbols (Close ∷ []) rest) ∙ read.levels (Close ∷ rest))
      ∙ ap (λ found. nested (Operand (level_condition found) ∷ (levels_of rest).here) (levels_of rest).around) (append-nil items)
      ∙ ap (λ found. nested (Operand found ∷ (levels_of rest).here) (levels_of rest).around) said;
  shallow = λ opened rest few.
      ap (λ more. nat_lt opened 64 && is_shallow (suc opened) more) (append_assoc symbols (Close ∷ []) rest)
      ∙ ap (λ b. nat_lt opened 64 && b) (read.shallow (suc opened) (Close ∷ rest) (omega (arith, few)))
      ∙ deeper opened depth rest few;
}

single_conjunction : (one : Condition) (items : List Item) → AreOperand one items → AreConjunction one items
single_conjunction one items is = record {
  whole = ap (option_map (chain_condition None)) is.last;
  and_then = record { lead = AndThen one; chain = is.and_then; said = λ rest. refl };
  or_else = record { lead = OrElse one; chain = is.or_else; said = λ rest. refl };
}

goes_on : (front back : List Item) (one : Chain → Condition) (joint : Item) (step : Chain → Chain) (condition : Chain → Condition) → GoesOn front AndItem one →
    ((more : List Item) → chain_of (back ++ joint ∷ more) ≡ option_map step (chain_of more)) → ((rest : Chain) → one (step rest) ≡ condition rest) → GoesOn (front ++ AndItem ∷ back) joint condition
goes_on front back one joint step condition first next said = record {
  lead = λ rest. first.lead (step rest);
  chain = λ more. ap chain_of (append_assoc front (AndItem ∷ back) (joint ∷ more)) ∙ first.chain (back ++ joint ∷ more)
      ∙ ap (option_map first.lead) (next more) ∙ fused first.lead step (chain_of more);
  said = λ rest. first.said (step rest) ∙ said rest;
}

joined_conjunction : (before one : Condition) (items others : List Item) → AreConjunction before items → AreOperand one others → AreConjunction (And before one) (items ++ AndItem ∷ others)
joined_conjunction before one items others front back = record {
  whole = ap (option_map (chain_condition None)) (front.and_then.chain others ∙ ap (option_map front.and_then.lead) back.last) ∙ ap Some (front.and_then.said (Last one));
  and_then = goes_on items others (chain_condition (Some before)) AndItem (AndThen one) (chain_condition (Some (And before one))) front.and_then back.and_then (λ rest. refl);
  or_else = goes_on items others (chain_condition (Some before)) OrItem (OrElse one) (λ rest. Or (And before one) (chain_condition None rest)) front.and_then back.or_else (λ rest. refl);
}

either_said : (one other : Condition) (items others : List Item) → AreConjunction one items → level_condition others ≡ Some other → level_condition (items ++ OrItem ∷ others) ≡ Some (Or one other)
either_said one other items others front said =
    ap (option_map (chain_condition None)) (front.or_else.chain others)
    ∙ fused (chain_condition None) front.or_else.lead (chain_of others)
    ∙ alike (λ rest. chain_condition None (front.or_else.lead rest)) (λ rest. Or one (chain_condition None rest)) front.or_else.said (chain_of others)
    ∙ sym (fused (Or one) (chain_condition None) (chain_of others))
    ∙ ap (option_map (Or one)) said

mutual
  operand_read : (depth : ℕ) (symbols : List Symbol) (one : Condition) → SpellsOperand depth symbols one → (items : List Item) × AreRead depth symbols items × AreOperand one items
  operand_read _ _ _ (comparison depth one) = (Operand (Some (Compare one)) ∷ [], record { levels = λ rest. refl; shallow = λ opened rest few. refl }, lone_operand (Compare one))
  operand_read _ _ _ (negated depth symbols one spelled) =
      let inner = operand_read depth symbols one spelled in
      (NotItem ∷ inner.0, both_read depth (NotWord ∷ []) symbols (NotItem ∷ []) inner.0 (not_read depth) inner.1, not_operand one inner.0 inner.2)
  operand_read _ _ _ (enclosed depth symbols one spelled) =
      let inner = condition_read depth symbols one spelled in
      (Operand (Some one) ∷ [], group_read depth symbols inner.0 one inner.1 inner.2, lone_operand one)

  conjunction_read : (depth : ℕ) (symbols : List Symbol) (one : Condition) → SpellsConjunction depth symbols one → (items : List Item) × AreRead depth symbols items × AreConjunction one items
  conjunction_read _ _ _ (single depth symbols one spelled) =
      let inner = operand_read depth symbols one spelled in
      (inner.0, inner.1, single_conjunction one inner.0 inner.2)
  conjunction_read _ _ _ (joined depth before symbols one other front back) =
      let first = conjunction_read depth before one front in
      let next = operand_read depth symbols other back in (
        first.0 ++ AndItem ∷ next.0,
        both_read depth before (AndWord ∷ symbols) first.0 (AndItem ∷ next.0) first.1 (both_read depth (AndWord ∷ []) symbols (AndItem ∷ []) next.0 (and_read depth) next.1),
        joined_conjunction one other first.0 next.0 first.2 next.2,
      )

  condition_read : (depth : ℕ) (symbols : List Symbol) (one : Condition) → SpellsCondition depth symbols one → (items : List Item) × AreRead depth symbols items × (level_condition items ≡ Some one)
  condition_read _ _ _ (alone depth symbols one spelled) =
      let inner = conjunction_read depth symbols one spelled in
      (inner.0, inner.1, inner.2.whole)
  condition_read _ _ _ (either depth symbols behind one other front back) =
      let first = conjunction_read depth symbols one front in
      let next = condition_read depth behind other back in (
        first.0 ++ OrItem ∷ next.0,
        both_read depth symbols (OrWord ∷ behind) first.0 (OrItem ∷ next.0) first.1 (both_read depth (OrWord ∷ []) behind (OrItem ∷ []) next.0 (or_read depth) next.1),
        either_said one other first.0 next.0 first.2 next.2,
      )

-- a condition that symbols spell is the one that they say
pub spelled_said : (symbols : List Symbol) (one : Condition) → SpellsCondition 64 symbols one → condition_said symbols ≡ Some one
spelled_said symbols one spelled =
    let found = condition_read 64 symbols one spelled in
    let levels : levels_of symbols ≡ nested (found.0 ++ []) [] = ap levels_of (sym (append-nil symbols)) ∙ found.1.levels [] in
    let shallow : is_shallow 0 symbols ≡ true = ap (is_shallow 0) (sym (append-nil symbols)) ∙ found.1.shallow 0 [] (omega arith) in
    ap (λ b. if b then outermost (levels_of symbols).here (levels_of symbols).around else None) shallow
    ∙ ap (λ whole. outermost whole.here whole.around) levels
    ∙ ap level_condition (append-nil found.0)
    ∙ found.2
