-- What was read of a condition so far, and what comes of the rest.
use Rattle.std.proofs.Common.{◌≡◌, ℕ, ◌≤◌, Bool, true, false, List, [], ◌∷◌, ◌++◌, Option, Some, None, option_map, refl, ap, sym, ◌∙◌, append_assoc, append-nil, length, arith}
use Rattle.std.specs.Prelude.{is_some, unwrap_or, option_and_then}
use Rattle.helm_cond.specs.declared.symbol.Symbol.{Symbol}
use Rattle.helm_cond.specs.declared.symbol.Symbol.TheVariants.{Open, Close, Not as NotWord, And as AndWord, Or as OrWord, Test}
use Rattle.helm_cond.specs.Conditions.{Condition, comparison_holds, holds, mode_named, names_in, parent_of}
use Rattle.helm_cond.specs.Flat.{names_among, bare, only_test}
use Rattle.helm_cond.specs.Grammar.{with_symbol, condition_said}
use Rattle.helm_cond.specs.Learnt.{Knowledge}
use Rattle.helm_cond.specs.Levels.{accepts, fresh_level, LeadsTo}
use Rattle.helm_cond.specs.KeptConditions.{condition_in, no_condition, IsKeptCondition}
use Rattle.helm_cond.proofs.Flat.{names_said, parent_said}
use Rattle.helm_cond.proofs.Telling.{accepted_said, told_whole}

not_some : {A : Type 0} (o : Option A) → is_some o ≡ false → o ≡ None
not_some None h = refl
not_some (Some x) h = absurd (cc)

some_is : (o : Option Condition) → is_some o ≡ true → o ≡ Some (unwrap_or o no_condition)
some_is None h = absurd (cc)
some_is (Some one) h = refl

-- symbols that aren't accepted say no condition
unsaid : (symbols : List Symbol) → accepts 0 false symbols ≡ false → condition_said symbols ≡ None
unsaid symbols off = not_some (condition_said symbols) (accepted_said symbols ∙ off)

-- with `done` read, and so the place reached, these are the symbols that all makes
module _ (found : Option (List Symbol)) (done : List Symbol) (depth : ℕ) (ready : Bool)
    (place : (more : List Symbol) → accepts 0 false (done ++ more) ≡ accepts depth ready more) where
  -- the next symbol may not stand here
  pub no_place : (symbol : Symbol) (after : Option (List Symbol)) → found ≡ option_map (λ more. done ++ more) (with_symbol (Some symbol) after) →
      ((more : List Symbol) → accepts depth ready (symbol ∷ more) ≡ false) → option_and_then condition_said found ≡ None
  no_place symbol None is off = ap (option_and_then condition_said) is
  no_place symbol (Some after) is off = ap (option_and_then condition_said) is ∙ unsaid (done ++ symbol ∷ after) (place (symbol ∷ after) ∙ off after)

  -- no more symbols stand there, and the condition isn't whole
  pub not_whole : found ≡ option_map (λ more. done ++ more) (Some []) → accepts depth ready [] ≡ false → option_and_then condition_said found ≡ None
  not_whole is off = ap (option_and_then condition_said) is ∙ unsaid (done ++ []) (place [] ∙ off)

  -- or is
  pub is_said : accepts depth ready [] ≡ true → is_some (condition_said done) ≡ true
  is_said on = accepted_said done ∙ ap (accepts 0 false) (sym (append-nil done)) ∙ place [] ∙ on

  pub whole : found ≡ option_map (λ more. done ++ more) (Some []) → accepts depth ready [] ≡ true → option_and_then condition_said found ≡ Some (condition_in done)
  whole is on = ap (option_and_then condition_said) is ∙ ap condition_said (append-nil done) ∙ some_is (condition_said done) (is_said on)

  -- a symbol more
  pub next_place : (symbol : Symbol) (depth' : ℕ) (ready' : Bool) → ((more : List Symbol) → accepts depth ready (symbol ∷ more) ≡ accepts depth' ready' more) →
      (more : List Symbol) → accepts 0 false ((done ++ symbol ∷ []) ++ more) ≡ accepts depth' ready' more
  next_place symbol depth' ready' next more = ap (accepts 0 false) (append_assoc done (symbol ∷ []) more) ∙ place (symbol ∷ more) ∙ next more

pub next_symbols : (found : Option (List Symbol)) (done : List Symbol) (symbol : Symbol) (after : Option (List Symbol)) →
    found ≡ option_map (λ more. done ++ more) (with_symbol (Some symbol) after) → found ≡ option_map (λ more. (done ++ symbol ∷ []) ++ more) after
next_symbols found done symbol None is = is
next_symbols found done symbol (Some after) is = is ∙ ap Some (sym (append_assoc done (symbol ∷ []) after))

-- the names that are kept are those in the condition
pub names_kept : (symbols : List Symbol) (names : List (List ℕ)) → IsKeptCondition symbols names → names_in (condition_in symbols) ≡ names
names_kept symbols names told = names_said symbols (condition_in symbols) (some_is (condition_said symbols) told.said) ∙ sym told.vars

-- the parent that is named is that of the condition
pub parent_kept : (symbols : List Symbol) (names : List (List ℕ)) → IsKeptCondition symbols names →
    parent_of (condition_in symbols) ≡ option_and_then (λ comparison. mode_named comparison comparison.operator) (only_test (bare symbols))
parent_kept symbols names told = parent_said symbols (condition_in symbols) (some_is (condition_said symbols) told.said)

-- a symbol has one name at most
pub one_name : (symbol : Symbol) → length (names_among (symbol ∷ [])) ≤ 1
one_name Open = omega arith
one_name Close = omega arith
one_name NotWord = omega arith
one_name AndWord = omega arith
one_name OrWord = omega arith
one_name (Test comparison) = omega arith

-- symbols that say a condition come to whether it holds
pub begins_whole : (known : Knowledge) (mode : List ℕ) (symbols : List Symbol) → is_some (condition_said symbols) ≡ true →
    LeadsTo (comparison_holds known mode) (fresh_level ∷ []) symbols (holds known mode (condition_in symbols))
begins_whole known mode symbols said = record {
  ready = false;
  is = told_whole known mode symbols ∙ ap (option_map (holds known mode)) (some_is (condition_said symbols) said);
}
