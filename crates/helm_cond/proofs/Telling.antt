-- Telling a condition from left to right comes to whether the condition that the symbols say holds.
use Rattle.std.proofs.Common.{◌≡◌, ℕ, zero, suc, ◌-◌, ◌<◌, Bool, true, false, not, ◌&&◌, ◌||◌, List, [], ◌∷◌, length, Option, Some, None, option_map, refl, ap, sym, ◌∙◌, arith}
use Rattle.std.specs.Prelude.{nat_lt, if◌then◌else◌, is_some}
use Rattle.helm_cond.specs.declared.comparison.Comparison.{Comparison}
use Rattle.helm_cond.specs.declared.level.Level.{Level}
use Rattle.helm_cond.specs.declared.symbol.Symbol.{Symbol}
use Rattle.helm_cond.specs.declared.symbol.Symbol.TheVariants.{Open, Close, Not as NotWord, And as AndWord, Or as OrWord, Test}
use Rattle.helm_cond.specs.Conditions.{Condition, Compare, holds, comparison_holds}
use Rattle.helm_cond.specs.Grammar.{Item, Operand, NotItem, AndItem, OrItem, Chain, Last, AndThen, OrElse, negated_first, chain_of, and_also, chain_condition, level_condition, grouped, levels_of, is_shallow, outermost, condition_said}
use Rattle.helm_cond.specs.Learnt.{Knowledge}
use Rattle.helm_cond.specs.Levels.{accepts, fresh_level, level_holds, with_operand, with_not, with_or, answer_of}

pub fused : {A B C : Type 0} (f : B → C) (g : A → B) (o : Option A) → option_map f (option_map g o) ≡ option_map (λ x. f (g x)) o
fused f g None = refl
fused f g (Some x) = refl

never : (b : Bool) (x : Option Bool) → x ≡ None → (if b then x else None) ≡ None
never true x none = none
never false x none = refl

or_assoc : (a b c : Bool) → ((a || b) || c) ≡ (a || (b || c))
or_assoc true b c = refl
or_assoc false b c = refl

no_operand : (items : List Item) → chain_of (Operand None ∷ items) ≡ None
no_operand [] = refl
no_operand (NotItem ∷ items) = refl
no_operand (AndItem ∷ items) = refl
no_operand (OrItem ∷ items) = refl
no_operand (Operand one ∷ items) = refl

operand_not : (holds any all negated : Bool) →
    with_operand (not holds) (record { any = any; all = all; negated = negated }) ≡ with_operand holds (with_not (record { any = any; all = all; negated = negated }))
operand_not true any all true = refl
operand_not true any all false = refl
operand_not false any all true = refl
operand_not false any all false = refl

module _ (known : Knowledge) (mode : List ℕ) where
  -- whether a level holds that goes on with this chain
  abbrev worth : Level → Chain → Bool
  worth level (Last one) = level_holds (with_operand (holds known mode one) level)
  worth level (AndThen one rest) = worth (with_operand (holds known mode one) level) rest
  worth level (OrElse one rest) = worth (with_or (with_operand (holds known mode one) level)) rest

  -- whether a level holds that goes on with these items, behind an operand or before one
  abbrev ends : Bool → Level → List Item → Option Bool
  ends false level items = option_map (worth level) (chain_of items)
  ends true level [] = Some (level_holds level)
  ends true level (AndItem ∷ items) = option_map (worth level) (chain_of items)
  ends true level (OrItem ∷ items) = option_map (worth (with_or level)) (chain_of items)
  ends true level (Operand one ∷ items) = None
  ends true level (NotItem ∷ items) = None

  -- and what then comes of the levels around
  abbrev ends_all : Option Bool → List Level → List (List Item) → Option Bool
  ends_all value [] [] = value
  ends_all value [] (items ∷ more) = None
  ends_all value (level ∷ outer) [] = None
  ends_all None (level ∷ outer) (items ∷ more) = None
  ends_all (Some value) (level ∷ outer) (items ∷ more) = ends_all (ends true (with_operand value level) items) outer more

  none_ends : (outer : List Level) (around : List (List Item)) → ends_all None outer around ≡ None
  none_ends [] [] = refl
  none_ends [] (items ∷ more) = refl
  none_ends (level ∷ outer) [] = refl
  none_ends (level ∷ outer) (items ∷ more) = refl

  operand_next : (one : Condition) (level : Level) (items : List Item) →
      ends false level (Operand (Some one) ∷ items) ≡ ends true (with_operand (holds known mode one) level) items
  operand_next one level [] = refl
  operand_next one level (NotItem ∷ items) = refl
  operand_next one level (Operand other ∷ items) = refl
  operand_next one level (AndItem ∷ items) = fused (worth level) (AndThen one) (chain_of items)
  operand_next one level (OrItem ∷ items) = fused (worth level) (OrElse one) (chain_of items)

  worth_not : (level : Level) (chain : Chain) → worth level (negated_first chain) ≡ worth (with_not level) chain
  worth_not level (Last one) = ap level_holds (operand_not (holds known mode one) level.any level.all level.negated)
  worth_not level (AndThen one rest) = ap (λ next. worth next rest) (operand_not (holds known mode one) level.any level.all level.negated)
  worth_not level (OrElse one rest) = ap (λ next. worth (with_or next) rest) (operand_not (holds known mode one) level.any level.all level.negated)

  not_next : (level : Level) (items : List Item) → ends false level (NotItem ∷ items) ≡ ends false (with_not level) items
  not_next level items = by (chain_of items)
    where
      by : (chain : Option Chain) → option_map (worth level) (option_map negated_first chain) ≡ option_map (worth (with_not level)) chain
      by None = refl
      by (Some chain) = ap Some (worth_not level chain)

  -- what was said before an `and` holds, or nothing was
  abbrev before_holds : Option Condition → Bool
  before_holds None = true
  before_holds (Some before) = holds known mode before

  -- a level that an alternative before may hold of, and this much of the last alternative
  abbrev level_at : Bool → Bool → Level
  level_at any all = record { any = any; all = all; negated = false }

  and_holds : (before : Option Condition) (one : Condition) → (before_holds before && holds known mode one) ≡ holds known mode (and_also before one)
  and_holds None one = refl
  and_holds (Some before) one = refl

  chain_holds : (chain : Chain) (any : Bool) (before : Option Condition) →
      worth (level_at any (before_holds before)) chain ≡ (any || holds known mode (chain_condition before chain))
  chain_holds (Last one) any before = ap (λ all. any || all) (and_holds before one)
  chain_holds (AndThen one rest) any before =
      ap (λ all. worth (level_at any all) rest) (and_holds before one) ∙ chain_holds rest any (Some (and_also before one))
  chain_holds (OrElse one rest) any before =
      ap (λ all. worth (level_at (any || all) true) rest) (and_holds before one)
      ∙ chain_holds rest (any || holds known mode (and_also before one)) None
      ∙ or_assoc any (holds known mode (and_also before one)) (holds known mode (chain_condition None rest))

  level_says : (items : List Item) → ends false fresh_level items ≡ option_map (holds known mode) (level_condition items)
  level_says items = by (chain_of items)
    where
      by : (chain : Option Chain) → option_map (worth fresh_level) chain ≡ option_map (holds known mode) (option_map (chain_condition None) chain)
      by None = refl
      by (Some chain) = ap Some (chain_holds chain false None)

  -- what stands between a pair of parentheses is an operand of the level around
  group_next : (level : Level) (outer : List Level) (here : List Item) (around : List (List Item)) →
      ends_all (ends false fresh_level here) (level ∷ outer) around
      ≡ ends_all (ends false level (grouped here around).here) outer (grouped here around).around
  group_next level outer here [] = sym (ap (λ chain. ends_all (option_map (worth level) chain) outer []) (no_operand here) ∙ none_ends outer [])
  group_next level outer here (next ∷ more) =
      ap (λ value. ends_all value (level ∷ outer) (next ∷ more)) (level_says here) ∙ by (level_condition here)
    where
      by : (one : Option Condition) →
          ends_all (option_map (holds known mode) one) (level ∷ outer) (next ∷ more) ≡ ends_all (ends false level (Operand one ∷ next)) outer more
      by None = sym (ap (λ chain. ends_all (option_map (worth level) chain) outer more) (no_operand next) ∙ none_ends outer more)
      by (Some one) = ap (λ value. ends_all value outer more) (sym (operand_next one level next))

  -- what comes of symbols behind what was read
  abbrev told_of : Bool → Level → List Level → List Symbol → Option Bool
  told_of ready level outer symbols =
      if is_shallow (length outer) symbols then ends_all (ends ready level (levels_of symbols).here) outer (levels_of symbols).around else None

  told : (symbols : List Symbol) (ready : Bool) (level : Level) (outer : List Level) →
      answer_of (comparison_holds known mode) ready (level ∷ outer) symbols ≡ told_of ready level outer symbols
  told [] true level [] = refl
  told [] true level (next ∷ outer) = refl
  told [] false level [] = refl
  told [] false level (next ∷ outer) = refl
  told (Open ∷ symbols) true level outer = sym (by (levels_of symbols).here (levels_of symbols).around)
    where
      by : (here : List Item) (around : List (List Item)) →
          (if is_shallow (length outer) (Open ∷ symbols) then ends_all (ends true level (grouped here around).here) outer (grouped here around).around else None) ≡ None
      by here [] = never (is_shallow (length outer) (Open ∷ symbols)) _ (none_ends outer [])
      by here (next ∷ more) = never (is_shallow (length outer) (Open ∷ symbols)) _ (none_ends outer more)
  told (Open ∷ symbols) false level outer = by (nat_lt (length outer) 64) (told symbols false fresh_level (level ∷ outer))
    where
      by : (room : Bool) → answer_of (comparison_holds known mode) false (fresh_level ∷ level ∷ outer) symbols ≡ told_of false fresh_level (level ∷ outer) symbols →
          (if room then answer_of (comparison_holds known mode) false (fresh_level ∷ level ∷ outer) symbols else None)
          ≡ (if room && is_shallow (suc (length outer)) symbols then ends_all (ends false level (levels_of (Open ∷ symbols)).here) outer (levels_of (Open ∷ symbols)).around else None)
      by true rest = rest ∙ ap (λ value. if is_shallow (suc (length outer)) symbols then value else None) (group_next level outer (levels_of symbols).here (levels_of symbols).around)
      by false rest = refl
  told (Close ∷ symbols) true level [] = sym (never (is_shallow 0 symbols) _ refl)
  told (Close ∷ symbols) true level (next ∷ outer) = told symbols true (with_operand (level_holds level) next) outer
  told (Close ∷ symbols) false level outer = sym (never (is_shallow (length outer) (Close ∷ symbols)) _ (none_ends outer (levels_of (Close ∷ symbols)).around))
  told (NotWord ∷ symbols) true level outer = sym (never (is_shallow (length outer) symbols) _ (none_ends outer (levels_of symbols).around))
  told (NotWord ∷ symbols) false level outer =
      told symbols false (with_not level) outer
      ∙ ap (λ value. if is_shallow (length outer) symbols then ends_all value outer (levels_of symbols).around else None) (sym (not_next level (levels_of symbols).here))
  told (AndWord ∷ symbols) true level outer = told symbols false level outer
  told (AndWord ∷ symbols) false level outer = sym (never (is_shallow (length outer) symbols) _ (none_ends outer (levels_of symbols).around))
  told (OrWord ∷ symbols) true level outer = told symbols false (with_or level) outer
  told (OrWord ∷ symbols) false level outer = sym (never (is_shallow (length outer) symbols) _ (none_ends outer (levels_of symbols).around))
  told (Test comparison ∷ symbols) true level outer = sym (never (is_shallow (length outer) symbols) _ (none_ends outer (levels_of symbols).around))
  told (Test comparison ∷ symbols) false level outer =
      told symbols true (with_operand (comparison_holds known mode comparison) level) outer
      ∙ ap (λ value. if is_shallow (length outer) symbols then ends_all value outer (levels_of symbols).around else None) (sym (operand_next (Compare comparison) level (levels_of symbols).here))

  -- told from the start, symbols come to whether the condition that they say holds
  pub told_whole : (symbols : List Symbol) →
      answer_of (comparison_holds known mode) false (fresh_level ∷ []) symbols ≡ option_map (holds known mode) (condition_said symbols)
  told_whole symbols = told symbols false fresh_level [] ∙ by (is_shallow 0 symbols) (levels_of symbols).here (levels_of symbols).around
    where
      by : (shallow : Bool) (here : List Item) (around : List (List Item)) →
          (if shallow then ends_all (ends false fresh_level here) [] around else None) ≡ option_map (holds known mode) (if shallow then outermost here around else None)
      by true here [] = level_says here
      by true here (next ∷ more) = refl
      by false here around = refl

-- symbols are accepted exactly where an answer comes of them
accepted : (test : Comparison → Bool) (symbols : List Symbol) (ready : Bool) (level : Level) (outer : List Level) →
    accepts (length outer) ready symbols ≡ is_some (answer_of test ready (level ∷ outer) symbols)
accepted test [] true level [] = refl
accepted test [] true level (next ∷ outer) = refl
accepted test [] false level [] = refl
accepted test [] false level (next ∷ outer) = refl
accepted test (Open ∷ symbols) true level outer = refl
accepted test (Open ∷ symbols) false level outer = by (nat_lt (length outer) 64) (accepted test symbols false fresh_level (level ∷ outer))
  where
    by : (room : Bool) → accepts (suc (length outer)) false symbols ≡ is_some (answer_of test false (fresh_level ∷ level ∷ outer) symbols) →
        (room && accepts (suc (length outer)) false symbols) ≡ is_some (if room then answer_of test false (fresh_level ∷ level ∷ outer) symbols else None)
    by true rest = rest
    by false rest = refl
accepted test (Close ∷ symbols) true level [] = refl
accepted test (Close ∷ symbols) true level (next ∷ outer) = accepted test symbols true (with_operand (level_holds level) next) outer
accepted test (Close ∷ symbols) false level outer = refl
accepted test (NotWord ∷ symbols) true level outer = refl
accepted test (NotWord ∷ symbols) false level outer = accepted test symbols false (with_not level) outer
accepted test (AndWord ∷ symbols) true level outer = accepted test symbols false level outer
accepted test (AndWord ∷ symbols) false level outer = refl
accepted test (OrWord ∷ symbols) true level outer = accepted test symbols false (with_or level) outer
accepted test (OrWord ∷ symbols) false level outer = refl
accepted test (Test comparison ∷ symbols) true level outer = refl
accepted test (Test comparison ∷ symbols) false level outer = accepted test symbols true (with_operand (test comparison) level) outer

-- symbols say a condition exactly where they are accepted
pub accepted_said : (symbols : List Symbol) → is_some (condition_said symbols) ≡ accepts 0 false symbols
accepted_said symbols = by (condition_said symbols) (told_whole (λ var. None) [] symbols) (accepted (comparison_holds (λ var. None) []) symbols false fresh_level [])
  where
    by : (said : Option Condition) →
        answer_of (comparison_holds (λ var. None) []) false (fresh_level ∷ []) symbols ≡ option_map (holds (λ var. None) []) said →
        accepts 0 false symbols ≡ is_some (answer_of (comparison_holds (λ var. None) []) false (fresh_level ∷ []) symbols) →
        is_some said ≡ accepts 0 false symbols
    by None same answers = sym (answers ∙ ap is_some same)
    by (Some one) same answers = sym (answers ∙ ap is_some same)

-- a `)` behind an operand closes one of the parentheses that are open
pub closes : (depth : ℕ) (more : List Symbol) → 0 < depth → accepts depth true (Close ∷ more) ≡ accepts (depth - 1) true more
closes zero more some = absurd (omega arith)
closes (suc depth) more some = let e : depth ≡ suc depth - 1 = omega arith in ap (λ left. accepts left true more) e
