-- A row of levels, and the stack that contracts see.
use Rattle.std.proofs.Common.{◌≡◌, ◌≢◌, ℕ, zero, suc, ◌+◌, ◌-◌, ◌<◌, Bool, List, [], ◌∷◌, length, get_or, refl, ap, sym, ◌∙◌, arith}
use Rattle.std.proofs.Math.ListN.{set}
use Rattle.std.proofs.lemmas.List.{get_or-set_other, get_or-set_same}
use Rattle.helm_cond.specs.declared.level.Level.{Level}
use Rattle.helm_cond.specs.Levels.{fresh_level, level_holds, with_operand}
use Rattle.helm_cond.specs.Stacks.{stack_of, on_innermost, level_closed}

-- the levels around the one at this place
abbrev pub around_of : List Level → ℕ → List Level
around_of levels zero = []
around_of levels (suc innermost) = stack_of levels innermost

pub stack_is : (levels : List Level) (place : ℕ) → stack_of levels place ≡ get_or levels place fresh_level ∷ around_of levels place
stack_is levels zero = refl
stack_is levels (suc place) = refl

pub stack_length : (levels : List Level) (place : ℕ) → length (stack_of levels place) ≡ place + 1
stack_length levels zero = refl
stack_length levels (suc place) = let rest : length (stack_of levels place) ≡ place + 1 = stack_length levels place in omega arith

-- a level that changes above them leaves levels as they were
pub stack_below : (levels : List Level) (place other : ℕ) (level : Level) → place < other → stack_of (set levels other level) place ≡ stack_of levels place
stack_below levels zero other level below =
    let differ : 0 ≢ other = omega arith in ap (λ first. first ∷ []) (get_or-set_other levels other 0 level fresh_level differ)
stack_below levels (suc place) other level below =
    let differ : suc place ≢ other = omega arith in
    ap (λ first. first ∷ stack_of (set levels other level) place) (get_or-set_other levels other (suc place) level fresh_level differ)
    ∙ ap (λ rest. get_or levels (suc place) fresh_level ∷ rest) (stack_below levels place other level (omega arith))

around_below : (levels : List Level) (place : ℕ) (level : Level) → around_of (set levels place level) place ≡ around_of levels place
around_below levels zero level = refl
around_below levels (suc place) level = stack_below levels place (suc place) level (omega arith)

-- the level at the place changes
pub stack_changed : (levels : List Level) (place : ℕ) (level : Level) → place < length levels → stack_of (set levels place level) place ≡ level ∷ around_of levels place
stack_changed levels place level within =
    stack_is (set levels place level) place
    ∙ ap (λ first. first ∷ around_of (set levels place level) place) (get_or-set_same levels place level fresh_level within)
    ∙ ap (λ rest. level ∷ rest) (around_below levels place level)

-- the level at the place, whatever stands for one where there is none
level_at : (levels : List Level) (place : ℕ) (a b : Level) → place < length levels → get_or levels place a ≡ get_or levels place b
level_at [] place a b within = absurd (omega arith)
level_at (level ∷ levels) zero a b within = refl
level_at (level ∷ levels) (suc place) a b within = level_at levels place a b (omega arith)

-- a change of the level at the place is one of the innermost level
pub innermost_changes : (levels : List Level) (place : ℕ) (change : Level → Level) (level other : Level) → place < length levels → level ≡ change (get_or levels place other) →
    stack_of (set levels place level) place ≡ on_innermost change (stack_of levels place)
innermost_changes levels place change level other within is =
    stack_changed levels place level within
    ∙ ap (λ first. first ∷ around_of levels place) (is ∙ ap change (level_at levels place other fresh_level within))
    ∙ ap (on_innermost change) (sym (stack_is levels place))

-- a level more
pub opens : (levels : List Level) (place : ℕ) (level : Level) → place + 1 < length levels → stack_of (set levels (place + 1) level) (place + 1) ≡ level ∷ stack_of levels place
opens levels place level within =
    let e : place + 1 ≡ suc place = omega arith in
    ap (λ next. stack_of (set levels next level) next) e ∙ stack_changed levels (suc place) level (omega arith)

-- and one less
pub ends : (levels : List Level) (place : ℕ) (other : Level) (holds : Bool) → place < length levels → 1 < length (stack_of levels place) → holds ≡ level_holds (get_or levels place other) →
    on_innermost (with_operand holds) (stack_of levels (place - 1)) ≡ level_closed (stack_of levels place)
ends levels zero other holds within some is = absurd (omega arith)
ends levels (suc place) other holds within some is =
    let e : suc place - 1 ≡ place = omega arith in
    ap (λ before. on_innermost (with_operand holds) (stack_of levels before)) e
    ∙ ap (λ value. on_innermost (with_operand value) (stack_of levels place)) (is ∙ ap level_holds (level_at levels (suc place) other fresh_level within))
    ∙ ap (on_innermost (with_operand (level_holds (get_or levels (suc place) fresh_level)))) (stack_is levels place)
    ∙ ap (λ stack. level_closed (get_or levels (suc place) fresh_level ∷ stack)) (sym (stack_is levels place))
