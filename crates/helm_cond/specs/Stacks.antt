-- The levels that are open, kept in a row of which the last in use is the innermost: this serves `holds` alone.
use Rattle.std.specs.Prelude.{◌≡◌, ℕ, zero, suc, ◌<◌, List, [], ◌∷◌, length, slice_index_or}
use Rattle.helm_cond.specs.declared.level.Level.{Level}
use Rattle.helm_cond.specs.Levels.{fresh_level, level_holds, with_operand}

-- the levels up to this place, the last one first
abbrev pub stack_of : List Level → ℕ → List Level
stack_of levels zero = slice_index_or levels 0 fresh_level ∷ []
stack_of levels (suc innermost) = slice_index_or levels (suc innermost) fresh_level ∷ stack_of levels innermost

-- a row of 65 levels, of which those up to this place are in use
pub record IsInUse (levels : List Level) (innermost : ℕ) : Type 0 where
  pub row : length levels ≡ 65
  pub within : innermost < 65

-- the levels after the innermost one has changed
abbrev pub on_innermost : (Level → Level) → List Level → List Level
on_innermost change [] = []
on_innermost change (level ∷ outer) = change level ∷ outer

-- the levels after the innermost one has ended, as an operand of the one around
abbrev pub level_closed : List Level → List Level
level_closed [] = []
level_closed (level ∷ []) = []
level_closed (level ∷ outer ∷ more) = with_operand (level_holds level) outer ∷ more
