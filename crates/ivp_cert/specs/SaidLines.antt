-- The lines that say something, of a problem and of a decision.
use Rattle.std.specs.Prelude.{ℕ, suc, List, [], ◌∷◌, Result, Ok, Err}
use Rattle.moos_text.specs.declared.cause.Cause.TheVariants.{P1}
use Rattle.moos_text.specs.declared.cause.ReadFault.{ReadFault}
use Rattle.moos_text.specs.declared.cause.ReadFault.TheVariants.{At}
use Rattle.ivp_cert.specs.Words.{line_words}

-- a line that says something: its number, its first word, and those behind
pub record SaidLine : Type 0 where
  pub line : ℕ
  pub word : List ℕ
  pub rest : List (List ℕ)

-- the line of this number and these words in front of the lines behind it; without a word it says nothing
abbrev pub said_with : ℕ → List (List ℕ) → List SaidLine → List SaidLine
said_with line [] behind = behind
said_with line (word ∷ rest) behind = record { line = line; word = word; rest = rest } ∷ behind

-- the lines that say something, if `before` lines are before them
abbrev pub said_from : ℕ → List (List ℕ) → List SaidLine
said_from before [] = []
said_from before (raw ∷ raws) = said_with (suc before) (line_words raw) (said_from (suc before) raws)

-- what was read, if nothing more is said: no line behind it says anything
abbrev pub nothing_more : {A : Type 0} → A → List SaidLine → Result A ReadFault
nothing_more value [] = Ok value
nothing_more value (said ∷ behind) = Err (At said.line P1)
