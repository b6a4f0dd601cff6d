-- What a verdict says of a text.
use Rattle.std.specs.Prelude.{◌≡◌, ◌⊎◌, ◌<◌, ℕ, suc, List}
use Rattle.moos_verdict.specs.declared.verdict.Verdict.{Verdict}
use Rattle.moos_verdict.specs.declared.verdict.Verdict.TheVariants.{Accepted, CutOff, NotLawful}
use Rattle.moos_verdict.specs.Cases.{BeginsReportIn, Case, IsReportIn}
use Rattle.moos_verdict.specs.Lines.{first_lines, whole_lines}

-- All whole lines of the text, which are so many, are how the report of a lawful history begins, and not all of one. A last line
-- without an end isn't judged.
pub record BreaksOffBehind (case : Case) (text : List ℕ) (good : ℕ) : Type 0 where
  pub all : whole_lines text ≡ good
  pub front : BeginsReportIn case (first_lines good text)
  pub more : IsReportIn case (first_lines good text) → ⊥

-- The first lines, so many, are how the report of a lawful history begins, and with the line behind them no such report begins. That
-- line has its end, or it stands behind a whole report, where nothing may stand.
pub record IsUnlawfulBehind (case : Case) (text : List ℕ) (good : ℕ) : Type 0 where
  pub front : BeginsReportIn case (first_lines good text)
  pub first : BeginsReportIn case (first_lines (suc good) text) → ⊥
  pub line : (good < whole_lines text) ⊎ IsReportIn case (first_lines good text)

-- The text is the report of a lawful history; or it breaks off behind so many lines; or the line behind so many is the first that
-- isn't lawful.
abbrev pub IsJudgedAs : Case → List ℕ → Verdict → Type 0
IsJudgedAs case text Accepted = IsReportIn case text
IsJudgedAs case text (CutOff good) = BreaksOffBehind case text good
IsJudgedAs case text (NotLawful good) = IsUnlawfulBehind case text good
