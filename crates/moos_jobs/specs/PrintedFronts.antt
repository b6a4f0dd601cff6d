-- What stands of a report that is written as it comes, when no memory is left.
use Rattle.std.specs.Prelude.{◌≡◌, ℕ, List, ◌++◌, length}
use Rattle.helm_core.specs.declared.iteration.Iteration.{Iteration}
use Rattle.moos_post.specs.History.{History}
use Rattle.moos_report.specs.declared.setup.Setup.{Setup}
use Rattle.moos_report.specs.IterationLines.{helm_fetches}
use Rattle.moos_report.specs.Parts.{front_text}

-- The text is what is printed of a front of a history that may be: of its first entries, and of the first of its iterations, just those
-- for which the helm fetches among these entries.
pub record IsFrontPrinted (setup : Setup) (names : List (List ℕ)) (MayBe : History → Type 0) (iterations_of : History → List Iteration) (text : List ℕ) : Type 0 where
  pub front : History
  pub rest : History
  pub may : MayBe (front ++ rest)
  pub made : List Iteration
  pub more : List Iteration
  pub iterations : iterations_of (front ++ rest) ≡ made ++ more
  pub fetched : helm_fetches names front ≡ length made
  pub printed : text ≡ front_text setup names front made
