-- The summary of a run: how much there was of what in its history, and what its helm decided.
use Rattle.std.specs.Prelude.{ℕ, zero, suc, ◌+◌, ◌*◌, ◌^◌, ◌≤◌, Option, None, Some, is_some, List, [], ◌∷◌, length, count_by, sum_by, codes, decimal}
use Rattle.std.specs.List.{concat}
use Rattle.moos_post.specs.Delivery.{mail_at}
use Rattle.moos_post.specs.History.{History, posts_of}
use Rattle.moos_text.specs.Numbers.{unsigned_text}
use Rattle.ivp_cert.specs.declared.claim.Decision.{Decision}
use Rattle.helm_core.specs.declared.iteration.Iteration.{Iteration}
use Rattle.moos_jobs.specs.declared.counts.IterationCounts.{IterationCounts}
use Rattle.moos_jobs.specs.declared.counts.RunCounts.{RunCounts}

-- how many letters the first k entries gave: each fetch its mail, and every other entry none
abbrev pub letters_given : List (List ℕ) → History → ℕ → ℕ
letters_given names history zero = 0
letters_given names history (suc k) = letters_given names history k + length (mail_at names history k)

-- the sum of the decided point, in thousandths; 0 if nothing was decided
abbrev pub decided_sum : Option Decision → ℕ
decided_sum None = 0
decided_sum (Some decision) = decision.claim.sum

-- What is counted of the helm's iterations: how many there are, those with a decision, and the sum of the sums that were decided
-- for.
abbrev pub iterations_counted : List Iteration → IterationCounts
iterations_counted iterations = record {
  iterations = length iterations;
  decisions = count_by (λ (iteration : Iteration). is_some iteration.decision) iterations;
  total = sum_by (λ (iteration : Iteration). decided_sum iteration.decision) iterations;
}

-- there are no more decisions than iterations, and the total isn't above what as many numbers of 64 bits come to
pub record AreBoundedCounts (counted : IterationCounts) : Type 0 where
  pub decisions : counted.decisions ≤ counted.iterations
  pub total : counted.total ≤ counted.iterations * 2 ^ 64

-- What is counted of a run: its entries, its posts, the letters of all fetches, and this of the helm's iterations.
abbrev pub counts_of : List (List ℕ) → History → IterationCounts → RunCounts
counts_of names history counted = record {
  entries = length history;
  posts = length (posts_of history);
  mailed = letters_given names history (length history);
  iterations = counted.iterations;
  decisions = counted.decisions;
  total = counted.total;
}

-- the lines of a summary: the number of the mission, and what is counted; the total prints like a sum
abbrev pub counts_text : ℕ → RunCounts → List ℕ
counts_text number counts =
    concat (codes "generated " ∷ decimal number ∷ codes "\nentries " ∷ decimal counts.entries ∷ codes "\nposts " ∷ decimal counts.posts
    ∷ codes "\nmailed " ∷ decimal counts.mailed ∷ codes "\niterations " ∷ decimal counts.iterations ∷ codes "\ndecisions " ∷ decimal counts.decisions
    ∷ codes "\ntotal " ∷ unsigned_text counts.total ∷ codes "\n" ∷ [])

-- The summary of the run of the mission with this number.
abbrev pub summary_text : ℕ → List (List ℕ) → History → List Iteration → List ℕ
summary_text number names history iterations = counts_text number (counts_of names history (iterations_counted iterations))
