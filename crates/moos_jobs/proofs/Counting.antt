-- Counts and sums that grow by one more.
use Rattle.std.proofs.Common.{◌≡◌, ℕ, ◌+◌, List, length, ap, add-one}
use Rattle.moos_post.specs.Delivery.{mail_at}
use Rattle.moos_post.specs.History.{History}
use Rattle.moos_jobs.specs.Summary.{letters_given}

pub letters_more : (names : List (List ℕ)) (history : History) (k : ℕ) → letters_given names history (k + 1) ≡ letters_given names history k + length (mail_at names history k)
letters_more names history k = ap (letters_given names history) (add-one k)
