use Rattle.std.proofs.Common.{◌≡◌, ◌≤◌, ◌*◌, ◌^◌}
use Rattle.moos_jobs.specs.Summary.{letters_given}
use Rattle.moos_jobs.proofs.counts.letters_given.Given as goal

-- the letters so far
abbrev pub invariant-loop-k : goal.invariant-loop-k
invariant-loop-k l = (l.given ≡ letters_given l.db.names l.db.history l.k) × (l.given ≤ l.k * 2 ^ 64)
