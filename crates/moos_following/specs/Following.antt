-- Which entry may come next behind a history that is lawful so far, and which schedules leave each lawful history to be made
-- entry by entry.
use Rattle.std.specs.Prelude.{◌≡◌, ℕ, ◌<◌, ◌≤◌, IsTrue, List, ◌∷◌, ◌++◌, length, map}
use Rattle.moos_post.specs.declared.entry.Entry.{Entry}
use Rattle.moos_post.specs.History.{History}
use Rattle.moos_client.specs.Hearing.{fetches}
use Rattle.moos_lawful.specs.Schedules.{IsLawfulSoFar, never_falls, Schedule}

-- An entry that may come next: it is the first of what is left for its client, which is a known one, and nothing that is left for
-- whichever known client is of an earlier moment.
pub record MayFollow {A : Type 0} (schedule : Schedule A) (history : History) (so : IsLawfulSoFar schedule history) (entry : Entry) : Type 0 where
  pub known : entry.client < schedule.known
  pub later : List Entry
  pub next : so.left entry.client ≡ entry ∷ later
  pub first : (n : ℕ) → n < schedule.known → IsTrue (never_falls (schedule.moment entry) (map schedule.moment (so.left n)))

-- What makes a schedule one of steps: what a client is due to do next is settled by what it heard at its fetches before that, and
-- when it is due to do what is settled from the start.
pub record IsStepwise {A : Type 0} (schedule : Schedule A) : Type 0 where
  pub next : (n : ℕ) (heard more : List A) (done : List Entry) (entry : Entry) (left : List Entry) → schedule.due n (heard ++ more) ≡ done ++ entry ∷ left → fetches done ≤ length heard
      → (left' : List Entry) × (schedule.due n heard ≡ done ++ entry ∷ left')
  pub moments : (n : ℕ) (heard other : List A) → map schedule.moment (schedule.due n heard) ≡ map schedule.moment (schedule.due n other)
