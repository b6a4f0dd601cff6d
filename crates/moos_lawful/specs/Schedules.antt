-- Which histories are lawful for a schedule: each client does what it is due to do over what it has heard. In one that is lawful
-- so far each has done the first of that, and what is left may still come in its order.
use Rattle.std.specs.Prelude.{◌≡◌, ℕ, ◌<◌, ◌≤◌, ◌&&◌, Bool, true, nat_le, nat_lt, IsTrue, List, [], ◌∷◌, ◌++◌, filter, length, map}
use Rattle.std.specs.List.{list_all}
use Rattle.moos_post.specs.declared.entry.Entry.{Entry}
use Rattle.moos_post.specs.Delivery.{is_fetch}
use Rattle.moos_post.specs.History.{History}
use Rattle.moos_client.specs.Calls.{entries_of}
use Rattle.moos_client.specs.Hearing.{fetches, heard_in, Mailed}

-- the entries of the clients below a number
abbrev pub entries_below : ℕ → History → History
entries_below number history = filter (λ entry. nat_lt entry.client number) history

-- the entries of the clients from a number on
abbrev pub entries_from : ℕ → History → History
entries_from number history = filter (λ entry. nat_le number entry.client) history

-- whether all entries are of clients below a number
abbrev pub clients_below : ℕ → History → Bool
clients_below number history = list_all (λ entry. nat_lt entry.client number) history

-- no number is below the one before, nor the first below a bound
abbrev pub never_falls : ℕ → List ℕ → Bool
never_falls low [] = true
never_falls low (n ∷ ns) = nat_le low n && never_falls n ns

-- What is played: how the history begins, what each of the known clients is due to do over what it hears, what it hears, how
-- many clients have a name, and the moment of an entry, before which no entry of a later moment may be.
pub record Schedule (A : Type 0) : Type 0 where
  pub start : History
  pub known : ℕ
  pub names : ℕ
  pub due : ℕ → List A → List Entry
  pub mailed : Mailed A
  pub moment : Entry → ℕ

-- what a client is due to do over what it has heard behind the start
abbrev pub due_in : {A : Type 0} → Schedule A → ℕ → History → List Entry
due_in schedule n rest = schedule.due n (heard_in schedule.mailed n schedule.start rest)

-- the moments of the known clients' entries in a history, and then of these entries
abbrev pub moments_with : {A : Type 0} → Schedule A → History → List Entry → List ℕ
moments_with schedule rest more = map schedule.moment (entries_below schedule.known rest ++ more)

-- A history that is lawful so far: behind the start each known client's entries are the first of what it is due to do, over what
-- it hears in this history, and the others are left. No entry follows one of a later moment, nor would one that is left.
-- Clients that aren't known may have any entries, but nobody without a name has one.
pub record IsLawfulSoFar {A : Type 0} (schedule : Schedule A) (history : History) : Type 0 where
  pub rest : History
  pub opened : history ≡ schedule.start ++ rest
  pub left : ℕ → List Entry
  pub own : (n : ℕ) → n < schedule.known → due_in schedule n rest ≡ entries_of n rest ++ left n
  pub moments : (n : ℕ) → n < schedule.known → IsTrue (never_falls 0 (moments_with schedule rest (left n)))
  pub named : IsTrue (clients_below schedule.names rest)

-- A history that is lawful for a schedule: behind the start each known client's entries are what it is due to do over what it
-- hears in this very history, no known client's entry follows one of a later moment, and nobody without a name has an entry.
-- Clients that aren't known may have any entries.
pub record IsLawfulFor {A : Type 0} (schedule : Schedule A) (history : History) : Type 0 where
  pub rest : History
  pub opened : history ≡ schedule.start ++ rest
  pub own : (n : ℕ) → n < schedule.known → entries_of n rest ≡ due_in schedule n rest
  pub moments : IsTrue (never_falls 0 (moments_with schedule rest []))
  pub named : IsTrue (clients_below schedule.names rest)

-- some more entries of the known clients, with which a history is lawful
pub record Completion {A : Type 0} (schedule : Schedule A) (history : History) : Type 0 where
  pub rest : History
  pub known_alone : IsTrue (clients_below schedule.known rest)
  pub lawful : IsLawfulFor schedule (history ++ rest)

-- What makes a schedule playable: a client is due to make entries of its own, and what it hears at a fetch changes only what it
-- is due to do behind that, but not when that is due.
pub record IsPlayable {A : Type 0} (schedule : Schedule A) : Type 0 where
  pub room : schedule.known ≤ schedule.names
  pub own : (n : ℕ) (heard : List A) (done : List Entry) (entry : Entry) (left : List Entry) → schedule.due n heard ≡ done ++ entry ∷ left → entry.client ≡ n
  pub grows : (n : ℕ) (heard : List A) (more : A) (done : List Entry) (entry : Entry) (left : List Entry) → schedule.due n heard ≡ done ++ entry ∷ left → IsTrue (is_fetch entry.call) → fetches done ≡ length heard
      → (left' : List Entry) × (schedule.due n (heard ++ more ∷ []) ≡ done ++ entry ∷ left') × (map schedule.moment left' ≡ map schedule.moment left)
