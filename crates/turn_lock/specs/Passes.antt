-- What a pass of a lock shows, and what it says of the history of the value under the lock.
use Rattle.std.specs.Prelude.{◌≡◌, ℕ, ◌-◌, ◌==◌, nat_lt, Bool, true, not, if◌then◌else◌, List, [], ◌∷◌, ◌++◌, filter, length, Option, Some, None}
use Rattle.atomic_table.specs.Seated.{TableId}
use Rattle.turn_lock.specs.declared.view.Met.{Met}

-- the events of one number, in order
abbrev pub own : {E : Type 0} → (E → ℕ) → ℕ → List E → List E
own number n history = filter (λ event. number event == n) history

-- the history begins with this front
abbrev pub Begins : {E : Type 0} → List E → List E → Type 0
Begins {E} history front = (rest : List E) × (history ≡ front ++ rest)

-- the longer of two histories
abbrev pub longer : {E : Type 0} → List E → List E → List E
longer one other = if nat_lt (length one) (length other) then other else one

-- What a pass shows: its lock, and whether it is still one of the lock's, which it isn't once the lock is closed; the
-- base of the lock's value; its number; the history that it has seen; its own events; how many passes it may still split
-- off, and how many it did; the numbers whose passes it has taken in, each with its events; and, while it holds a turn,
-- the history when the turn began.
pub record PassState (E B : Type 0) : Type 0 where
  pub lock : TableId
  pub live : Bool
  pub base : Option B
  pub number : ℕ
  pub seen : List E
  pub mine : List E
  pub left : ℕ
  pub made : ℕ
  pub met : List (Met E)
  pub turn : Option (List E)

-- what a lock shows: which one it is, and the base of its value
pub record LockState (B : Type 0) : Type 0 where
  pub lock : TableId
  pub base : B

-- the pass is one of the lock's
pub record IsOf {E B : Type 0} (lock : LockState B) (pass : PassState E B) : Type 0 where
  pub same : pass.lock ≡ lock.lock
  pub live : pass.live ≡ true
  pub base : pass.base ≡ Some lock.base

-- the pass holds no turn
abbrev pub IsFree : {E B : Type 0} → PassState E B → Type 0
IsFree pass = pass.turn ≡ None

-- what was lent to a pass of this number, when the value had this history, was lent to this pass in the turn that it holds
pub record WasLent {E B : Type 0} (pass : PassState E B) (number : ℕ) (history : List E) : Type 0 where
  pub number_is : number ≡ pass.number
  pub turn_is : pass.turn ≡ Some history

-- what was taken in are the events of this number
abbrev pub has_number : {E : Type 0} → ℕ → Met E → Bool
has_number n met = met.number == n

-- the events of a number whose pass was taken in, none if none was
abbrev pub events_in : {E : Type 0} → List (Met E) → ℕ → List E
events_in [] n = []
events_in (one ∷ met) n = if has_number n one then one.events else events_in met n

-- what was taken in without the events of this number
abbrev pub without_number : {E : Type 0} → ℕ → List (Met E) → List (Met E)
without_number n met = filter (λ one. not (has_number n one)) met

-- all of the lock's passes have been taken in by this one, the first
pub record HasAll {E B : Type 0} (pass : PassState E B) : Type 0 where
  pub first : pass.number ≡ 0
  pub all : length pass.met ≡ pass.made

-- the events of a number that a pass knows: its own, or those of a pass that it has taken in
abbrev pub known_of : {E B : Type 0} → PassState E B → ℕ → List E
known_of pass n = if pass.number == n then pass.mine else events_in pass.met n

-- the history has of each number just the events that the pass knows, in order
abbrev pub KnowsAll : {E B : Type 0} → (E → ℕ) → PassState E B → List E → Type 0
KnowsAll number pass history = (n : ℕ) → own number n history ≡ known_of pass n

-- the first pass of a lock that may have `passes` of them
abbrev pub first_pass : {E B : Type 0} → LockState B → ℕ → PassState E B
first_pass lock passes =
    record { lock = lock.lock; live = true; base = Some lock.base; number = 0; seen = []; mine = []; left = passes - 1; made = 0; met = []; turn = None }

-- a pass of a number and these events, which has seen as much as another one and holds no turn
abbrev pub beside : {E B : Type 0} → PassState E B → ℕ → List E → PassState E B
beside pass n mine =
    record { lock = pass.lock; live = pass.live; base = pass.base; number = n; seen = pass.seen; mine = mine; left = 0; made = 0; met = []; turn = None }

-- a pass after it took another one in
abbrev pub met_with : {E B : Type 0} → PassState E B → PassState E B → PassState E B
met_with pass other =
    record pass { seen = longer pass.seen other.seen; met = pass.met ++ record { number = other.number; events = other.mine } ∷ other.met }
