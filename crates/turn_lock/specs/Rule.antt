-- What the words, the slot and the passes of a lock keep between any two steps. The history is in the proofs alone.
use Rattle.std.specs.Prelude.{◌≡◌, ℕ, ◌+◌, ◌-◌, ◌%◌, ◌^◌, ◌<◌, ◌≤◌, ◌==◌, ◌⊎◌, Bool, true, false, if◌then◌else◌, List, [], ◌∷◌, length, count_by, Option, Some, None}
use Rattle.std.specs.List.{sum_by}
use mathlib.Core.Option.{some, none}
use lib.ListN.{get_elem?}
use Rattle.atomic_table.specs.Table.{State}
use Rattle.atomic_table.specs.Seated.{TableId}
use Rattle.turn_lock.specs.declared.view.Known.{Known}
use Rattle.turn_lock.specs.declared.view.Turn.{Turn}
use Rattle.turn_lock.specs.declared.view.Turn.TheVariants.{Idle, Waits, Holds}
use Rattle.turn_lock.specs.Passes.{Begins, events_in, has_number, own, PassState}

-- the history that a turn began with
abbrev pub turn_start : {E : Type 0} → Turn E → Option (List E)
turn_start Idle = None
turn_start (Waits ticket) = None
turn_start (Holds ticket history) = Some history

-- what a pass shows of what it knows
abbrev pub shown : {E B : Type 0} → TableId → Known E B → PassState E B
shown lock v =
    record {
      lock = lock;
      live = v.live;
      base = v.base;
      number = v.number;
      seen = v.seen;
      mine = v.mine;
      left = v.left;
      made = v.made;
      met = v.met;
      turn = turn_start v.turn;
    }

-- the pass waits for its turn or holds it
abbrev pub has_ticket : {E : Type 0} → Turn E → Bool
has_ticket Idle = false
has_ticket (Waits ticket) = true
has_ticket (Holds ticket history) = true

-- the pass holds the turn
abbrev pub has_turn : {E : Type 0} → Turn E → Bool
has_turn Idle = false
has_turn (Waits ticket) = false
has_turn (Holds ticket history) = true

-- how many tickets a pass has out
abbrev pub tickets : {E B : Type 0} → Known E B → ℕ
tickets v = if v.live then (if has_ticket v.turn then 1 else 0) else 0

-- how many of the lock's passes are in this one: itself and those that it has taken in
abbrev pub weight : {E B : Type 0} → Known E B → ℕ
weight v = if v.live then 1 + length v.met else 0

-- how often a pass knows a number: as its own, and as that of a pass that it has taken in
abbrev pub times : {E B : Type 0} → Known E B → ℕ → ℕ
times v n = (if v.number == n then 1 else 0) + count_by (has_number n) v.met

-- the events of a number that a pass knows
abbrev pub known_in : {E B : Type 0} → Known E B → ℕ → List E
known_in v n = if v.number == n then v.mine else events_in v.met n

-- The history, the seat of the pass that knows a number, how many numbers were given out, the ticket whose turn it is, and
-- the seats that have a ticket, from that one on.
pub record Book (E : Type 0) : Type 0 where
  pub log : List E
  pub owner : ℕ → ℕ
  pub total : ℕ
  pub start : ℕ
  pub queue : List ℕ

-- where the pass of a seat is in the queue
abbrev pub IsPlaced : {E : Type 0} → Book E → ℕ → Turn E → Type 0
IsPlaced book seat Idle = Unit {0}
IsPlaced book seat (Waits ticket) = (k : ℕ) × (ticket ≡ book.start + k) × (get_elem? book.queue k ≡ some seat)
IsPlaced book seat (Holds ticket history) = (ticket ≡ book.start) × (get_elem? book.queue 0 ≡ some seat) × (history ≡ book.log)

-- a number that a pass knows: the history has just the events that the pass knows of it, and nobody else knows the number
pub record IsKnown {E B : Type 0} (number : E → ℕ) (log : List E) (owner : ℕ → ℕ) (total seat : ℕ) (v : Known E B) (n : ℕ) : Type 0 where
  pub events : own number n log ≡ known_in v n
  pub given : n < total
  pub here : owner n ≡ seat

-- what a pass knows is so
pub record Fits {E B : Type 0} (number : E → ℕ) (base : B) (log : List E) (owner : ℕ → ℕ) (total seat : ℕ) (v : Known E B) : Type 0 where
  pub same : v.base ≡ Some base
  pub seen : Begins log v.seen
  pub told : Begins log v.told
  pub each : (n : ℕ) → 0 < times v n → IsKnown number log owner total seat v n
  pub once : (n : ℕ) → times v n ≤ 1
  pub first : v.number ≡ 0 → (v.made + 1 ≡ total) × (total + v.left ≤ 2 ^ 32)
  pub other : 0 < v.number → v.left ≡ 0

-- the pass at a seat that knows a number
abbrev pub IsHeldAt : {E B : Type 0} → List (Known E B) → ℕ → ℕ → Type 0
IsHeldAt {E} {B} views seat n = (v : Known E B) × (get_elem? views seat ≡ some v) × (v.live ≡ true) × (0 < times v n)

-- the words, the passes and the history fit
pub record Stands {E B : Type 0} (number : E → ℕ) (base : B) (book : Book E) (words : List ℕ) (views : List (Known E B)) : Type 0 where
  pub words_are : words ≡ (book.start + length book.queue) % 2 ^ 64 ∷ book.start % 2 ^ 64 ∷ []
  pub each : (seat : ℕ) (v : Known E B) → get_elem? views seat ≡ some v → v.live ≡ true → Fits number base book.log book.owner book.total seat v × IsPlaced book seat v.turn
  pub whole : sum_by weight views ≡ book.total
  pub lined : sum_by tickets views ≡ length book.queue
  pub few : book.total ≤ 2 ^ 32
  pub covered : (n : ℕ) → n < book.total → IsHeldAt views (book.owner n) n
  pub others : (n : ℕ) → book.total ≤ n → own number n book.log ≡ []

-- the value is out with the pass whose turn it is
abbrev pub IsOut : {E B S : Type 0} → Book E → State (Option S) (Known E B) → Type 0
IsOut {E} {B} book s =
    (s.homes ≡ none ∷ []) × ((seat : ℕ) × (v : Known E B) × (get_elem? book.queue 0 ≡ some seat) × (get_elem? s.views seat ≡ some v) × (v.live ≡ true) × (has_turn v.turn ≡ true))

-- the value lies in the slot, with this history, and nobody holds a turn
abbrev pub IsHome : {E B S : Type 0} → (S → B) → (S → List E) → B → Book E → State (Option S) (Known E B) → Type 0
IsHome {E} {B} {S} base_of history_of base book s =
    (x : S) × (s.homes ≡ some (Some x) ∷ []) × (history_of x ≡ book.log) × (base_of x ≡ base)
    × ((seat : ℕ) (v : Known E B) → get_elem? s.views seat ≡ some v → v.live ≡ true → has_turn v.turn ≡ false)

-- the rule of a lock over a value that stood for this base when the lock was made
abbrev pub TurnRule : {E B S : Type 0} → (S → B) → (S → List E) → (E → ℕ) → B → State (Option S) (Known E B) → Type 0
TurnRule {E} base_of history_of number base s =
    (book : Book E) × Stands number base book s.words s.views × (IsOut book s ⊎ IsHome base_of history_of base book s)

-- what the first pass knows when the lock is made
abbrev pub newcomer : {E B : Type 0} → B → ℕ → Known E B
newcomer base passes =
    record { live = true; base = Some base; number = 0; seen = []; told = []; mine = []; left = passes - 1; made = 0; met = []; turn = Idle }
