-- What each step on a lock's words tells the pass that makes it.
use Rattle.std.specs.Prelude.{◌≡◌, ℕ, ◌+◌, ◌-◌, ◌%◌, ◌^◌, ◌==◌, ◌⊎◌, true, false, List, [], ◌∷◌, ◌++◌, length, drop, Option, Some, None, MatchBool, unwrap_or}
use Rattle.atomic_table.specs.Table.{Me, rest, Step}
use Rattle.turn_lock.specs.declared.view.Known.{Known}
use Rattle.turn_lock.specs.declared.view.Turn.{Turn}
use Rattle.turn_lock.specs.declared.view.Turn.TheVariants.{Idle, Waits, Holds}
use Rattle.turn_lock.specs.Passes.{Begins, events_in, longer, own, without_number}
use Rattle.turn_lock.specs.Rule.{known_in, turn_start}

-- what a seat has in hand: the value's place while its turn is held
abbrev pub hand_of : {E S : Type 0} → Turn E → List (ℕ × Option S)
hand_of Idle = []
hand_of (Waits ticket) = []
hand_of (Holds ticket history) = (0, None) ∷ []

-- between calls a pass doesn't wait
abbrev pub IsAtRest : {E : Type 0} → Turn E → Type 0
IsAtRest Idle = Unit {0}
IsAtRest (Waits ticket) = ⊥
IsAtRest (Holds ticket history) = Unit {0}

-- a ticket was drawn: the word holds it modulo 2^64
abbrev pub Draws : {E B S : Type 0} → Step S → Me S (Known E B) → ℕ → Me S (Known E B) → Type 0
Draws step me found after = (ticket : ℕ) × (found ≡ ticket % 2 ^ 64) × (after ≡ (record me.0 { turn = Waits ticket }, me.1))

-- the value is lent to a pass in its turn: its history begins with all that the pass has seen, has of its number just its
-- own events, and is whole if the pass has taken in all others
pub record IsLent {E B S : Type 0} (base_of : S → B) (history_of : S → List E) (number : E → ℕ) (ticket : ℕ) (v : Known E B) (x : S) (w : Known E B) : Type 0 where
  pub holds : w ≡ record v { turn = Holds ticket (history_of x) }
  pub seen : Begins (history_of x) v.seen
  pub mine : own number v.number (history_of x) ≡ v.mine
  pub base : v.base ≡ Some (base_of x)
  pub whole : v.number ≡ 0 → length v.met ≡ v.made → (n : ℕ) → own number n (history_of x) ≡ known_in v n

-- the value was taken
abbrev pub Takes : {E B S : Type 0} → (S → B) → (S → List E) → (E → ℕ) → ℕ → Me (Option S) (Known E B) → Me (Option S) (Known E B) → Type 0
Takes {E} {B} {S} base_of history_of number ticket me after =
    (x : S) × IsLent base_of history_of number ticket me.0 x after.0 × (after.1 ≡ (0, Some x) ∷ me.1)

-- if the word is the ticket's the value was taken, and else nothing changed
abbrev pub Polls : {E B S : Type 0} → (S → B) → (S → List E) → (E → ℕ) → Step (Option S) → Me (Option S) (Known E B) → ℕ → Me (Option S) (Known E B) → Type 0
Polls base_of history_of number step me found after =
    (ticket : ℕ) → me.0.turn ≡ Waits ticket → MatchBool (found == ticket % 2 ^ 64) (Takes base_of history_of number ticket me after) (after ≡ me)

-- the history of the value in hand
abbrev pub in_hand : {E S : Type 0} → (S → List E) → List (ℕ × Option S) → List E
in_hand history_of [] = []
in_hand history_of ((place, None) ∷ hand) = []
in_hand history_of ((place, Some x) ∷ hand) = history_of x

-- a pass after its turn, in which the history became this one
abbrev pub advanced : {E B : Type 0} → Known E B → List E → Known E B
advanced v history = record v { seen = history; mine = v.mine ++ drop (length (unwrap_or (turn_start v.turn) [])) history; turn = Idle }

-- the value was put back, and the turn is over
abbrev pub Advances : {E B S : Type 0} → (S → List E) → Step (Option S) → Me (Option S) (Known E B) → ℕ → Me (Option S) (Known E B) → Type 0
Advances history_of step me found after = after ≡ (advanced me.0 (in_hand history_of me.1), rest me.1)

-- a turn added no event, or one of this number
abbrev pub Adds : {E : Type 0} → (E → ℕ) → ℕ → List E → Type 0
Adds {E} number n added = (added ≡ []) ⊎ ((event : E) × (added ≡ event ∷ []) × (number event ≡ n))

-- the value comes back in the pass's turn, with its base, and with these events added to its history
pub record Returns {E B S : Type 0} (base_of : S → B) (history_of : S → List E) (number : E → ℕ) (ticket : ℕ) (added : List E) (v : Known E B) (x : S) : Type 0 where
  pub turn : (begun : List E) × (v.turn ≡ Holds ticket begun) × (history_of x ≡ begun ++ added)
  pub base : v.base ≡ Some (base_of x)
  pub adds : Adds number v.number added

-- the pass has seen what it was told, both of which begin the longer
abbrev pub Settles : {E B S : Type 0} → Step S → Me S (Known E B) → ℕ → Me S (Known E B) → Type 0
Settles step me found after =
    (after ≡ (record me.0 { seen = longer me.0.seen me.0.told }, me.1)) × Begins (longer me.0.seen me.0.told) me.0.seen × Begins (longer me.0.seen me.0.told) me.0.told

-- a pass has seen a history that begins with what it had seen before, and has of each number just what the pass knows
abbrev pub Sees : {E B S : Type 0} → (E → ℕ) → Step S → Me S (Known E B) → ℕ → Me S (Known E B) → Type 0
Sees {E} number step me found after =
    (log : List E) × (after ≡ (record me.0 { seen = log }, me.1)) × Begins log me.0.seen × ((n : ℕ) → own number n log ≡ known_in me.0 n)

-- a pass of this number and these events, which has seen as much as another
abbrev pub apart : {E B : Type 0} → Known E B → ℕ → List E → Known E B
apart v number mine =
    record { live = true; base = v.base; number = number; seen = v.seen; told = []; mine = mine; left = 0; made = 0; met = []; turn = Idle }

-- the first pass after a new one was split off
abbrev pub split_off : {E B : Type 0} → Known E B → Known E B
split_off v = record v { left = v.left - 1; made = v.made + 1 }

-- the new pass: it has the next number and no events
abbrev pub new_of : {E B : Type 0} → Known E B → Known E B
new_of v = apart v (v.made + 1) []

-- the first pass after it parted with the pass of a number
abbrev pub parted : {E B : Type 0} → ℕ → Known E B → Known E B
parted n v = record v { met = without_number n v.met }

-- the pass that was parted: it has the number's events
abbrev pub part_of : {E B : Type 0} → ℕ → Known E B → Known E B
part_of n v = apart v n (events_in v.met n)

-- a pass after it took another in, before it has seen what the other has
abbrev pub took_in : {E B : Type 0} → Known E B → Known E B → Known E B
took_in v w = record v { told = w.seen; met = v.met ++ record { number = w.number; events = w.mine } ∷ w.met }

-- what is left of a pass that was taken in
abbrev pub used_up : {E B : Type 0} → Known E B
used_up = record { live = false; base = None; number = 0; seen = []; told = []; mine = []; left = 0; made = 0; met = []; turn = Idle }

-- a pass after its lock was closed
abbrev pub closed : {E B : Type 0} → Known E B → Known E B
closed v = record v { live = false }
