-- The seats of a run's clients: how the first takes in all others, and what the lines of a step do to them.
use Rattle.std.specs.Prelude.{◌≡◌, ℕ, zero, suc, ◌+◌, ◌-◌, ◌==◌, ◌&&◌, ◌<◌, ◌≤◌, ◌≢◌, nat_lt, if◌then◌else◌, Bool, true, false, IsTrue, List, [], ◌∷◌, ◌++◌, length, map, take, drop, OnOk, OnErr, Result, Ok, Err, count_by, vec_capacity, vec_len, ◌⊎◌}
use Rattle.std.specs.List.{All, list_all, list_any}
use Rattle.moos_client.specs.Calls.{IsCalled, MayCall, SeatState, entries_of}
use Rattle.moos_db.specs.declared.mail.Letter.{Letter}
use Rattle.moos_db.specs.Database.{letters_after}
use Rattle.moos_post.specs.declared.entry.Call.{Call}
use Rattle.moos_post.specs.declared.entry.Entry.{Entry}
use Rattle.moos_post.specs.Delivery.{is_fetch}
use Rattle.moos_post.specs.History.{History}
use Rattle.moos_step.specs.declared.apart.Apart.{Apart}
use Rattle.moos_step.specs.declared.player.Player.{Player}
use Rattle.turn_lock.specs.declared.view.Met.{Met}
use Rattle.turn_lock.specs.Passes.{Begins, events_in, has_number, IsFree, IsOf, known_of, LockState}

-- the lock of a community
abbrev pub CommunityLock : Type 0
CommunityLock = LockState (List (List ℕ))

-- The seat after these entries of its own: they are its next ones, and what it had seen it has seen still.
pub record HasMade (added : List Entry) (before after : SeatState) : Type 0 where
  pub later : Begins after.seen before.seen
  pub same : after ≡ record before { seen = after.seen; mine = before.mine ++ added }

-- the seat has made entries that its number may make
pub record Makes (may : ℕ → List Entry → Type 0) (before after : SeatState) : Type 0 where
  pub added : List Entry
  pub made : HasMade added before after
  pub allowed : may before.number added

-- a seat may make whatever entries
abbrev pub Anything : ℕ → List Entry → Type 0
Anything client added = Unit {0}

-- nobody but the client of one number may make entries
abbrev pub IsAlone : ℕ → ℕ → List Entry → Type 0
IsAlone helm client added = client ≢ helm → added ≡ []

-- What a client may make of these lines: a front of its own among them, and all of these if no memory was missing.
pub record IsPlayed {E : Type 0} (lines : List Entry) (result : Result (Unit {0}) E) (client : ℕ) (added : List Entry) : Type 0 where
  pub front : Begins (entries_of client lines) added
  pub all : OnOk result (added ≡ entries_of client lines)

-- the same for all clients but the helm, which may make what it will
abbrev pub IsPlayedBeside : {E : Type 0} → ℕ → List Entry → Result (Unit {0}) E → ℕ → List Entry → Type 0
IsPlayedBeside helm lines result client added = client ≢ helm → IsPlayed lines result client added

-- the player has played its lines among these, or a front of them if it found no memory
abbrev pub HasEnded : List Entry → Player → Player → Type 0
HasEnded lines before after = Makes (IsPlayed lines after.ended) before.seat after.seat

-- The player has made the line's call if the line is its own, or found no memory for it; if it had found none before, nothing changed.
pub record HasHeard (line : Entry) (before after : Player) : Type 0 where
  pub played : OnOk before.ended (HasEnded (line ∷ []) before after)
  pub stopped : OnErr before.ended (after ≡ before)

-- the players of a step whose seats are apart from the first
abbrev pub apart_in : Apart → List Player
apart_in apart = apart.heavy.items ++ apart.light.items

-- a player has joined those of one weight
pub record HasJoined (player : Player) (before after : Apart) : Type 0 where
  pub items : ((after.heavy.items ≡ before.heavy.items ++ player ∷ []) × (after.light.items ≡ before.light.items)) ⊎ ((after.heavy.items ≡ before.heavy.items) × (after.light.items ≡ before.light.items ++ player ∷ []))
  pub heavy_room : vec_capacity after.heavy ≡ vec_capacity before.heavy
  pub light_room : vec_capacity after.light ≡ vec_capacity before.light
  pub more : vec_len after.heavy + vec_len after.light ≡ vec_len before.heavy + vec_len before.light + 1

-- a seat apart from the first: its client may make calls, and it has taken in nobody
pub record IsApart (lock : CommunityLock) (seat : SeatState) : Type 0 where
  pub may : MayCall lock seat
  pub alone : seat.met ≡ []

-- whether the client has one of the lines
abbrev pub has_line : ℕ → List Entry → Bool
has_line client lines = list_any (λ line. line.client == client) lines

-- how many clients below a number, the first one left out, have some of the lines
abbrev pub busy_below : List Entry → ℕ → ℕ
busy_below lines zero = 0
busy_below lines (suc client) = if nat_lt 0 client && has_line client lines then suc (busy_below lines client) else busy_below lines client

-- the least client from one number on that has some of the lines, or a limit if none below that has
pub record IsNextBusy (lines : List Entry) (from limit next : ℕ) : Type 0 where
  pub above : from ≤ next
  pub within : next ≤ limit
  pub idle : (n : ℕ) → from ≤ n → n < next → has_line n lines ≡ false
  pub busy : next < limit → has_line next lines ≡ true

-- what the first seat keeps of a player that it takes in
abbrev pub met_of : Player → Met Entry
met_of player = record { number = player.seat.number; events = player.seat.mine }

-- how often a number is among those taken in
abbrev pub times_met : ℕ → List (Met Entry) → ℕ
times_met n met = count_by (has_number n) met

-- the seat is of this lock, and no call of it is under way
pub record IsIdle (lock : CommunityLock) (seat : SeatState) : Type 0 where
  pub of_lock : IsOf lock seat
  pub free : IsFree seat

-- the first seat has taken in the seats of all other clients, and no number twice
pub record IsGathered (lock : CommunityLock) (first : SeatState) : Type 0 where
  pub may : IsIdle lock first
  pub number : first.number ≡ 0
  pub all : length first.met ≡ first.made
  pub each : (n : ℕ) → 0 < n → n < length lock.base → 0 < times_met n first.met
  pub once : (n : ℕ) → times_met n first.met ≤ 1

-- The seats of these players are parted from the first, and it knows with them just what it knew before, each number as
-- often.
pub record AreParted (lock : CommunityLock) (before first : SeatState) (players : List Player) : Type 0 where
  pub same : first ≡ record before { met = first.met }
  pub apart : All (λ player. IsApart lock player.seat) players
  pub all : length first.met + length players ≡ length before.met
  pub each : (n : ℕ) → times_met n first.met + times_met n (map met_of players) ≡ times_met n before.met
  pub known : (n : ℕ) → events_in (first.met ++ map met_of players) n ≡ events_in before.met n

-- Of the clients below one number, but that of number 0, each that has some of the lines is parted; and none is that isn't below.
pub record AreBusy (lines : List Entry) (client : ℕ) (players : List Player) : Type 0 where
  pub busy : (n : ℕ) → 0 < n → n < client → times_met n (map met_of players) ≡ 0 → entries_of n lines ≡ []
  pub fresh : (n : ℕ) → client ≤ n → times_met n (map met_of players) ≡ 0

-- the first seat after it took these players in
pub record HasTaken (before after : SeatState) (players : List Player) : Type 0 where
  pub later : Begins after.seen before.seen
  pub same : after ≡ record before { seen = after.seen; met = before.met ++ map met_of players }

-- the history that the first seat has seen has of each client just what is known of it
abbrev pub IsWhole : SeatState → Type 0
IsWhole first = (n : ℕ) → entries_of n first.seen ≡ known_of first n

-- the first seat after it saw the whole history, which has of each client what is known of it
pub record HasSeenAll (before after : SeatState) : Type 0 where
  pub later : Begins after.seen before.seen
  pub same : after ≡ record before { seen = after.seen }
  pub whole : (n : ℕ) → entries_of n after.seen ≡ known_of before n

-- what is known of a client, after it made some entries that it may make
pub record Grows (may : List Entry → Type 0) (before after : List Entry) : Type 0 where
  pub added : List Entry
  pub is : after ≡ before ++ added
  pub allowed : may added

-- What the first seat has seen goes on, and what it knows of each client are some more entries that the client may make.
pub record HasGrown (may : ℕ → List Entry → Type 0) (before after : SeatState) : Type 0 where
  pub later : Begins after.seen before.seen
  pub known : (n : ℕ) → Grows (may n) (known_of before n) (known_of after n)

-- these entries are all that the clients make
abbrev pub IsJust : List Entry → ℕ → List Entry → Type 0
IsJust entries n added = added ≡ entries_of n entries

-- A step: what the first seat has seen goes on, what it knows of each client are some more entries that the client may make, and
-- the history that it has seen has of each client just that.
pub record GoesOn (may : ℕ → List Entry → Type 0) (before after : SeatState) : Type 0 where
  pub later : Begins after.seen before.seen
  pub known : (n : ℕ) → Grows (may n) (known_of before n) (known_of after n)
  pub whole : IsWhole after

-- the first seat has seen nothing, and knows of no client's calls
pub record KnowsNothing (first : SeatState) : Type 0 where
  pub seen : first.seen ≡ []
  pub known : (n : ℕ) → known_of first n ≡ []

-- the lines from one place to another, at least one, have this stamp
pub record EndsStep (lines : List Entry) (stamp from to : ℕ) : Type 0 where
  pub more : from < to
  pub within : to ≤ length lines
  pub one : IsTrue (list_all (λ line. line.stamp == stamp) (take (to - from) (drop from lines)))

-- the mail of a call that a client makes behind a history: what the delivery rule gives if it fetches, and nothing else
abbrev pub mail_of_call : List (List ℕ) → History → ℕ → Call → List Letter
mail_of_call names history client call = if is_fetch call then letters_after names client history else []

-- what a call adds to the history: its entry, or nothing if it found no memory
abbrev pub added_by : {A E : Type 0} → Result A E → Entry → List Entry
added_by (Ok _) entry = entry ∷ []
added_by (Err _) entry = []

-- a call at a seat, and its mail
pub record IsAnswered (names : List (List ℕ)) (old new : SeatState) (stamp : ℕ) (call : Call) (given : List Letter) : Type 0 where
  pub called : IsCalled old new stamp call
  pub mail : given ≡ mail_of_call names called.before old.number call
