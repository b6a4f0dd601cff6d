-- The helm at its seat, and where a run is between two rounds.
use Rattle.std.specs.Prelude.{◌≡◌, ◌⊎◌, ℕ, ◌+◌, ◌-◌, ◌*◌, ◌^◌, ◌==◌, ◌≤◌, ◌<◌, Bool, false, nat_lt, if◌then◌else◌, List, [], ◌∷◌, ◌++◌, length, drop, take, Option, None, Some, option_map, slice_get, IfSome, IsTrue, OnErr, OnOk, Result}
use Rattle.std.specs.List.{list_all}
use Rattle.moos_post.specs.History.{History}
use Rattle.moos_post.specs.declared.entry.Call.{Call}
use Rattle.moos_post.specs.declared.entry.Entry.{Entry}
use Rattle.moos_db.specs.declared.mail.Letter.{Letter}
use Rattle.moos_client.specs.Calls.{IsCalled, IsFetched, IsUncalled, MayCall, SeatState, entries_of}
use Rattle.helm_core.specs.declared.helm.Helm.{Helm}
use Rattle.helm_core.specs.declared.iteration.Iteration.{Iteration}
use Rattle.helm_core.specs.Helms.{clock_of, IsTicked, plan_of, StandsFor}
use Rattle.moos_lawful.specs.Answering.{turns_from}
use Rattle.moos_lawful.specs.Schedules.{IsLawfulSoFar}
use Rattle.moos_play.specs.Plays.{tick_at}
use Rattle.moos_play.specs.Schedules.{answerers, answering, schedule_with}
use Rattle.moos_play.specs.declared.helm_client.HelmClient.{HelmClient}
use Rattle.moos_play.specs.Lawful.{HelmSetup, heard_of, helm_number, iterations_of, opening, opening_of, ticks_of, ticks_to}
use Rattle.moos_step.specs.Steps.{Anything, CommunityLock, GoesOn, IsGathered, IsWhole, Makes}
use Rattle.script_reader.specs.declared.script.Order.{Order}
use Rattle.script_reader.specs.declared.script.Script.{Script}
use Rattle.turn_lock.specs.Passes.{Begins}

-- how a helm's client runs its helm
abbrev pub helm_setup_of : HelmClient → HelmSetup
helm_setup_of helm_client = record { client = helm_client.number; plan = plan_of helm_client.helm; period = helm_client.period }

-- After its ticks so far a helm stands for what it has heard in a history, its entries there are its opening and those of
-- the ticks, and its iterations are those behind the ones that were handed out.
pub record Steers (names : List (List ℕ)) (s : HelmClient) (history : History) : Type 0 where
  pub clock : clock_of s.helm ≤ s.ticks * s.period
  pub stands : StandsFor s.helm (heard_of names s.number history)
  pub many : length (heard_of names s.number history) ≡ s.ticks
  pub own : entries_of s.number history ≡ opening_of (helm_setup_of s) ++ ticks_of (helm_setup_of s) (heard_of names s.number history) s.ticks
  pub same : s.iterations ≡ drop (s.ticks - length s.iterations) (iterations_of (plan_of s.helm) (heard_of names s.number history) s.ticks)

-- the history of the seat has of its own number just the seat's entries
abbrev pub HasOwn : SeatState → Type 0
HasOwn seat = entries_of seat.number seat.seen ≡ seat.mine

-- The helm has fetched at its seat, and made its iteration of the mail.
pub record HasIterated (names : List (List ℕ)) (before after : SeatState) (old new : Helm) (stamp : ℕ) (iteration : Iteration) : Type 0 where
  pub mail : List Letter
  pub fetched : IsFetched before after names stamp mail
  pub ticked : IsTicked old new stamp mail iteration

-- no memory was left for a call, or for what follows it
abbrev pub MayHaveCalled : SeatState → SeatState → ℕ → Call → Type 0
MayHaveCalled before after stamp call = IsUncalled before after ⊎ IsCalled before after stamp call

-- the helm may make its ticks behind a history until they are `ticks`, with 1 to 16 workers for what it solves
pub record MayTick (names : List (List ℕ)) (s : HelmClient) (history : History) (ticks workers : ℕ) : Type 0 where
  pub steered : Steers names s history
  pub count : s.ticks ≤ ticks
  pub early : ticks * s.period < 2 ^ 64 + s.period
  pub few : (1 ≤ workers) × (workers ≤ 16)

-- the helm may make its ticks at its seat until they are `ticks`
pub record MaySteer (lock : CommunityLock) (seat : SeatState) (s : HelmClient) (ticks workers : ℕ) : Type 0 where
  pub may : MayCall lock seat
  pub number : seat.number ≡ s.number
  pub own : HasOwn seat
  pub tick : MayTick lock.base s seat.seen ticks workers

-- the helm may make its ticks until they are `ticks`, and the first seat has taken in all others, the helm's too
pub record MayLead (lock : CommunityLock) (first : SeatState) (s : HelmClient) (ticks workers : ℕ) : Type 0 where
  pub gathered : IsGathered lock first
  pub whole : IsWhole first
  pub client : s.number < length lock.base
  pub tick : MayTick lock.base s first.seen ticks workers

-- A helm that found no memory behind `whole` whole ticks, between two ticks or within one. With what is left of that tick its
-- entries in a history are its opening and those of as many ticks as it has heard there, which are at most `most`.
pub record IsStopped (names : List (List ℕ)) (helm : HelmSetup) (whole most : ℕ) (history : History) : Type 0 where
  pub left : List Entry
  pub own : entries_of helm.client history ++ left ≡ opening_of helm ++ ticks_of helm (heard_of names helm.client history) (length (heard_of names helm.client history))
  pub made : whole ≤ length (heard_of names helm.client history)
  pub few : length (heard_of names helm.client history) ≤ most

-- a helm at its seat that found no memory, as `IsStopped` says of what the seat had seen when its last call was made
pub record HasStopped (names : List (List ℕ)) (helm : HelmSetup) (whole most : ℕ) (seat : SeatState) : Type 0 where
  pub before : History
  pub later : Begins seat.seen before
  pub own : entries_of seat.number before ≡ seat.mine
  pub stopped : IsStopped names helm whole most before

-- how many ticks the helm has made, none without one
abbrev pub ticks_in : Option HelmClient → ℕ
ticks_in None = 0
ticks_in (Some helm_client) = helm_client.ticks

-- the helm's iterations that weren't handed out, none without a helm
abbrev pub iterations_in : Option HelmClient → List Iteration
iterations_in None = []
iterations_in (Some helm_client) = helm_client.iterations

-- the helm keeps an iteration a tick
abbrev pub KeepsEach : Option HelmClient → Option HelmClient → Type 0
KeepsEach before after = length (iterations_in after) + ticks_in before ≡ length (iterations_in before) + ticks_in after

-- The helm has made its ticks at the seat until they are `ticks`, or has stopped on the way if it found no memory.
pub record HasSteered {E : Type 0} (lock : CommunityLock) (ticks : ℕ) (before after : SeatState) (old new : HelmClient) (result : Result (Unit {0}) E) : Type 0 where
  pub made : Makes Anything before after
  pub same : helm_setup_of new ≡ helm_setup_of old
  pub told : OnOk result (KeepsEach (Some old) (Some new))
  pub own : OnOk result (HasOwn after)
  pub steered : OnOk result (Steers lock.base new after.seen)
  pub reached : OnOk result (new.ticks ≡ ticks)
  pub stopped : OnErr result (HasStopped lock.base (helm_setup_of old) new.ticks ticks after)

-- The helm has made its ticks until they are `ticks`, or has stopped on the way if it found no memory, by what the first seat has
-- seen once it has all others again. The clients may have made some entries too.
pub record HasLed {E : Type 0} (lock : CommunityLock) (may : ℕ → List Entry → Type 0) (ticks : ℕ) (before after : SeatState) (old new : HelmClient) (result : Result (Unit {0}) E) : Type 0 where
  pub gathered : IsGathered lock after
  pub goes_on : GoesOn may before after
  pub same : helm_setup_of new ≡ helm_setup_of old
  pub told : OnOk result (KeepsEach (Some old) (Some new))
  pub steered : OnOk result (Steers lock.base new after.seen)
  pub reached : OnOk result (new.ticks ≡ ticks)
  pub stopped : OnErr result (IsStopped lock.base (helm_setup_of old) new.ticks ticks after.seen)

-- the helm that is run, if one is
abbrev pub helm_of : Option HelmClient → Option HelmSetup
helm_of helm_client = option_map helm_setup_of helm_client

-- the turns that are left for the helm, if there is one, over what it has heard
abbrev pub turns_left : ℕ → Option HelmClient → List (List ℕ) → History → List Entry
turns_left stop None names history = []
turns_left stop (Some helm_client) names history =
    turns_from (answering (helm_setup_of helm_client)) helm_client.number helm_client.period (heard_of names helm_client.number history) helm_client.ticks (ticks_to stop (helm_setup_of helm_client) - helm_client.ticks)

-- what is left for a client once `from` lines are played
abbrev pub left_for : Script → Option HelmClient → List (List ℕ) → ℕ → History → ℕ → List Entry
left_for script helm_client names from history n =
    if nat_lt n (length script.names) then entries_of n (drop from script.lines) else turns_left script.stop helm_client names history

-- how many clients have a part: those of the script, and the helm if there is one
abbrev pub parts : Script → Option HelmClient → ℕ
parts script helm_client = length script.names + length (answerers (helm_of helm_client))

-- A history that is lawful so far, in which just the first `from` lines are played and the helm has made all its ticks so far.
pub record HasPlayed (order : Order) (script : Script) (names : List (List ℕ)) (helm_client : Option HelmClient) (from : ℕ) (history : History) : Type 0 where
  pub so_far : IsLawfulSoFar (schedule_with order script (helm_of helm_client) names) history
  pub left : (n : ℕ) → n < parts script helm_client → so_far.left n ≡ left_for script helm_client names from history n

-- A run between two steps, in which the first `from` lines are played: the first seat has taken in all others, and has seen a
-- history that is lawful so far.
pub record IsUnderWay (order : Order) (script : Script) (lock : CommunityLock) (helm_client : Option HelmClient) (from : ℕ) (first : SeatState) : Type 0 where
  pub gathered : IsGathered lock first
  pub whole : IsWhole first
  pub within : from ≤ length script.lines
  pub seats : parts script helm_client ≤ length lock.base
  pub played : HasPlayed order script lock.base helm_client from first.seen
  pub steered : IfSome helm_client (λ s. (s.number ≡ helm_number script) × Steers lock.base s first.seen)

-- the stamp of the helm's next tick, if one is left up to this stamp
abbrev pub tick_due : ℕ → Option HelmClient → Option ℕ
tick_due stop helm_client = tick_at stop (helm_of helm_client) (ticks_in helm_client)

-- there is a tick, and it is before a stamp
abbrev pub comes_before : Option ℕ → ℕ → Bool
comes_before None stamp = false
comes_before (Some tick) stamp = nat_lt tick stamp

-- the tick comes next, before the first of these lines; without a tick there are none
abbrev pub IsBehind : Option ℕ → List Entry → Type 0
IsBehind tick [] = Unit {0}
IsBehind tick (line ∷ lines) = IsTrue (comes_before tick line.stamp)

-- the line at this place, if there is one, has another stamp
abbrev pub HasOtherStamp : List Entry → ℕ → ℕ → Type 0
HasOtherStamp lines stamp place = IfSome (slice_get lines place) (λ line. (line.stamp == stamp) ≡ false)

-- The lines from one place to another come next: they have one stamp, which is not above the tick's, and the line behind them has
-- another one. If there are none the tick comes next.
pub record IsDue (lines : List Entry) (tick : Option ℕ) (from to : ℕ) : Type 0 where
  pub more : from ≤ to
  pub within : to ≤ length lines
  pub stamp : ℕ
  pub one : IsTrue (list_all (λ line. line.stamp == stamp) (take (to - from) (drop from lines)))
  pub whole : from < to → HasOtherStamp lines stamp to
  pub early : from < to → comes_before tick stamp ≡ false
  pub next : from ≡ to → IsBehind tick (drop from lines)

-- a helm that has heard nothing yet, and made no tick
pub record IsUnticked (helm_client : HelmClient) : Type 0 where
  pub ticks : helm_client.ticks ≡ 0
  pub iterations : helm_client.iterations ≡ []
  pub stands : StandsFor helm_client.helm []
  pub period : 1 ≤ helm_client.period

-- before the first round: the helm, if there is one, has made its opening, and nobody else an entry
pub record HasOpened (lock : CommunityLock) (helm_client : Option HelmClient) (first : SeatState) : Type 0 where
  pub gathered : IsGathered lock first
  pub whole : IsWhole first
  pub opened : first.seen ≡ opening (helm_of helm_client)
  pub new : IfSome helm_client IsUnticked
