-- A script that is played round by round, as its player sees it.
use Rattle.std.specs.Prelude.{◌≡◌, ◌≢◌, ◌⊎◌, ℕ, ◌-◌, ◌+◌, ◌*◌, ◌/◌, ◌≤◌, ◌<◌, Bool, true, nat_le, nat_lt, if◌then◌else◌, List, [], ◌++◌, drop, length, Option, None, Some, IfSome, IsTrue, option_map, slice_get}
use Rattle.std.specs.List.{list_all}
use Rattle.helm_core.specs.declared.iteration.Iteration.{Iteration}
use Rattle.helm_core.specs.Ticks.{Tick}
use Rattle.moos_client.specs.Calls.{entries_of}
use Rattle.moos_lawful.specs.Schedules.{clients_below, entries_from, Schedule}
use Rattle.moos_post.specs.declared.entry.Entry.{Entry}
use Rattle.moos_post.specs.History.{History}
use Rattle.moos_play.specs.declared.round_made.Round.{Round}
use Rattle.moos_play.specs.Lawful.{heard_of, helm_number, IsLawful, IsLawfulBeside, iterations, iterations_of, KeepsStamp, known_clients, names_with, HelmSetup, opening_of, ticks_of, ticks_to}
use Rattle.moos_play.specs.Schedules.{schedule_with}
use Rattle.script_reader.specs.declared.script.Order.{Order}
use Rattle.script_reader.specs.declared.script.Order.TheVariants.{Stamp, Race}
use Rattle.script_reader.specs.declared.script.Script.{Script}
use Rattle.turn_lock.specs.Passes.{Begins}

-- What a run shows: its script, the order in which that is played, the names of the clients, how the helm is run, if there
-- is one, and the history so far; how many lines are played and how many ticks the helm has made; the history with which the
-- database is lent, while it is; and whether each round was played to its end.
pub record Playing : Type 0 where
  pub script : Script
  pub order : Order
  pub names : List (List ℕ)
  pub helm : Option HelmSetup
  pub history : History
  pub played : ℕ
  pub ticks : ℕ
  pub lent : Option History
  pub whole : Bool

-- the script that is played
abbrev pub script_played : Playing → Script
script_played play = play.script

-- the order in which it is played
abbrev pub order_played : Playing → Order
order_played play = play.order

-- the names of the clients
abbrev pub clients_in : Playing → List (List ℕ)
clients_in play = play.names

-- the history so far
abbrev pub history_in : Playing → History
history_in play = play.history

-- how the helm is run, if there is one
abbrev pub helm_in : Playing → Option HelmSetup
helm_in play = play.helm

-- how many of the clients are known from the start: those of the script, and the helm if there is one
abbrev pub known_clients_in : Playing → ℕ
known_clients_in play = known_clients (script_played play) (helm_in play)

-- a client that is none of these, but has a name
pub record IsFurther (play : Playing) (client : ℕ) : Type 0 where
  pub past : known_clients_in play ≤ client
  pub named : client < length (clients_in play)

-- the iterations of a helm's first `ticks` ticks, over what it has heard in a history; none without a helm
abbrev pub iterations_by : List (List ℕ) → History → Option HelmSetup → ℕ → List Iteration
iterations_by names history None ticks = []
iterations_by names history (Some helm) ticks = iterations_of helm.plan (heard_of names helm.client history) ticks

-- the helm's iterations so far
abbrev pub iterations_made : Playing → List Iteration
iterations_made play = iterations_by (clients_in play) (history_in play) (helm_in play) play.ticks

-- how many of the helm's ticks up to a stamp are left once `ticks` are made
abbrev pub ticks_behind : ℕ → Option HelmSetup → ℕ → ℕ
ticks_behind stop None ticks = 0
ticks_behind stop (Some helm) ticks = ticks_to stop helm - ticks

-- how many lines and ticks are left
abbrev pub left_in : Playing → ℕ
left_in play = length (script_played play).lines - play.played + ticks_behind (script_played play).stop (helm_in play) play.ticks

-- the stamp of the helm's next tick once `ticks` are made, if one is left up to a stamp
abbrev pub tick_at : ℕ → Option HelmSetup → ℕ → Option ℕ
tick_at stop None ticks = None
tick_at stop (Some helm) ticks = if nat_le ticks (stop / helm.period) then Some (ticks * helm.period) else None

-- the earlier of two stamps, and another one if there is neither
abbrev pub earliest : ℕ → Option ℕ → Option ℕ → ℕ
earliest stop None None = stop
earliest stop None (Some line) = line
earliest stop (Some tick) None = tick
earliest stop (Some tick) (Some line) = if nat_lt tick line then tick else line

-- the stamp of the next round: the next one at which there is a line or a tick, or in a race the last one
abbrev pub stamp_next : Order → ℕ → Option ℕ → Option ℕ → ℕ
stamp_next Stamp stop tick line = earliest stop tick line
stamp_next Race stop tick line = stop

-- the stamp of the run's next round
abbrev pub next_stamp : Playing → ℕ
next_stamp play =
    let script = script_played play in
    stamp_next (order_played play) script.stop (tick_at script.stop (helm_in play) play.ticks) (option_map (λ line. line.stamp) (slice_get script.lines play.played))

-- the schedule of a run
abbrev pub schedule_in : Playing → Schedule Tick
schedule_in play = schedule_with (order_played play) (script_played play) (helm_in play) (clients_in play)

-- the database isn't lent: it may be lent, or the run be ended
abbrev pub IsSeated : Playing → Type 0
IsSeated play = play.lent ≡ None

-- the run is between two rounds: each was played to its end, and the database isn't lent
pub record IsBetween (play : Playing) : Type 0 where
  pub whole : play.whole ≡ true
  pub seated : IsSeated play

-- whatever came of it, the history goes on, under the same names
pub record StaysSeated (before after : Playing) : Type 0 where
  pub seated : IsSeated after
  pub names : clients_in after ≡ clients_in before
  pub later : Begins (history_in after) (history_in before)

-- what stays the same from round to round
pub record GoesOnWith (before after : Playing) : Type 0 where
  pub script : script_played after ≡ script_played before
  pub order : order_played after ≡ order_played before
  pub names : clients_in after ≡ clients_in before
  pub helm : helm_in after ≡ helm_in before

-- nothing is left, or what is next has another stamp
abbrev pub IsStampOver : Playing → ℕ → Type 0
IsStampOver play stamp = (left_in play ≡ 0) ⊎ (next_stamp play ≢ stamp)

-- what a part of a round with this stamp adds to the history: entries of the clients below a number
pub record AddsAt (order : Order) (stamp number : ℕ) (before after : History) : Type 0 where
  pub later : Begins after before
  pub stamped : KeepsStamp order stamp later.0
  pub known : IsTrue (clients_below number later.0)

-- A round: where its entries begin, its stamp, which they have in order Stamp and nothing of which is left, and the helm's
-- iterations in it, which follow those before. None of the entries is a further client's.
pub record IsRound (before after : Playing) (round : Round) : Type 0 where
  pub from : round.from ≡ length (history_in before)
  pub stamp : round.stamp ≡ next_stamp before
  pub stamped : KeepsStamp (order_played before) round.stamp (drop round.from (history_in after))
  pub further : entries_from (known_clients_in after) (history_in after) ≡ entries_from (known_clients_in before) (history_in before)
  pub finished : IsStampOver after round.stamp
  pub iterations : iterations_made after ≡ iterations_made before ++ round.iterations

-- no tick was made, and the next one, if one is left up to this stamp, is later
pub record HasNoTick (helm : HelmSetup) (stop made : ℕ) (round : Round) : Type 0 where
  pub none : round.iterations ≡ []
  pub later : made < ticks_to stop helm → round.stamp < made * helm.period

-- the helm's next tick was made, at its stamp
pub record HasTick (helm : HelmSetup) (made : ℕ) (round : Round) : Type 0 where
  pub one : length round.iterations ≡ 1
  pub at : round.stamp ≡ made * helm.period

-- A round in order Stamp: nothing is left or what is next has a later stamp, and the helm, if there is one, has made no
-- tick or just its next one.
pub record IsTurn (before after : Playing) (round : Round) : Type 0 where
  pub later : (left_in after ≡ 0) ⊎ (round.stamp < next_stamp after)
  pub ticked : IfSome (helm_in before) (λ helm. HasNoTick helm (script_played before).stop (length (iterations_made before)) round ⊎ HasTick helm (length (iterations_made before)) round)

-- what an order says of a round besides
abbrev pub HasTurn : Order → Playing → Playing → Round → Type 0
HasTurn Stamp before after round = IsTurn before after round
HasTurn Race before after round = Unit {0}

-- the helm's entries in a history are its opening and those of `count` ticks over what it has heard there, which are as many mails
pub record HasTicked (names : List (List ℕ)) (helm : HelmSetup) (count : ℕ) (history : History) : Type 0 where
  pub own : entries_of helm.client history ≡ opening_of helm ++ ticks_of helm (heard_of names helm.client history) count
  pub many : length (heard_of names helm.client history) ≡ count

-- the helm of a run, if there is one, has made as many ticks as there are iterations
abbrev pub HasSteeredSoFar : Playing → Type 0
HasSteeredSoFar play = IfSome (helm_in play) (λ helm. HasTicked (clients_in play) helm (length (iterations_made play)) (history_in play))

-- what an order says of what is left for a client: nothing of it is before the next stamp, and in a race it may be
abbrev pub KeepsLeft : Order → ℕ → List Entry → Type 0
KeepsLeft Stamp stamp left = IsTrue (list_all (λ entry. nat_le stamp entry.stamp) left)
KeepsLeft Race stamp left = Unit {0}

-- What is left for a client of a run between two rounds: nothing if nothing is left of the run, and in order Stamp nothing that is
-- before the next stamp.
pub record IsLeft (play : Playing) (left : List Entry) : Type 0 where
  pub none : left_in play ≡ 0 → left ≡ []
  pub late : KeepsLeft (order_played play) (next_stamp play) left

-- a helm that is run for a script: its number is behind those of the script's clients, it has a period, and of its ticks up to
-- the last stamp it has made `made`
pub record IsRunFor (script : Script) (made : ℕ) (helm : HelmSetup) : Type 0 where
  pub client : helm.client ≡ helm_number script
  pub period : 1 ≤ helm.period
  pub few : made ≤ ticks_to script.stop helm

-- A run in which nothing is left: its history is lawful beside the entries of further clients, by itself if there are
-- none, and its iterations are those of this history.
pub record IsPlayedOut (play : Playing) : Type 0 where
  pub lawful : IsLawfulBeside (order_played play) (script_played play) (helm_in play) (clients_in play) (history_in play)
  pub alone : clients_in play ≡ names_with (script_played play) (helm_in play) → IsLawful (order_played play) (script_played play) (helm_in play) (clients_in play) (history_in play)
  pub iterations : iterations_made play ≡ iterations (helm_in play) (script_played play).stop (heard_of (clients_in play) (helm_number (script_played play)) (history_in play))

-- A run that may yet be completed: with some more entries, none of them a further client's, its history is lawful beside the
-- entries of further clients, by itself if there are none, and the iterations of that history are those so far and some more.
pub record HasCompletion (play : Playing) : Type 0 where
  pub rest : History
  pub known : IsTrue (clients_below (known_clients_in play) rest)
  pub lawful : IsLawfulBeside (order_played play) (script_played play) (helm_in play) (clients_in play) (history_in play ++ rest)
  pub alone : clients_in play ≡ names_with (script_played play) (helm_in play) → IsLawful (order_played play) (script_played play) (helm_in play) (clients_in play) (history_in play ++ rest)
  pub more : List Iteration
  pub iterations : iterations (helm_in play) (script_played play).stop (heard_of (clients_in play) (helm_number (script_played play)) (history_in play ++ rest)) ≡ iterations_made play ++ more

-- the run once the database is put back as it was
abbrev pub returned : Playing → Playing
returned play = record play { lent = None }

-- the database, with this history, is lent under this number, the first client's
pub record IsLentAs (play : Playing) (number : ℕ) (history : History) : Type 0 where
  pub first : number ≡ 0
  pub lent : play.lent ≡ Some history
  pub same : history ≡ history_in play
