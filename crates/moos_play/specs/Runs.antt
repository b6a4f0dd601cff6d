-- A run from one step to the next, with the lock and the seats behind it.
use Rattle.std.specs.Prelude.{◌≡◌, ◌⊎◌, ℕ, ◌*◌, ◌≤◌, Bool, true, suc, List, [], ◌++◌, length, Option, None, IfSome, OnErr, OnOk, option_map, Result}
use Rattle.moos_lawful.specs.Schedules.{IsLawfulSoFar}
use Rattle.moos_play.specs.declared.stage.Stage.{Stage}
use Rattle.moos_play.specs.declared.helm_client.HelmClient.{HelmClient}
use Rattle.moos_play.specs.declared.run.HelmRun.{HelmRun}
use Rattle.moos_play.specs.Lawful.{heard_of, helm_number, helm_setup_with, names_with, ticks_to}
use Rattle.moos_play.specs.Plays.{AddsAt, GoesOnWith, known_clients_in, Playing}
use Rattle.moos_play.specs.Schedules.{schedule_with, tick_period}
use Rattle.moos_play.specs.Steered.{helm_of, IsDue, IsUnderWay, IsUnticked, iterations_in, KeepsEach, parts, helm_setup_of, tick_due, ticks_in}
use Rattle.moos_step.specs.Steps.{IsGathered, IsWhole, KnowsNothing}
use Rattle.script_reader.specs.declared.script.Order.{Order}
use Rattle.script_reader.specs.declared.script.Order.TheVariants.{Stamp, Race}
use Rattle.script_reader.specs.declared.script.Script.{Script}
use Rattle.script_reader.specs.Validity.{IsValid}
use Rattle.turn_lock.specs.Passes.{Begins}

-- what a run shows, with whether each of its rounds was played to its end
abbrev pub playing_of : Stage → Bool → Playing
playing_of run whole = record {
  script = run.script.now;
  order = run.order;
  names = run.lock.base;
  helm = helm_of run.helm_client;
  history = run.first.seat.seen;
  played = run.from;
  ticks = ticks_in run.helm_client;
  lent = run.first.seat.turn;
  whole = whole;
}

-- what it shows if each was
abbrev pub shown_by : Stage → Playing
shown_by run = playing_of run true

-- the run once the helm's iterations so far are handed out
abbrev pub handed : Stage → Stage
handed run = record run { helm_client = option_map (λ (helm : HelmClient). record helm { iterations = [] }) run.helm_client }

-- the run once its database is put back as it was
abbrev pub given_back : Stage → Stage
given_back run = record run { first = record run.first { seat = record run.first.seat { turn = None } } }

-- the first seat has taken in all others, and has seen all
pub record HasAllSeats (run : Stage) : Type 0 where
  pub gathered : IsGathered run.lock run.first.seat
  pub whole : IsWhole run.first.seat

-- A run between two steps, with a count of calls for each client of its script.
pub record IsAtPlay (run : Stage) : Type 0 where
  pub valid : IsValid run.script.now
  pub under : IsUnderWay run.order run.script.now run.lock run.helm_client run.from run.first.seat
  pub calls : length run.calls.items ≡ length run.script.now.names
  pub period : IfSome run.helm_client (λ helm. (1 ≤ helm.period) × (helm.ticks ≤ ticks_to run.script.now.stop (helm_setup_of helm)))

-- A run of this script before its first call: each client has a seat, and the helm, if there is one, has yet to make its opening.
pub record IsUnopened (script : Script) (helm : Option HelmRun) (further : List (List ℕ)) (order : Order) (run : Stage) : Type 0 where
  pub of : run.script.now ≡ script
  pub in_order : run.order ≡ order
  pub named : run.lock.base ≡ names_with script helm ++ further
  pub steered : helm_of run.helm_client ≡ option_map (helm_setup_with script) helm
  pub gathered : IsGathered run.lock run.first.seat
  pub nothing : KnowsNothing run.first.seat
  pub unticked : IfSome run.helm_client IsUnticked
  pub calls : length run.calls.items ≡ length script.names
  pub unplayed : run.from ≡ 0

-- a run between two rounds: what was played is lawful as far as it goes, and all iterations are handed out
pub record IsPaused (run : Stage) : Type 0 where
  pub at_play : IsAtPlay run
  pub told : iterations_in run.helm_client ≡ []

-- Once the database is put back, the first seat has all others again; and the run is between two rounds if each was
-- played to its end.
pub record IsCoherent (run : Stage) (whole : Bool) : Type 0 where
  pub seats : HasAllSeats (given_back run)
  pub ready : whole ≡ true → IsPaused (given_back run)

-- how many entries the history has
abbrev pub IsCount : Stage → ℕ → Type 0
IsCount run entries = entries ≡ length run.first.seat.seen

-- whatever came of it, the history goes on, at the same lock
pub record KeepsSeats (before after : Stage) : Type 0 where
  pub seated : HasAllSeats after
  pub lock : after.lock ≡ before.lock
  pub later : Begins after.first.seat.seen before.first.seat.seen

-- Steps of a run at this stamp: no line is taken back, and the helm makes one tick at most, its next one, which has this stamp.
pub record MovesAt (stamp : ℕ) (before after : Stage) : Type 0 where
  pub lines : before.from ≤ after.from
  pub ticks : (ticks_in after.helm_client ≡ ticks_in before.helm_client)
      ⊎ ((ticks_in after.helm_client ≡ suc (ticks_in before.helm_client)) × (stamp ≡ ticks_in before.helm_client * tick_period (helm_of before.helm_client)))

-- the same in order Stamp
abbrev pub KeepsMoves : Order → ℕ → Stage → Stage → Type 0
KeepsMoves Stamp stamp before after = MovesAt stamp before after
KeepsMoves Race stamp before after = Unit {0}

-- A run that found no memory: its history is lawful so far, each client that has a part has a name, and the helm, if there is
-- one, has heard at least as many mails as it has made ticks.
pub record IsCutOff (run : Stage) : Type 0 where
  pub so_far : IsLawfulSoFar (schedule_with run.order run.script.now (helm_of run.helm_client) run.lock.base) run.first.seat.seen
  pub room : parts run.script.now run.helm_client ≤ length run.lock.base
  pub heard : IfSome run.helm_client (λ s. (s.number ≡ helm_number run.script.now) × (s.ticks ≤ length (heard_of run.lock.base s.number run.first.seat.seen)) × (s.ticks ≤ ticks_to run.script.now.stop (helm_setup_of s)))

-- the next step may be played, with 1 to 16 workers for what the helm solves
pub record MayGoOn (run : Stage) (workers : ℕ) : Type 0 where
  pub at_play : IsAtPlay run
  pub few : (1 ≤ workers) × (workers ≤ 16)

-- the lines before a place may be played: in order Stamp those that are due, and in a race any
abbrev pub MayPlay : Order → Stage → ℕ → Type 0
MayPlay Stamp run to = IsDue run.script.now.lines (tick_due run.script.now.stop run.helm_client) run.from to
MayPlay Race run to = to ≤ length run.script.now.lines

-- Steps at this stamp. Whatever came of them the run goes on, and what they add has this stamp; if a step found no memory the
-- history is lawful so far, and else the run may go on with its next step.
pub record HasPlayedOn {A E : Type 0} (stamp : ℕ) (before after : Stage) (result : Result A E) : Type 0 where
  pub same : GoesOnWith (shown_by before) (shown_by after)
  pub seated : KeepsSeats before after
  pub stamped : AddsAt before.order stamp (known_clients_in (shown_by before)) before.first.seat.seen after.first.seat.seen
  pub front : OnErr result (IsCutOff after)
  pub at_play : OnOk result (IsAtPlay after)
  pub told : OnOk result (KeepsEach before.helm_client after.helm_client)
  pub moves : OnOk result (KeepsMoves before.order stamp before after)
