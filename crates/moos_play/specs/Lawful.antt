-- Which histories the clients of a script and its helm may leave, whatever the threads did, and what the helm's iterations
-- are then.
use Rattle.std.specs.Prelude.{◌≡◌, ◌≢◌, ℕ, zero, suc, ◌*◌, ◌/◌, ◌==◌, ◌≤◌, nat_lt, if◌then◌else◌, List, [], ◌∷◌, ◌++◌, length, map, Option, None, Some, codes, IsTrue}
use Rattle.std.specs.List.{list_all}
use Rattle.moos_post.specs.declared.entry.Call.TheVariants.{Register, Post as Posts, Fetch}
use Rattle.moos_post.specs.declared.entry.Entry.{Entry}
use Rattle.moos_post.specs.History.{History}
use Rattle.moos_db.specs.Database.{letters_after}
use Rattle.moos_client.specs.Calls.{entries_of, entry_of}
use Rattle.moos_client.specs.Hearing.{heard_in, Mailed}
use Rattle.helm_core.specs.Helms.{plan_of, StandsFor}
use Rattle.helm_core.specs.declared.iteration.Iteration.{Iteration}
use Rattle.helm_core.specs.Iterations.{iteration_at}
use Rattle.helm_core.specs.Plans.{Plan, wants_of}
use Rattle.helm_core.specs.Ticks.{Tick, tick_of}
use Rattle.moos_lawful.specs.Schedules.{clients_below, entries_below, never_falls}
use Rattle.moos_play.specs.declared.run.HelmRun.{HelmRun}
use Rattle.script_reader.specs.declared.script.Order.{Order}
use Rattle.script_reader.specs.declared.script.Order.TheVariants.{Stamp, Race}
use Rattle.script_reader.specs.declared.script.Script.{Script}

-- what a client that fetches hears: the stamp and the mail, as the helm's iterations have them
abbrev pub mailed_in : List (List ℕ) → Mailed Tick
mailed_in names client stamp past = tick_of stamp (letters_after names client past)

-- what a client hears at each of its fetches in a history
abbrev pub heard_of : List (List ℕ) → ℕ → History → List Tick
heard_of names client history = heard_in (mailed_in names) client [] history

-- how the helm is run: its number among the clients, what it is made of, and the milliseconds from one tick to the next
pub record HelmSetup : Type 0 where
  pub client : ℕ
  pub plan : Plan
  pub period : ℕ

-- the helm's entries before its first tick: it registers for what it wants, and posts the pairs to begin with, if any
abbrev pub opening_of : HelmSetup → List Entry
opening_of helm =
    entry_of helm.client 0 (Register (wants_of helm.plan))
    ∷ (if nat_lt 0 (length helm.plan.opening) then entry_of helm.client 0 (Posts helm.plan.opening) ∷ [] else [])

-- the helm's entries at one tick: it fetches, and posts what the iteration over what it has heard by then says
abbrev pub tick_entries : HelmSetup → List Tick → ℕ → List Entry
tick_entries helm heard i =
    entry_of helm.client (i * helm.period) Fetch
    ∷ entry_of helm.client (i * helm.period) (Posts (iteration_at helm.plan heard i).posts)
    ∷ []

-- the helm's entries at its first i ticks
abbrev pub ticks_of : HelmSetup → List Tick → ℕ → List Entry
ticks_of helm heard zero = []
ticks_of helm heard (suc i) = ticks_of helm heard i ++ tick_entries helm heard i

-- the iterations of the first i ticks
abbrev pub iterations_of : Plan → List Tick → ℕ → List Iteration
iterations_of plan heard zero = []
iterations_of plan heard (suc i) = iterations_of plan heard i ++ iteration_at plan heard i ∷ []

-- how many ticks there are up to a stamp, if the first is at 0
abbrev pub ticks_to : ℕ → HelmSetup → ℕ
ticks_to stop helm = suc (stop / helm.period)

-- the helm's entries before its first tick, none without a helm
abbrev pub opening : Option HelmSetup → List Entry
opening None = []
opening (Some helm) = opening_of helm

-- the helm's entries at its ticks up to a stamp, none without a helm
abbrev pub ticks : Option HelmSetup → ℕ → List Tick → List Entry
ticks None stop heard = []
ticks (Some helm) stop heard = ticks_of helm heard (ticks_to stop helm)

-- the helm's iterations up to a stamp, none without a helm
abbrev pub iterations : Option HelmSetup → ℕ → List Tick → List Iteration
iterations None stop heard = []
iterations (Some helm) stop heard = iterations_of helm.plan heard (ticks_to stop helm)

-- the moment of an entry: each stamp has two, the first for the script's clients and the second for the helm's tick
abbrev pub moment_of : ℕ → Entry → ℕ
moment_of helm entry = if entry.client == helm then suc (2 * entry.stamp) else 2 * entry.stamp

-- What an order asks of the entries behind the helm's opening: by their stamps none follows one of a later moment,
-- and in a race they may be in any order.
abbrev pub KeepsOrder : Order → ℕ → History → Type 0
KeepsOrder Stamp helm history = IsTrue (never_falls 0 (map (moment_of helm) history))
KeepsOrder Race helm history = Unit {0}

-- What an order asks of the entries of a round: by their stamps they have that of the round, and in a race they may have any.
abbrev pub KeepsStamp : Order → ℕ → History → Type 0
KeepsStamp Stamp stamp entries = IsTrue (list_all (λ entry. entry.stamp == stamp) entries)
KeepsStamp Race stamp entries = Unit {0}

-- the helm has the number behind the script's clients
abbrev pub helm_number : Script → ℕ
helm_number script = length script.names

-- how a helm is run for a script
abbrev pub helm_setup_with : Script → HelmRun → HelmSetup
helm_setup_with script run = record { client = helm_number script; plan = plan_of run.helm; period = run.period }

-- the helm has heard nothing yet, and has a period
pub record MayStart (run : HelmRun) : Type 0 where
  pub stands : StandsFor run.helm []
  pub period : 1 ≤ run.period

-- the names of the clients: the script's, and then the helm's, if there is a helm
abbrev pub names_with : {A : Type 0} → Script → Option A → List (List ℕ)
names_with script None = script.names
names_with script (Some helm) = script.names ++ codes "pHelmIvP" ∷ []

-- A history is lawful for an order, a script and a helm, if there is one, and under these names of the clients: It
-- begins with the helm's opening. The helm's other entries are those of its ticks, over what it hears in this history.
-- Every other client's entries are its lines, in order and with their stamps, and nobody else has an entry. What is
-- behind the opening keeps the order.
pub record IsLawful (order : Order) (script : Script) (helm : Option HelmSetup) (names : List (List ℕ)) (history : History) : Type 0 where
  pub rest : History
  pub opened : history ≡ opening helm ++ rest
  pub steered : entries_of (helm_number script) rest ≡ ticks helm script.stop (heard_of names (helm_number script) history)
  pub own : (client : ℕ) → client ≢ helm_number script → entries_of client rest ≡ entries_of client script.lines
  pub moments : KeepsOrder order (helm_number script) rest

-- how many clients are known from the start: the script's, and the helm if there is one
abbrev pub known_clients : {A : Type 0} → Script → Option A → ℕ
known_clients script helm = length (names_with script helm)

-- A history is lawful beside the entries of further clients, whose numbers follow those of the clients known from the start:
-- It begins with the helm's opening, and what follows that is lawful once the further clients' entries are left out.
-- These may be anywhere there, and the helm hears what they post. Nobody without a name has an entry.
pub record IsLawfulBeside (order : Order) (script : Script) (helm : Option HelmSetup) (names : List (List ℕ)) (history : History) : Type 0 where
  pub rest : History
  pub opened : history ≡ opening helm ++ rest
  pub steered : entries_of (helm_number script) (entries_below (known_clients script helm) rest) ≡ ticks helm script.stop (heard_of names (helm_number script) history)
  pub own : (client : ℕ) → client ≢ helm_number script → entries_of client (entries_below (known_clients script helm) rest) ≡ entries_of client script.lines
  pub moments : KeepsOrder order (helm_number script) (entries_below (known_clients script helm) rest)
  pub named : IsTrue (clients_below (length names) rest)
