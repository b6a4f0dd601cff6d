-- The schedule of a script's lines beside clients that answer each tick, the helm the first of them.
use Rattle.std.specs.Prelude.{ℕ, zero, suc, ◌+◌, ◌-◌, ◌*◌, ◌/◌, ◌==◌, nat_lt, if◌then◌else◌, List, [], ◌∷◌, ◌++◌, length, map, take}
use Rattle.moos_post.specs.declared.entry.Call.{Call}
use Rattle.moos_post.specs.declared.entry.Call.TheVariants.{Post as Posts, Fetch}
use Rattle.moos_post.specs.declared.entry.Entry.{Entry}
use Rattle.moos_post.specs.declared.value.Pair.{Pair}
use Rattle.moos_client.specs.Calls.{entries_of, entry_of}
use Rattle.moos_client.specs.Hearing.{Mailed}
use Rattle.moos_lawful.specs.Schedules.{Schedule}
use Rattle.script_reader.specs.declared.script.Order.{Order}
use Rattle.script_reader.specs.declared.script.Order.TheVariants.{Stamp, Race}

-- a client that answers each tick: the calls that it makes before the first one, and what it posts at a turn, of what it has
-- heard at all its turns up to that one
pub record Answerer (A : Type 0) : Type 0 where
  pub opening : List Call
  pub says : List A → List Pair

-- the entries at `count` turns, from turn i on, of a client that answers each tick: it fetches and posts at each
abbrev pub turns_from : {A : Type 0} → Answerer A → ℕ → ℕ → List A → ℕ → ℕ → List Entry
turns_from answerer client period heard i zero = []
turns_from answerer client period heard i (suc count) =
    entry_of client (i * period) Fetch
    ∷ entry_of client (i * period) (Posts (answerer.says (take (suc i) heard)))
    ∷ turns_from answerer client period heard (suc i) count

-- the entries before the first tick of these clients, the first of which has this number
abbrev pub openings : {A : Type 0} → ℕ → List (Answerer A) → List Entry
openings client [] = []
openings client (answerer ∷ others) = map (entry_of client 0) answerer.opening ++ openings (suc client) others

-- the turns of the client of a number, if it is among these, the first of which has this number
abbrev pub answers_of : {A : Type 0} → ℕ → ℕ → ℕ → List (Answerer A) → ℕ → List A → List Entry
answers_of period ticks client [] n heard = []
answers_of period ticks client (answerer ∷ others) n heard =
    if client == n then turns_from answerer n period heard 0 ticks else answers_of period ticks (suc client) others n heard

-- what each client is due to do: those of the script their lines, the others their turns
abbrev pub due_of : {A : Type 0} → List Entry → ℕ → ℕ → ℕ → List (Answerer A) → ℕ → List A → List Entry
due_of lines clients period ticks answerers n heard =
    if nat_lt n clients then entries_of n lines else answers_of period ticks clients answerers n heard

-- The moment of an entry. In order Stamp each stamp has one moment for the clients of the script and then one for each of the
-- others, in the order of their numbers: what is added is 0 for the script's clients, since a difference stops at 0, and then 1,
-- 2 and so on. In a race there is but one moment.
abbrev pub moment_in : Order → ℕ → ℕ → Entry → ℕ
moment_in Stamp clients others entry = suc others * entry.stamp + (suc entry.client - clients)
moment_in Race clients others entry = 0

-- the schedule of a script's lines, of `clients` clients, beside these clients that answer each tick up to a stamp, among `names`
-- clients that have a name
abbrev pub schedule_of : {A : Type 0} → Order → List Entry → ℕ → ℕ → ℕ → List (Answerer A) → ℕ → Mailed A → Schedule A
schedule_of order lines clients stop period answerers names mailed = record {
  start = openings clients answerers;
  known = clients + length answerers;
  names = names;
  due = due_of lines clients period (suc (stop / period)) answerers;
  mailed = mailed;
  moment = moment_in order clients (length answerers);
}
