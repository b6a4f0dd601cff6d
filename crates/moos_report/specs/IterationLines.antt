-- What is printed of the helm's iterations, each behind the Post entry that it ended in.
use Rattle.std.specs.Prelude.{ℕ, zero, suc, Bool, true, false, ◌&&◌, ◌||◌, not, bytes_eq, List, [], ◌∷◌, ◌++◌, flat_map, codes, decimal, if◌then◌else◌, Option, Some, None, slice_get}
use Rattle.std.specs.List.{concat, count_by}
use Rattle.moos_post.specs.declared.entry.Call.{Call}
use Rattle.moos_post.specs.declared.entry.Call.TheVariants.{Register, Unregister, Post as Posts, Fetch}
use Rattle.moos_post.specs.declared.entry.Entry.{Entry}
use Rattle.moos_post.specs.Delivery.{is_fetch}
use Rattle.moos_post.specs.History.{History, name_of}
use Rattle.moos_text.specs.Numbers.{unsigned_text}
use Rattle.ivp_cert.specs.declared.claim.Decision.{Decision}
use Rattle.ivp_cert.specs.Texts.{decision_lines}
use Rattle.bhv_file.specs.declared.out.BhvFault.{BhvFault}
use Rattle.bhv_file.specs.declared.out.BhvFault.TheVariants.{NoPosition, OutsidePolygon, TooDeep, TooLate}
use Rattle.bhv_life.specs.declared.outcome.BhvState.{BhvState}
use Rattle.bhv_life.specs.declared.outcome.BhvState.TheVariants.{Idle, Running, Active, Completed}
use Rattle.helm_core.specs.declared.iteration.BhvError.{BhvError}
use Rattle.helm_core.specs.declared.iteration.BhvNow.{BhvNow}
use Rattle.helm_core.specs.declared.iteration.How.{How}
use Rattle.helm_core.specs.declared.iteration.How.TheVariants.{Changed, Refused, Spawned}
use Rattle.helm_core.specs.declared.iteration.Iteration.{Iteration}
use Rattle.helm_core.specs.declared.iteration.Update.{Update}
use Rattle.helm_core.specs.Posts.{state_word}
use Rattle.moos_report.specs.declared.setup.Setup.{Setup}

-- the client has the helm's name
abbrev pub is_helm : List (List ℕ) → ℕ → Bool
is_helm names client = bytes_eq (name_of names client) (codes "pHelmIvP")

-- the call is a post, even of nothing
abbrev pub is_posting : Call → Bool
is_posting (Register regs) = false
is_posting (Unregister var source) = false
is_posting (Posts batch) = true
is_posting Fetch = false

-- the helm fetches
abbrev pub is_helm_fetch : List (List ℕ) → Entry → Bool
is_helm_fetch names entry = is_fetch entry.call && is_helm names entry.client

-- the helm posts
abbrev pub is_helm_post : List (List ℕ) → Entry → Bool
is_helm_post names entry = is_posting entry.call && is_helm names entry.client

-- how often the helm has fetched
abbrev pub helm_fetches : List (List ℕ) → History → ℕ
helm_fetches names past = count_by (is_helm_fetch names) past

-- the helm fetches here, and hasn't posted before
abbrev pub fetches_first : List (List ℕ) → History → Bool
fetches_first names [] = false
fetches_first names (entry ∷ later) = is_helm_fetch names entry || (not (is_helm_post names entry) && fetches_first names later)

-- a mode as it prints, the empty one as `-`
abbrev pub shown_mode : List ℕ → List ℕ
shown_mode [] = codes "-"
shown_mode (first ∷ rest) = first ∷ rest

-- the line of the mode, if modes are declared
abbrev pub mode_line : Setup → List ℕ → List ℕ
mode_line setup mode = if setup.modes then concat (codes "%% mode " ∷ shown_mode mode ∷ codes "\n" ∷ []) else []

-- what became of an update
abbrev pub how_text : How → List ℕ
how_text Refused = codes "refused"
how_text Changed = codes "taken"
how_text (Spawned name) = codes "spawned " ++ name

-- the line of an update: the behaviour that heard it, and what became of it
abbrev pub update_text : Update → List ℕ
update_text update = concat (codes "%% update " ∷ update.name ∷ codes " " ∷ how_text update.how ∷ codes "\n" ∷ [])

-- the printed word for the state of a behaviour
abbrev pub behavior_state : BhvState → List ℕ
behavior_state Idle = codes "idle"
behavior_state Running = codes "running"
behavior_state Active = codes "active"
behavior_state Completed = codes "completed"

-- the line of a behaviour: its name and what it is
abbrev pub behavior_text : BhvNow → List ℕ
behavior_text behavior = concat (codes "%% behavior " ∷ behavior.name ∷ codes " " ∷ behavior_state behavior.state ∷ codes "\n" ∷ [])

-- the printed name of a fault
abbrev pub fault_text : BhvFault → List ℕ
fault_text NoPosition = codes "NoPosition"
fault_text OutsidePolygon = codes "OutsidePolygon"
fault_text TooDeep = codes "TooDeep"
fault_text TooLate = codes "TooLate"

-- the line of a fault: the behaviour that raised it, and its cause
abbrev pub error_text : BhvError → List ℕ
error_text error = concat (codes "%% error " ∷ error.name ∷ codes " " ∷ fault_text error.fault ∷ codes "\n" ∷ [])

-- the lines of a decision, each behind `%% `; or that there is none
abbrev pub decided_text : Option Decision → List ℕ
decided_text None = codes "%% none\n"
decided_text (Some decision) = decision_lines (codes "%% ") decision

-- the line of an iteration: its number, its stamp in seconds and whether the helm drives
abbrev pub state_line : ℕ → Iteration → List ℕ
state_line number iteration =
    concat (codes "%% iteration " ∷ decimal number ∷ codes " " ∷ unsigned_text iteration.stamp ∷ codes " " ∷ state_word iteration.parked ∷ codes "\n" ∷ [])

-- The lines of an iteration: it, the mode, the updates, the behaviours, the faults, and what was decided.
abbrev pub iteration_text : Setup → ℕ → Iteration → List ℕ
iteration_text setup number iteration =
    state_line number iteration
    ++ (mode_line setup iteration.mode
    ++ (flat_map update_text iteration.updates
    ++ (flat_map behavior_text iteration.states ++ (flat_map error_text iteration.faults ++ decided_text iteration.decision))))

-- the lines of the iteration of this number, if there is one
abbrev pub listed_text : Setup → ℕ → Option Iteration → List ℕ
listed_text setup number None = []
listed_text setup number (Some iteration) = iteration_text setup number iteration

-- the iteration of this number, if `first` is the number of the first one in the list
abbrev pub iteration_from : ℕ → List Iteration → ℕ → Option Iteration
iteration_from zero iterations number = slice_get iterations number
iteration_from (suc first) iterations zero = None
iteration_from (suc first) iterations (suc number) = iteration_from first iterations number

-- The lines of the iteration that the helm is in after n fetches, if the list begins with that of number `first`: with its first
-- fetch iteration 0 begins, and what it posts before is part of none.
abbrev pub current_text : Setup → ℕ → List Iteration → ℕ → List ℕ
current_text setup first iterations zero = []
current_text setup first iterations (suc number) = listed_text setup number (iteration_from first iterations number)

-- What follows an entry, if `past` is before it: behind what the helm posts the iteration that it is in.
abbrev pub outcome_text : Setup → ℕ → List Iteration → List (List ℕ) → History → Entry → List ℕ
outcome_text setup first iterations names past entry =
    if is_helm_post names entry then current_text setup first iterations (helm_fetches names past) else []
