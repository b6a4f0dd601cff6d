-- An iteration of the helm, as a function of what the helm is made of and of all its ticks so far.
use Rattle.std.specs.Prelude.{ℕ, Bool, if◌then◌else◌, List, ◌++◌, map, bytes_eq, Option, option_map}
use Rattle.std.specs.List.{filter, filter_map, flat_map}
use Rattle.bhv_file.specs.declared.file.Block.{Block}
use Rattle.bhv_file.specs.declared.out.BhvFault.{BhvFault}
use Rattle.helm_core.specs.declared.iteration.BhvError.{BhvError}
use Rattle.helm_core.specs.declared.iteration.BhvNow.{BhvNow}
use Rattle.helm_core.specs.declared.iteration.How.{How}
use Rattle.helm_core.specs.declared.iteration.How.TheVariants.{Changed, Refused}
use Rattle.helm_core.specs.declared.iteration.Iteration.{Iteration}
use Rattle.helm_core.specs.declared.iteration.Update.{Update}
use Rattle.helm_core.specs.declared.showing.TurnShown.{TurnShown}
use Rattle.helm_core.specs.Plans.{Plan}
use Rattle.helm_core.specs.Ticks.{Tick}
use Rattle.helm_core.specs.Decisions.{decision_made}
use Rattle.helm_core.specs.PastIterations.{PastIteration, past_iteration_at, past_iteration_before}
use Rattle.helm_core.specs.Posts.{posts_made}

-- what became of an update that was good or not
abbrev pub how_taken : Bool → How
how_taken taken = if taken then Changed else Refused

-- an update of the behaviour of this name
abbrev pub update_of : List ℕ → Bool → Update
update_of name taken = record { name = name; how = how_taken taken }

-- the updates of a behaviour, in order
abbrev pub updates_of : TurnShown → List Update
updates_of one = map (update_of one.name) one.taken

-- a behaviour by its name and its state
abbrev pub state_of : TurnShown → BhvNow
state_of one = record { name = one.name; state = one.outcome.now }

-- a fault of the behaviour of this name
abbrev pub error_of : List ℕ → BhvFault → BhvError
error_of name fault = record { name = name; fault = fault }

-- the fault of a behaviour, if it raised one
abbrev pub fault_of : TurnShown → Option BhvError
fault_of one = option_map (error_of one.name) one.out.fault

-- the updates among these that the behaviour or the template of this block heard
abbrev pub heard_by_block : List Update → Block → List Update
heard_by_block heard block = filter (λ update. bytes_eq update.name block.common.name) heard

-- the updates of all behaviours and templates, in file order
abbrev pub all_updates : List Block → List Update → List TurnShown → List Update
all_updates blocks answers showings = flat_map (heard_by_block (answers ++ flat_map updates_of showings)) blocks

-- each behaviour by its name and its state
abbrev pub all_states : List TurnShown → List BhvNow
all_states showings = map state_of showings

-- the faults of all behaviours
abbrev pub all_faults : List TurnShown → List BhvError
all_faults showings = filter_map fault_of showings

-- the answer of an iteration after this one
abbrev pub iteration_of : Plan → Option PastIteration → PastIteration → Iteration
iteration_of plan before now = record {
  stamp = now.seen.stamp;
  parked = now.seen.parked;
  mode = now.seen.mode;
  updates = all_updates plan.blocks now.answers now.showings;
  states = all_states now.showings;
  faults = all_faults now.showings;
  decision = decision_made plan.axes now.showings;
  posts = posts_made plan before now;
}

-- Iteration i.
abbrev pub iteration_at : Plan → List Tick → ℕ → Iteration
iteration_at plan ticks i = iteration_of plan (past_iteration_before plan ticks i) (past_iteration_at plan ticks i)
