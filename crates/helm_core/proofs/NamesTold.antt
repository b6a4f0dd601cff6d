-- Each name that an iteration tells is a behaviour's.
use Rattle.std.proofs.Common.{ℕ, Bool, true, false, List, [], ◌∷◌, ◌++◌, map, flat_map, Option, Some, None, option_map, sym, subst}
use Rattle.std.specs.Prelude.{bytes_eq}
use Rattle.std.specs.List.{All, AllByRecursion as Each, cons_option}
use Rattle.std.proofs.lemmas.List.Elements.{All-from_recursion}
use Rattle.moos_io.proofs.Lists.{each_append}
use Rattle.ivp_domain.specs.declared.axis.Axis.{Axis}
use Rattle.bhv_file.specs.declared.file.Block.{Block}
use Rattle.bhv_file.specs.declared.out.BhvFault.{BhvFault}
use Rattle.helm_core.specs.declared.iteration.BhvError.{BhvError}
use Rattle.helm_core.specs.declared.iteration.How.{How}
use Rattle.helm_core.specs.declared.iteration.How.TheVariants.{Changed, Refused, Spawned}
use Rattle.helm_core.specs.declared.iteration.Update.{Update}
use Rattle.helm_core.specs.declared.showing.TurnShown.{TurnShown}
use Rattle.helm_core.specs.Behaviors.{BhvSoFar, begun_at, showing_of}
use Rattle.helm_core.specs.Iterations.{all_faults, all_states, all_updates, error_of, heard_by_block, iteration_of, update_of, updates_of}
use Rattle.helm_core.specs.Lists.{list_before, spawned_at}
use Rattle.helm_core.specs.PastIterations.{PastIteration}
use Rattle.helm_core.specs.Plans.{Plan}
use Rattle.helm_core.specs.Ticks.{Seen, Tick, seen_at}
use Rattle.helm_core.specs.WellFormed.{names_in_update, names_told}
use Rattle.helm_core.proofs.Letters.{LastsLetters, spawned_last}
use Rattle.helm_core.proofs.Listing.{IsNamed, begun_same, each_filtered}

-- a behaviour that an iteration tells has a name
abbrev HasName : TurnShown → Type 0
HasName one = IsNamed one.name

-- an update in which all names are names
abbrev pub IsNamedUpdate : Update → Type 0
IsNamedUpdate update = Each IsNamed (names_in_update update)

taken_named : (name : List ℕ) (taken : List Bool) → IsNamed name → Each IsNamedUpdate (map (update_of name) taken)
taken_named name [] is = tt
taken_named name (true ∷ taken) is = ((is, tt), taken_named name taken is)
taken_named name (false ∷ taken) is = ((is, tt), taken_named name taken is)

showings_updated : (showings : List TurnShown) → Each HasName showings → Each IsNamedUpdate (flat_map updates_of showings)
showings_updated [] all = tt
showings_updated (one ∷ showings) all =
    each_append IsNamedUpdate (updates_of one) (flat_map updates_of showings) (taken_named one.name one.taken all.0) (showings_updated showings all.1)

blocks_updated : (heard : List Update) (blocks : List Block) → Each IsNamedUpdate heard → Each IsNamedUpdate (flat_map (heard_by_block heard) blocks)
blocks_updated heard [] all = tt
blocks_updated heard (block ∷ blocks) all =
    each_append IsNamedUpdate (heard_by_block heard block) (flat_map (heard_by_block heard) blocks) (each_filtered IsNamedUpdate (λ (update : Update). bytes_eq update.name block.common.name) heard all) (blocks_updated heard blocks all)

names_of_updates : (updates : List Update) → Each IsNamedUpdate updates → Each IsNamed (flat_map names_in_update updates)
names_of_updates [] all = tt
names_of_updates (update ∷ updates) all = each_append IsNamed (names_in_update update) (flat_map names_in_update updates) all.0 (names_of_updates updates all.1)

updates_named : (blocks : List Block) (answers : List Update) (showings : List TurnShown) → Each IsNamedUpdate answers → Each HasName showings → Each IsNamed (flat_map names_in_update (all_updates blocks answers showings))
updates_named blocks answers showings named all =
    names_of_updates (all_updates blocks answers showings)
    (blocks_updated (answers ++ flat_map updates_of showings) blocks (each_append IsNamedUpdate answers (flat_map updates_of showings) named (showings_updated showings all)))

abbrev answer : Block → How → Update
answer template how = record { name = template.common.name; how = how }

-- the answers to letters to templates with names
answers_last : (axes : List Axis) (blocks : List Block) (at : ℕ) → LastsLetters axes blocks at (λ block. IsNamed block.common.name) (λ so_far. Each IsNamedUpdate so_far.answers)
answers_last axes blocks at = record {
  refuses = λ template so_far q all. each_append IsNamedUpdate so_far.answers (answer template Refused ∷ []) all ((q, tt), tt);
  makes = λ template so_far said q named room free all. each_append IsNamedUpdate so_far.answers (answer template (Spawned said.name) ∷ []) all ((q, (named, tt)), tt);
  changes = λ template so_far said place one q there all. each_append IsNamedUpdate so_far.answers (answer template Changed ∷ []) all ((q, tt), tt);
}

pub answers_named : (plan : Plan) (ticks : List Tick) (i : ℕ) → Each (λ block. IsNamed block.common.name) plan.blocks → Each IsNamedUpdate (spawned_at plan ticks i).answers
answers_named plan ticks i all =
    spawned_last plan.axes plan.blocks i (λ block. IsNamed block.common.name) (λ so_far. Each IsNamedUpdate so_far.answers) (answers_last plan.axes plan.blocks i) (seen_at plan.decls ticks i).letters (list_before plan ticks i) all tt

states_named : (showings : List TurnShown) → Each HasName showings → Each IsNamed (map (λ one. one.name) (all_states showings))
states_named [] all = tt
states_named (one ∷ showings) all = (all.0, states_named showings all.1)

-- in faults
abbrev name_in : BhvError → List ℕ
name_in error = error.name

fault_named : (name : List ℕ) (fault : Option BhvFault) (rest : List BhvError) → IsNamed name → Each IsNamed (map name_in rest)
    → Each IsNamed (map name_in (cons_option (option_map (error_of name) fault) rest))
fault_named name None rest is all = all
fault_named name (Some fault) rest is all = (is, all)

faults_named : (showings : List TurnShown) → Each HasName showings → Each IsNamed (map name_in (all_faults showings))
faults_named [] all = tt
faults_named (one ∷ showings) all = fault_named one.name one.out.fault (all_faults showings) all.0 (faults_named showings all.1)

-- what is told of behaviours with names has these
pub all_told : (plan : Plan) (before : Option PastIteration) (now : PastIteration) → Each IsNamedUpdate now.answers → Each HasName now.showings → All IsNamed (names_told (iteration_of plan before now))
all_told plan before now named all =
    All-from_recursion IsNamed (names_told (iteration_of plan before now))
    (each_append IsNamed (flat_map names_in_update (all_updates plan.blocks now.answers now.showings)) _ (updates_named plan.blocks now.answers now.showings named all)
    (each_append IsNamed (map (λ one. one.name) (all_states now.showings)) (map name_in (all_faults now.showings)) (states_named now.showings all) (faults_named now.showings all)))

-- behaviours with names
pub showings_named : (axes : List Axis) (seen : Seen) (fault : Bool) (ones : List BhvSoFar) → Each (λ one. IsNamed one.name) ones → Each HasName (map (showing_of seen fault) (map (begun_at axes seen) ones))
showings_named axes seen fault [] all = tt
showings_named axes seen fault (one ∷ ones) all = (subst IsNamed (sym (begun_same axes seen one).0) all.0, showings_named axes seen fault ones all.1)
