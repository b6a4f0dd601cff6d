-- Behind an entry's own lines the next entry, or the end, is found line by line: no line of an iteration begins as theirs do.
use Rattle.std.proofs.Common.{◌≡◌, ◌≢◌, ℕ, zero, suc, true, false, Bool, Some, None, Option, List, [], ◌∷◌, ◌++◌, flat_map, map, get_or, refl, sym, ◌∙◌, subst, arith, append_assoc}
use Rattle.std.specs.Prelude.{codes, decimal, IsTrue, IfSome, if◌then◌else◌, slice_get}
use Rattle.std.specs.List.{All, concat, AllByRecursion as Each}
use Rattle.std.proofs.lemmas.List.Elements.{recursion_from_All}
use Rattle.std.proofs.lemmas.Option.{get_or_from_slice_get, slice_get_within}
use Rattle.moos_io.proofs.Lists.{each_weaker}
use Rattle.moos_post.specs.declared.entry.Entry.{Entry}
use Rattle.moos_post.specs.History.{History}
use Rattle.moos_text.specs.Numbers.{unsigned_text}
use Rattle.ivp_domain.specs.declared.axis.Axis.{Axis}
use Rattle.bhv_file.specs.declared.out.BhvFault.{BhvFault}
use Rattle.bhv_file.specs.declared.out.BhvFault.TheVariants.{NoPosition, OutsidePolygon, TooDeep, TooLate}
use Rattle.bhv_life.specs.declared.outcome.BhvState.{BhvState}
use Rattle.bhv_life.specs.declared.outcome.BhvState.TheVariants.{Idle, Running, Active, Completed}
use Rattle.bhv_file.specs.declared.file.Unused.{Unused}
use Rattle.helm_core.specs.declared.iteration.BhvError.{BhvError}
use Rattle.helm_core.specs.declared.iteration.BhvNow.{BhvNow}
use Rattle.helm_core.specs.declared.iteration.How.{How}
use Rattle.helm_core.specs.declared.iteration.How.TheVariants.{Changed, Refused, Spawned}
use Rattle.helm_core.specs.declared.iteration.Iteration.{Iteration}
use Rattle.helm_core.specs.declared.iteration.Update.{Update}
use Rattle.helm_core.specs.Posts.{state_word}
use Rattle.helm_core.specs.WellFormed.{name_made, names_in_update, names_told}
use Rattle.moos_report.specs.declared.setup.Setup.{Setup}
use Rattle.moos_report.specs.Community.{is_one_line, StandOnLines}
use Rattle.moos_report.specs.IterationLines.{behavior_text, current_text, decided_text, error_text, fault_text, helm_fetches, how_text, is_helm_post, iteration_text, listed_text, mode_line, outcome_text, shown_mode, state_line, behavior_state, update_text}
use Rattle.moos_report.specs.Report.{unused_text}
use Rattle.moos_report.proofs.PassedDecisions.{decided_passed}
use Rattle.moos_report.proofs.PassedLines.{Clean, clean_line, clean_on, IsPassed, line_passed, names_clean, next_entry, passed_as, passed_each, passed_none, passed_on, unsigned_clean, whole_lacks}

-- fixed words
driver_clean : (parked : Bool) → Clean (state_word parked)
driver_clean true = clean_line (codes "PARK") refl
driver_clean false = clean_line (codes "DRIVE") refl

how_clean : (how : How) → Each Clean (name_made how) → Clean (how_text how)
how_clean Refused clean = clean_line (codes "refused") refl
how_clean Changed clean = clean_line (codes "taken") refl
how_clean (Spawned name) clean = clean_on (codes "spawned ") name (clean_line (codes "spawned ") refl) clean.0

state_clean : (state : BhvState) → Clean (behavior_state state)
state_clean Idle = clean_line (codes "idle") refl
state_clean Running = clean_line (codes "running") refl
state_clean Active = clean_line (codes "active") refl
state_clean Completed = clean_line (codes "completed") refl

fault_clean : (fault : BhvFault) → Clean (fault_text fault)
fault_clean NoPosition = clean_line (codes "NoPosition") refl
fault_clean OutsidePolygon = clean_line (codes "OutsidePolygon") refl
fault_clean TooDeep = clean_line (codes "TooDeep") refl
fault_clean TooLate = clean_line (codes "TooLate") refl

mode_clean : (mode : List ℕ) → Clean mode → Clean (shown_mode mode)
mode_clean [] clean = (λ same. absurd (omega (arith, same)), tt)
mode_clean (first ∷ rest) clean = clean

-- two words with a blank between them
blank_clean : (one other : List ℕ) → Clean one → Clean other → Clean (one ++ 32 ∷ other)
blank_clean one other first second = clean_on one (32 ∷ other) first (λ same. absurd (omega (arith, same)), second)

-- a line of two words behind how it begins
pair_open : (head one other : List ℕ) → concat (head ∷ one ∷ codes " " ∷ other ∷ codes "\n" ∷ []) ≡ head ++ ((one ++ 32 ∷ other) ++ codes "\n")
pair_open head one other = simp append_assoc refl

unused_passed : (unused : Unused) → IsTrue (is_one_line unused.name) → IsPassed (unused_text unused)
unused_passed unused line =
    passed_as (pair_open (codes "%% unused ") (decimal unused.line) unused.name)
    (line_passed (codes "%% unused ") (decimal unused.line ++ 32 ∷ unused.name) (λ text. refl) (blank_clean (decimal unused.line) unused.name (whole_lacks unused.line) (clean_line unused.name line)))

-- the unused parameters are passed over
pub unused_skipped : (setup : Setup) (iterations : List Iteration) → StandOnLines setup iterations → IsPassed (flat_map unused_text setup.unused)
unused_skipped setup iterations lines =
    passed_each unused_text setup.unused
    (each_weaker (λ (unused : Unused). IsTrue (is_one_line unused.name)) (λ unused. IsPassed (unused_text unused)) unused_passed setup.unused
    (recursion_from_All (λ (unused : Unused). IsTrue (is_one_line unused.name)) setup.unused lines.unused))

-- each of two lists
each_parts : (one other : List (List ℕ)) → Each Clean (one ++ other) → Each Clean one × Each Clean other
each_parts [] other all = (tt, all)
each_parts (name ∷ one) other all = let rest = each_parts one other all.1 in ((all.0, rest.0), rest.1)

-- what an iteration tells of the behaviours
update_passed : (update : Update) → Each Clean (names_in_update update) → IsPassed (update_text update)
update_passed update clean =
    passed_as (pair_open (codes "%% update ") update.name (how_text update.how))
    (line_passed (codes "%% update ") (update.name ++ 32 ∷ how_text update.how) (λ text. refl) (blank_clean update.name (how_text update.how) clean.0 (how_clean update.how clean.1)))

updates_passed : (updates : List Update) → Each Clean (flat_map names_in_update updates) → IsPassed (flat_map update_text updates)
updates_passed [] clean = passed_none
updates_passed (update ∷ updates) clean =
    let parts = each_parts (names_in_update update) (flat_map names_in_update updates) clean in
    passed_on (update_text update) (flat_map update_text updates) (update_passed update parts.0) (updates_passed updates parts.1)

states_passed : (states : List BhvNow) → Each Clean (map (λ one. one.name) states) → IsPassed (flat_map behavior_text states)
states_passed [] clean = passed_none
states_passed (one ∷ states) clean =
    passed_on (behavior_text one) (flat_map behavior_text states)
    (passed_as (pair_open (codes "%% behavior ") one.name (behavior_state one.state))
    (line_passed (codes "%% behavior ") (one.name ++ 32 ∷ behavior_state one.state) (λ text. refl) (blank_clean one.name (behavior_state one.state) clean.0 (state_clean one.state))))
    (states_passed states clean.1)

errors_passed : (faults : List BhvError) → Each Clean (map (λ error. error.name) faults) → IsPassed (flat_map error_text faults)
errors_passed [] clean = passed_none
errors_passed (error ∷ faults) clean =
    passed_on (error_text error) (flat_map error_text faults)
    (passed_as (pair_open (codes "%% error ") error.name (fault_text error.fault))
    (line_passed (codes "%% error ") (error.name ++ 32 ∷ fault_text error.fault) (λ text. refl) (blank_clean error.name (fault_text error.fault) clean.0 (fault_clean error.fault))))
    (errors_passed faults clean.1)

-- the line of an iteration
iteration_open : (number stamp driver : List ℕ) → concat (codes "%% iteration " ∷ number ∷ codes " " ∷ stamp ∷ codes " " ∷ driver ∷ codes "\n" ∷ [])
    ≡ codes "%% iteration " ++ ((number ++ 32 ∷ (stamp ++ 32 ∷ driver)) ++ codes "\n")
iteration_open number stamp driver = simp append_assoc refl

line_of_state : (number : ℕ) (iteration : Iteration) → IsPassed (state_line number iteration)
line_of_state number iteration =
    let stamp = unsigned_text iteration.stamp in
    let driver = state_word iteration.parked in
    passed_as (iteration_open (decimal number) stamp driver)
    (line_passed (codes "%% iteration ") (decimal number ++ 32 ∷ (stamp ++ 32 ∷ driver)) (λ text. refl)
    (blank_clean (decimal number) (stamp ++ 32 ∷ driver) (whole_lacks number) (blank_clean stamp driver (unsigned_clean iteration.stamp) (driver_clean iteration.parked))))

-- the line of a mode
mode_open : (mode : List ℕ) → concat (codes "%% mode " ∷ mode ∷ codes "\n" ∷ []) ≡ codes "%% mode " ++ (mode ++ codes "\n")
mode_open mode = refl

mode_passed : (setup : Setup) (mode : List ℕ) → Clean mode → IsPassed (mode_line setup mode)
mode_passed setup mode clean = by setup.modes
  where
    by : (b : Bool) → IsPassed (if b then concat (codes "%% mode " ∷ shown_mode mode ∷ codes "\n" ∷ []) else [])
    by true = passed_as (mode_open (shown_mode mode)) (line_passed (codes "%% mode ") (shown_mode mode) (λ text. refl) (mode_clean mode clean))
    by false = passed_none

-- the names of an iteration stand on one line each
record HasLines (iteration : Iteration) : Type 0 where
  mode : IsTrue (is_one_line iteration.mode)
  names : All (λ name. IsTrue (is_one_line name)) (names_told iteration)
  axes : IfSome iteration.decision (λ decision. All (λ (axis : Axis). IsTrue (is_one_line axis.name)) decision.problem.axes)

-- the lines of an iteration are passed over
iteration_passed : (setup : Setup) (number : ℕ) (iteration : Iteration) → HasLines iteration → IsPassed (iteration_text setup number iteration)
iteration_passed setup number iteration lines =
    let decided = decided_text iteration.decision in
    let errors = flat_map error_text iteration.faults in
    let states = flat_map behavior_text iteration.states in
    let updates = flat_map update_text iteration.updates in
    let in_states = map (λ (one : BhvNow). one.name) iteration.states in
    let in_faults = map (λ (error : BhvError). error.name) iteration.faults in
    let of_updates = each_parts (flat_map names_in_update iteration.updates) (in_states ++ in_faults) (names_clean (names_told iteration) lines.names) in
    let of_behaviors = each_parts in_states in_faults of_updates.1 in
    passed_on (state_line number iteration) (mode_line setup iteration.mode ++ (updates ++ (states ++ (errors ++ decided)))) (line_of_state number iteration)
    (passed_on (mode_line setup iteration.mode) (updates ++ (states ++ (errors ++ decided))) (mode_passed setup iteration.mode (clean_line iteration.mode lines.mode))
    (passed_on updates (states ++ (errors ++ decided)) (updates_passed iteration.updates of_updates.0)
    (passed_on states (errors ++ decided) (states_passed iteration.states of_behaviors.0)
    (passed_on errors decided (errors_passed iteration.faults of_behaviors.1) (decided_passed iteration.decision lines.axes)))))

-- what holds of nothing, and of each iteration, holds of what follows an entry
outcome_by : (P : List ℕ → Type 0) (setup : Setup) (iterations : List Iteration) (names : List (List ℕ)) (past : History) (entry : Entry) → StandOnLines setup iterations → P []
    → ((number : ℕ) (iteration : Iteration) → HasLines iteration → P (iteration_text setup number iteration)) → P (outcome_text setup 0 iterations names past entry)
outcome_by P setup iterations names past entry lines none some = by (is_helm_post names entry) (helm_fetches names past)
  where
    listed : (number : ℕ) (found : Option Iteration) → slice_get iterations number ≡ found → P (listed_text setup number found)
    listed number None at = none
    listed number (Some iteration) at =
        let within = slice_get_within iterations number iteration at in
        let has : HasLines (get_or iterations number iteration) = record { mode = lines.modes number iteration within; names = lines.names number iteration within; axes = lines.axes number iteration within } in
        some number iteration (subst HasLines (get_or_from_slice_get iterations number iteration iteration at) has)

    by : (posts : Bool) (fetches : ℕ) → P (if posts then current_text setup 0 iterations fetches else [])
    by false fetches = none
    by true zero = none
    by true (suc number) = listed number (slice_get iterations number) refl

-- what follows an entry is passed over
pub outcome_skipped : (setup : Setup) (iterations : List Iteration) (names : List (List ℕ)) (past : History) (entry : Entry) → StandOnLines setup iterations
    → IsPassed (outcome_text setup 0 iterations names past entry)
outcome_skipped setup iterations names past entry lines =
    outcome_by IsPassed setup iterations names past entry lines passed_none
    (λ number iteration has. iteration_passed setup number iteration has)

-- a line whose letter behind `%% ` is another one
abbrev pub Differs : ℕ → List ℕ → Type 0
Differs letter text = get_or text 3 0 ≢ letter

-- an entry, or the end
pub record IsNext (text : List ℕ) : Type 0 where
  pub letter : get_or text 3 0 ≡ 101
  pub found : next_entry true text ≡ text

pub next_differs : (letter : ℕ) (text : List ℕ) → 101 ≢ letter → IsNext text → Differs letter text
next_differs letter text other next same = other (sym next.letter ∙ same)

-- what follows an entry is no registration
pub outcome_differs : (setup : Setup) (iterations : List Iteration) (names : List (List ℕ)) (past : History) (entry : Entry) (after : List ℕ) → StandOnLines setup iterations → IsNext after
    → Differs 114 (outcome_text setup 0 iterations names past entry ++ after)
outcome_differs setup iterations names past entry after lines next =
    outcome_by (λ text. Differs 114 (text ++ after)) setup iterations names past entry lines (next_differs 114 after (λ same. absurd (omega (arith, same))) next)
    (λ number iteration has same. absurd (omega (arith, same)))

-- the unused parameters aren't clients
pub unused_differs : (unused : List Unused) (after : List ℕ) → IsNext after → Differs 99 (flat_map unused_text unused ++ after)
unused_differs [] after next = next_differs 99 after (λ same. absurd (omega (arith, same))) next
unused_differs (parameter ∷ unused) after next = λ same. absurd (omega (arith, same))
