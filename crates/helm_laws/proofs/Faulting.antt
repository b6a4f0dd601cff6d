-- A fault stops the vehicle and is told, and a region that is left raises one.
use Rattle.std.proofs.Common.{◌≡◌, ◌-◌, ℕ, zero, suc, ℤ, Bool, true, false, not, ◌||◌, cond, List, [], ◌∷◌, map, Option, Some, None, refl, sym, ap, ◌∙◌}
use Rattle.std.specs.Prelude.{codes, int_lt, is_some, nat_le, option_map, slice_get, unwrap_or}
use Rattle.std.specs.List.{cons_option, filter_map, list_any}
use Rattle.std.specs.Option.{option_or}
use Rattle.std.proofs.lemmas.Option.{slice_get-map}
use Rattle.ivp_domain.specs.declared.axis.Axis.{Axis}
use Rattle.helm_geo.specs.declared.spot.Spot.{Spot}
use Rattle.bhv_file.specs.declared.out.BhvFault.{BhvFault}
use Rattle.bhv_file.specs.declared.out.BhvFault.TheVariants.{OutsidePolygon}
use Rattle.bhv_file.specs.declared.spec.Shape.{Shape}
use Rattle.bhv_file.specs.declared.spec.Shape.TheVariants.{OpRegion}
use Rattle.bhv_file.specs.Known.{latest_number, position_of}
use Rattle.bhv_kinds.specs.Changes.{first_step, params_at, step_of}
use Rattle.bhv_kinds.specs.Giving.{gives_by_type, situation_at}
use Rattle.bhv_kinds.specs.Regions.{depth_fault, fault_if, late_fault, outside_fault, region_fault}
use Rattle.bhv_life.specs.Lives.{is_fresh, is_stepped}
use Rattle.helm_core.specs.Behaviors.{BhvSoFar, Judged, all_begun, begun_at, begun_by_step, beginning_at, has_fault, judged_at, past_so_far, showing_of}
use Rattle.helm_core.specs.Decisions.{some_active}
use Rattle.helm_core.specs.Iterations.{error_of, fault_of}
use Rattle.helm_core.specs.Lists.{list_at}
use Rattle.helm_core.specs.PastIterations.{past_iteration_at}
use Rattle.helm_core.specs.Plans.{Plan}
use Rattle.helm_core.specs.Posts.{lacks_decision, some_fault}
use Rattle.helm_core.specs.Ticks.{Seen, Tick, seen_at}
use Rattle.helm_core.proofs.Listing.{begun_same}
use Rattle.helm_laws.specs.Files.{OfEveryPlan}
use Rattle.helm_laws.specs.Regions.{FaultStops, IsRegion, LatenessFaults, LeavingFaults, LosingFaults, SinkingFaults, StopsForFault}
use Rattle.helm_laws.proofs.Inactive.{faults_told, silent_faultless, silent_unstepped, unstepped_if}
use Rattle.helm_laws.proofs.Stopping.{nothing}

some_raises : (axes : List Axis) (seen : Seen) (ones : List BhvSoFar) (place : ℕ) (one : BhvSoFar) → slice_get ones place ≡ Some one → has_fault (begun_at axes seen one) ≡ true → list_any has_fault (all_begun axes seen ones) ≡ true
some_raises axes seen [] place one is raises = absurd (let e : None ≡ Some one = is in cc)
some_raises axes seen (first ∷ ones) zero one is raises =
    let same : first ≡ one = (let e : Some first ≡ Some one = is in cc) in
    ap (λ b. b || list_any has_fault (all_begun axes seen ones)) (ap (λ it. has_fault (begun_at axes seen it)) same ∙ raises)
some_raises axes seen (first ∷ ones) (suc place) one is raises = or_true (has_fault (begun_at axes seen first)) _ (some_raises axes seen ones place one is raises)
  where
    or_true : (a b : Bool) → b ≡ true → (a || b) ≡ true
    or_true true b is = refl
    or_true false b is = is

-- a parked helm raises none
parked_faultless : (axes : List Axis) (seen : Seen) (one : BhvSoFar) → seen.parked ≡ true → has_fault (begun_at axes seen one) ≡ false
parked_faultless axes seen one is = silent_faultless (begun_at axes seen one) (silent_unstepped axes seen one (unstepped_if seen.parked _ _ _ is))

unparked : (axes : List Axis) (seen : Seen) (one : BhvSoFar) → has_fault (begun_at axes seen one) ≡ true → seen.parked ≡ false
unparked axes seen one raises = by seen.parked refl
  where
    by : (parks : Bool) → seen.parked ≡ parks → parks ≡ false
    by true is = absurd (let e : true ≡ false = sym raises ∙ parked_faultless axes seen one is in cc)
    by false is = refl

-- where something is given, it is among what all give
record Among {B : Type 0} (all : List B) (given : B) : Type 0 where
  at : ℕ
  is : slice_get all at ≡ Some given

among : {A B : Type 0} (give : A → Option B) (xs : List A) (k : ℕ) (x : A) (y : B) → slice_get xs k ≡ Some x → give x ≡ Some y → Among (filter_map give xs) y
among give [] k x y is gives = absurd (let e : None ≡ Some x = is in cc)
among {A} {B} give (first ∷ xs) zero x y is gives =
    let same : first ≡ x = (let e : Some first ≡ Some x = is in cc) in
    record { at = 0; is = ap (λ given. slice_get (cons_option given (filter_map give xs)) 0) (ap give same ∙ gives) }
among {A} {B} give (first ∷ xs) (suc k) x y is gives = by (give first) (among give xs k x y is gives)
  where
    by : (own : Option B) → Among (filter_map give xs) y → Among (cons_option own (filter_map give xs)) y
    by None rest = rest
    by (Some own) rest = record { at = suc rest.at; is = rest.is }

-- a behaviour of the list is shown, at its place
shown_at : (axes : List Axis) (seen : Seen) (fault : Bool) (ones : List BhvSoFar) (place : ℕ) (one : BhvSoFar) → slice_get ones place ≡ Some one
    → slice_get (map (showing_of seen fault) (map (begun_at axes seen) ones)) place ≡ Some (showing_of seen fault (begun_at axes seen one))
shown_at axes seen fault ones place one is =
    slice_get-map (showing_of seen fault) (map (begun_at axes seen) ones) place
    ∙ ap (option_map (showing_of seen fault)) (slice_get-map (begun_at axes seen) ones place ∙ ap (option_map (begun_at axes seen)) is)

-- its fault is told with its name
fault_told : (axes : List Axis) (seen : Seen) (all : Bool) (one : BhvSoFar) (fault : BhvFault) → (begun_at axes seen one).out.fault ≡ Some fault → fault_of (showing_of seen all (begun_at axes seen one)) ≡ Some (error_of one.name fault)
fault_told axes seen all one fault is =
    ap (option_map (error_of (begun_at axes seen one).standing.name)) is ∙ ap (λ name. Some (error_of name fault)) (begun_same axes seen one).0

-- and why the vehicle must stop
reason : (parked fault active lacks : Bool) → parked ≡ false → fault ≡ true
    → cond parked (codes "ManualOverride") (cond fault (codes "BehaviorError") (cond (not active) (codes "NothingToDo") (cond lacks (codes "MissingDecVars") (codes "clear")))) ≡ codes "BehaviorError"
reason parked fault active lacks p q = rw (p, q) refl

fault_steers : (parks fault active : Bool) → fault ≡ true → (parks || fault || not active) ≡ true
fault_steers true fault active is = refl
fault_steers false fault active is = ap (λ b. b || not active) is

stops_for : (plan : Plan) (ticks : List Tick) (i place : ℕ) (one : BhvSoFar) (fault : BhvFault) → slice_get (list_at plan ticks i) place ≡ Some one
    → (begun_at plan.axes (seen_at plan.decls ticks i) one).out.fault ≡ Some fault → StopsForFault plan ticks i one
stops_for plan ticks i place one fault is raised =
    let seen = seen_at plan.decls ticks i in
    let now = past_iteration_at plan ticks i in
    let all = all_begun plan.axes seen (list_at plan ticks i) in
    let raises : has_fault (begun_at plan.axes seen one) ≡ true = ap is_some raised in
    let told : some_fault now.showings ≡ true = faults_told seen (list_any has_fault all) all ∙ some_raises plan.axes seen (list_at plan ticks i) place one is raises in
    let found = among fault_of now.showings place (showing_of seen (list_any has_fault all) (begun_at plan.axes seen one)) (error_of one.name fault)
    (shown_at plan.axes seen (list_any has_fault all) (list_at plan ticks i) place one is) (fault_told plan.axes seen (list_any has_fault all) one fault raised) in
    record {
      fault = fault;
      raised = raised;
      at = found.at;
      told = found.is;
      reason = reason now.seen.parked (some_fault now.showings) (some_active now.showings) (lacks_decision plan.axes now.showings) (unparked plan.axes seen one raises) told;
      nothing = nothing plan ticks i (fault_steers now.seen.parked (some_fault now.showings) (some_active now.showings) told);
    }

pub fault_stops : OfEveryPlan FaultStops
fault_stops plan ticks i place one is raises = by (begun_at plan.axes (seen_at plan.decls ticks i) one).out.fault refl raises
  where
    by : (fault : Option BhvFault) → (begun_at plan.axes (seen_at plan.decls ticks i) one).out.fault ≡ fault → is_some fault ≡ true → StopsForFault plan ticks i one
    by None same some = absurd (let e : false ≡ true = some in cc)
    by (Some fault) same some = stops_for plan ticks i place one fault is same

-- the fault of a region by what it finds
region_by : (axes : List Axis) (seen : Seen) (one : BhvSoFar) (judged : Judged) (stepped : Bool) (polygon : Option (List Spot)) (depth : Option ℤ) (time : Option ℕ) → stepped ≡ true
    → (params_at one.block.spec judged.changes).shape ≡ OpRegion polygon depth time
    → (begun_by_step axes seen one judged stepped).out.fault
    ≡ region_fault (outside_fault polygon (position_of seen.known)) (depth_fault depth (latest_number seen.known (codes "NAV_DEPTH"))) (late_fault time (seen.stamp - unwrap_or (first_step judged.changes) seen.stamp))
region_by axes seen one judged false polygon depth time is same = absurd (let e : false ≡ true = is in cc)
region_by axes seen one judged true polygon depth time is same =
    let found = situation_at one.block.spec judged.changes (step_of axes seen.known seen.stamp (is_fresh (past_so_far one))) in
    ap (λ (shape : Shape). (gives_by_type shape seen.known found).fault) same

abbrev later_fault : List Axis → Seen → BhvSoFar → Option ℤ → Option ℕ → Option BhvFault
later_fault axes seen one depth time =
    option_or (depth_fault depth (latest_number seen.known (codes "NAV_DEPTH"))) (late_fault time (seen.stamp - unwrap_or (first_step (judged_at axes seen one).changes) seen.stamp))

abbrev fault_at : List Axis → Seen → BhvSoFar → Option (List Spot) → Option ℤ → Option ℕ → Option BhvFault
fault_at axes seen one polygon depth time = option_or (outside_fault polygon (position_of seen.known)) (later_fault axes seen one depth time)

region : (axes : List Axis) (seen : Seen) (one : BhvSoFar) (polygon : Option (List Spot)) (depth : Option ℤ) (time : Option ℕ) → IsRegion axes seen one polygon depth time
    → (begun_at axes seen one).out.fault ≡ fault_at axes seen one polygon depth time
region axes seen one polygon depth time is =
    region_by axes seen one (judged_at axes seen one) (is_stepped one.block.common (past_so_far one) (beginning_at seen one.block.common)) polygon depth time is.stepped is.shape

pub losing : LosingFaults
losing axes seen one polygon depth time is lost =
    region axes seen one (Some polygon) depth time is ∙ ap (λ here. option_or (outside_fault (Some polygon) here) (later_fault axes seen one depth time)) lost

pub leaving : LeavingFaults
leaving axes seen one polygon depth time here is there out =
    region axes seen one (Some polygon) depth time is ∙ ap (λ own. option_or (outside_fault (Some polygon) own) (later_fault axes seen one depth time)) there
    ∙ ap (λ b. option_or (fault_if (not b) OutsidePolygon) (later_fault axes seen one depth time)) out

or_some : (first other : Option BhvFault) → is_some first ≡ true → is_some (option_or first other) ≡ true
or_some None other is = absurd (let e : false ≡ true = is in cc)
or_some (Some fault) other is = refl

or_other : (first other : Option BhvFault) → is_some other ≡ true → is_some (option_or first other) ≡ true
or_other None other is = is
or_other (Some fault) other is = refl

deep : (limit number : ℤ) → int_lt limit number ≡ true → is_some (depth_fault (Some limit) (Some number)) ≡ true
deep limit number is = rw is refl

late : (limit time : ℕ) → nat_le limit time ≡ true → is_some (late_fault (Some limit) time) ≡ true
late limit time is = rw is refl

pub sinking : SinkingFaults
sinking axes seen one polygon limit number time is known under =
    ap is_some (region axes seen one polygon (Some limit) time is)
    ∙ or_other (outside_fault polygon (position_of seen.known)) (later_fault axes seen one (Some limit) time)
    (or_some (depth_fault (Some limit) (latest_number seen.known (codes "NAV_DEPTH"))) (late_fault time (seen.stamp - unwrap_or (first_step (judged_at axes seen one).changes) seen.stamp)) (ap (λ sounded. is_some (depth_fault (Some limit) sounded)) known ∙ deep limit number under))

pub lateness : LatenessFaults
lateness axes seen one polygon depth limit first is began past =
    ap is_some (region axes seen one polygon depth (Some limit) is)
    ∙ or_other (outside_fault polygon (position_of seen.known)) (later_fault axes seen one depth (Some limit))
    (or_other (depth_fault depth (latest_number seen.known (codes "NAV_DEPTH"))) (late_fault (Some limit) (seen.stamp - unwrap_or (first_step (judged_at axes seen one).changes) seen.stamp))
    (ap (λ found. is_some (late_fault (Some limit) (seen.stamp - unwrap_or found seen.stamp))) began ∙ late limit (seen.stamp - first) past))
