-- What a helm says where the vehicle must stop.
use Rattle.std.proofs.Common.{ℤ, ◌≡◌, ℕ, pos, Bool, true, false, not, ◌&&◌, ◌||◌, cond, List, [], ◌∷◌, ◌++◌, fold, map, Option, Some, None, refl, sym, ap, ◌∙◌}
use Rattle.std.specs.Prelude.{bytes_eq, codes, option_map}
use Rattle.std.specs.List.{list_any}
use Rattle.std.proofs.lemmas.Grind.{fold-append}
use Rattle.moos_post.specs.declared.value.Pair.{Pair}
use Rattle.moos_post.specs.declared.value.Value.{Value}
use Rattle.moos_post.specs.declared.value.Value.TheVariants.{Num, Text}
use Rattle.ivp_cert.specs.declared.claim.Decision.{Decision}
use Rattle.ivp_cert.specs.Certificates.{best_decision}
use Rattle.helm_core.specs.Behaviors.{all_begun, has_fault, showing_of}
use Rattle.bhv_file.specs.Params.{has_axis}
use Rattle.helm_core.specs.Decisions.{active_problem, decision_made, number_on, some_active}
use Rattle.helm_core.specs.Iterations.{iteration_at}
use Rattle.helm_core.specs.Lists.{list_at}
use Rattle.helm_core.specs.PastIterations.{past_iteration_at, past_iteration_before}
use Rattle.helm_core.specs.Plans.{Plan}
use Rattle.helm_core.specs.Posts.{allstop_by, allstop_of, changed, desired, desired_posts, desired_speed, flags_raised, lacks_decision, mentions_course, mentions_depth, mentions_speed, mode_post, number_pair, on_change, some_fault, state_text}
use Rattle.helm_core.specs.Ticks.{Tick, seen_at}
use Rattle.helm_laws.specs.Files.{OfEveryPlan}
use Rattle.helm_laws.specs.Said.{posted_before}
use Rattle.helm_laws.specs.Stops.{DrivesOtherwise, ReasonIsTold, StaysStopped, StoppedDecideNothing, StopsAtOnce, lacks_course, must_stop, nothing_steers}
use Rattle.helm_laws.proofs.Inactive.{faults_told, none_at_fault, none_parked}

-- the last value behind one that was the last so far
abbrev last_on : List ℕ → Option Value → List Pair → Option Value
last_on var latest posts = fold (λ so_far (pair : Pair). cond (bytes_eq pair.var var) (Some pair.value) so_far) latest posts

behind : (var : List ℕ) (latest : Option Value) (posts more : List Pair) → last_on var latest (posts ++ more) ≡ last_on var (last_on var latest posts) more
behind var latest posts more = fold-append (λ so_far (pair : Pair). cond (bytes_eq pair.var var) (Some pair.value) so_far) latest posts more

abbrev speed : List ℕ
speed = codes "DESIRED_SPEED"

-- a reason to stop is another text than `clear`
reason : (parked fault active lacks : Bool) → ((parked || fault || not active) || lacks) ≡ true
    → bytes_eq (cond parked (codes "ManualOverride") (cond fault (codes "BehaviorError") (cond (not active) (codes "NothingToDo") (cond lacks (codes "MissingDecVars") (codes "clear"))))) (codes "clear") ≡ false
reason true fault active lacks is = refl
reason false true active lacks is = refl
reason false false false lacks is = refl
reason false false true true is = refl
reason false false true false is = absurd (let e : false ≡ true = is in cc)

stops : (plan : Plan) (ticks : List Tick) (i : ℕ) → must_stop plan ticks i ≡ true → bytes_eq (allstop_of plan (past_iteration_at plan ticks i)) (codes "clear") ≡ false
stops plan ticks i is =
    let now = past_iteration_at plan ticks i in
    reason now.seen.parked (some_fault now.showings) (some_active now.showings) (lacks_decision plan.axes now.showings) is

zero_speed : (allstop : List ℕ) (mentioned : Bool) (decision : Option Decision) → bytes_eq allstop (codes "clear") ≡ false → desired_speed allstop mentioned decision ≡ number_pair speed (pos 0) ∷ []
zero_speed allstop mentioned decision is = rw is refl

-- the depth and the reason to stop are posts of other variables
depth_keeps : (latest : Option Value) (mentioned : Bool) (decision : Option Decision) → last_on speed latest (desired (codes "DESIRED_DEPTH") (codes "depth") mentioned decision) ≡ latest
depth_keeps latest true (Some decision) = refl
depth_keeps latest true None = refl
depth_keeps latest false decision = refl

allstop_keeps : (latest : Option Value) (before : Option (List ℕ)) (now : List ℕ) → last_on speed latest (changed (codes "IVPHELM_ALLSTOP") before now) ≡ latest
allstop_keeps latest None now = refl
allstop_keeps latest (Some before) now = by (bytes_eq before now)
  where
    by : (same : Bool) → last_on speed latest (cond same [] (record { var = codes "IVPHELM_ALLSTOP"; value = Text now } ∷ [])) ≡ latest
    by true = refl
    by false = refl

-- what is desired ends in a speed of 0
desired_ends : (number : ℤ) (latest : Option Value) (heading depths : List Pair) (zeros : List Pair) → zeros ≡ number_pair speed number ∷ [] → ((before : Option Value) → last_on speed before depths ≡ before)
    → last_on speed latest (heading ++ zeros ++ depths) ≡ Some (Num number)
desired_ends number latest heading depths zeros is keeps =
    behind speed latest (heading ++ zeros) depths ∙ keeps (last_on speed latest (heading ++ zeros)) ∙ behind speed latest heading zeros ∙ ap (last_on speed (last_on speed latest heading)) is

posts_end : (number : ℤ) (latest : Option Value) (state mode flags wanted ends : List Pair) → ((before : Option Value) → last_on speed before wanted ≡ Some (Num number)) → ((before : Option Value) → last_on speed before ends ≡ before)
    → last_on speed latest (state ++ mode ++ flags ++ wanted ++ ends) ≡ Some (Num number)
posts_end number latest state mode flags wanted ends last keeps =
    behind speed latest (state ++ mode ++ flags ++ wanted) ends ∙ keeps (last_on speed latest (state ++ mode ++ flags ++ wanted))
    ∙ behind speed latest (state ++ mode ++ flags) wanted ∙ last (last_on speed latest (state ++ mode ++ flags))

-- so the last word is the speed that is desired
iteration_says : (number : ℤ) (latest : Option Value) (plan : Plan) (ticks : List Tick) (i : ℕ)
    → desired_speed (allstop_of plan (past_iteration_at plan ticks i)) (mentions_speed (past_iteration_at plan ticks i).showings) (iteration_at plan ticks i).decision ≡ number_pair speed number ∷ []
    → last_on speed latest (iteration_at plan ticks i).posts ≡ Some (Num number)
iteration_says number latest plan ticks i is =
    let before = past_iteration_before plan ticks i in
    let now = past_iteration_at plan ticks i in
    let decision = decision_made plan.axes now.showings in
    posts_end number latest (on_change (codes "IVPHELM_STATE") state_text before now) (mode_post plan before now) (flags_raised now.showings) (desired_posts plan.axes now.seen.parked now.showings)
    (on_change (codes "IVPHELM_ALLSTOP") (allstop_of plan) before now)
    (λ so_far. desired_ends number so_far (desired (codes "DESIRED_HEADING") (codes "course") (mentions_course now.showings) decision) (desired (codes "DESIRED_DEPTH") (codes "depth") (mentions_depth now.showings) decision)
    (desired_speed (allstop_by plan.axes now.seen.parked now.showings) (mentions_speed now.showings) decision) is (λ earlier. depth_keeps earlier (mentions_depth now.showings) decision))
    (λ so_far. allstop_keeps so_far (option_map (allstop_of plan) before) (allstop_of plan now))

iteration_stops : (latest : Option Value) (plan : Plan) (ticks : List Tick) (i : ℕ) → must_stop plan ticks i ≡ true → last_on speed latest (iteration_at plan ticks i).posts ≡ Some (Num (pos 0))
iteration_stops latest plan ticks i is =
    iteration_says (pos 0) latest plan ticks i (zero_speed (allstop_of plan (past_iteration_at plan ticks i)) (mentions_speed (past_iteration_at plan ticks i).showings) (iteration_at plan ticks i).decision (stops plan ticks i is))

-- without a reason to stop the text is `clear`
clear : (parked fault active lacks : Bool) → ((parked || fault || not active) || lacks) ≡ false
    → bytes_eq (cond parked (codes "ManualOverride") (cond fault (codes "BehaviorError") (cond (not active) (codes "NothingToDo") (cond lacks (codes "MissingDecVars") (codes "clear"))))) (codes "clear") ≡ true
clear true fault active lacks is = absurd (let e : true ≡ false = is in cc)
clear false true active lacks is = absurd (let e : true ≡ false = is in cc)
clear false false false lacks is = absurd (let e : true ≡ false = is in cc)
clear false false true true is = absurd (let e : true ≡ false = is in cc)
clear false false true false is = refl

-- and the speed is mentioned, if there is one
mentioned : (rest course has mentions : Bool) → (rest || (course || (has && not mentions))) ≡ false → has ≡ true → mentions ≡ true
mentioned true course has mentions is there = absurd (let e : true ≡ false = is in cc)
mentioned false true has mentions is there = absurd (let e : true ≡ false = is in cc)
mentioned false false has true is there = refl
mentioned false false true false is there = absurd (let e : true ≡ false = is in cc)
mentioned false false false false is there = there

as_decided : (allstop : List ℕ) (mentions : Bool) (made : Option Decision) (decision : Decision) → bytes_eq allstop (codes "clear") ≡ true → mentions ≡ true → made ≡ Some decision
    → desired_speed allstop mentions made ≡ number_pair speed (number_on decision.problem.axes (codes "speed") decision.claim.point) ∷ []
as_decided allstop mentions made decision clears mentions_it is = rw (clears, mentions_it, is) refl

-- and one is active
acts : (parked fault active other : Bool) → ((parked || fault || not active) || other) ≡ false → active ≡ true
acts true fault active other is = absurd (let e : true ≡ false = is in cc)
acts false true active other is = absurd (let e : true ≡ false = is in cc)
acts false false true other is = refl
acts false false false other is = absurd (let e : true ≡ false = is in cc)

pub drives : OfEveryPlan DrivesOtherwise
drives plan ticks i goes has =
    let now = past_iteration_at plan ticks i in
    let decision : Decision = best_decision (active_problem plan.axes now.showings) in
    let active : some_active now.showings ≡ true = acts now.seen.parked (some_fault now.showings) (some_active now.showings) (lacks_decision plan.axes now.showings) goes in
    let made : (iteration_at plan ticks i).decision ≡ Some decision = ap (λ b. cond b (Some decision) None) active in
    record {
      decision = decision;
      made = made;
      said = iteration_says (number_on plan.axes (codes "speed") decision.claim.point) None plan ticks i
          (as_decided (allstop_of plan now) (mentions_speed now.showings) (iteration_at plan ticks i).decision decision
          (clear now.seen.parked (some_fault now.showings) (some_active now.showings) (lacks_decision plan.axes now.showings) goes)
          (mentioned (nothing_steers now) (lacks_course plan.axes now) (has_axis plan.axes (codes "speed")) (mentions_speed now.showings) goes has) made);
    }

pub told : OfEveryPlan ReasonIsTold
told plan ticks i = by (must_stop plan ticks i) refl
  where
    by : (stop : Bool) → must_stop plan ticks i ≡ stop → bytes_eq (allstop_of plan (past_iteration_at plan ticks i)) (codes "clear") ≡ not stop
    by true is = stops plan ticks i is
    by false is =
        let now = past_iteration_at plan ticks i in
        clear now.seen.parked (some_fault now.showings) (some_active now.showings) (lacks_decision plan.axes now.showings) is

pub at_once : OfEveryPlan StopsAtOnce
at_once plan ticks i is = iteration_stops None plan ticks i is

pub stays : OfEveryPlan StaysStopped
stays plan ticks i is = behind speed None (posted_before plan ticks i) (iteration_at plan ticks i).posts ∙ iteration_stops (last_on speed None (posted_before plan ticks i)) plan ticks i is

-- where none is active nothing is mentioned
none_mentions : {A : Type 0} (active test : A → Bool) (showings : List A) → list_any active showings ≡ false → list_any (λ one. active one && test one) showings ≡ false
none_mentions active test [] is = refl
none_mentions active test (one ∷ showings) is = by (active one) (test one) (list_any active showings) is (none_mentions active test showings)
  where
    by : (acts other rest : Bool) → (acts || rest) ≡ false → (rest ≡ false → list_any (λ one. active one && test one) showings ≡ false) → ((acts && other) || list_any (λ one. active one && test one) showings) ≡ false
    by true other rest is later = absurd (let e : true ≡ false = is in cc)
    by false other rest is later = later is

-- nothing steers: none is active
inactive : (plan : Plan) (ticks : List Tick) (i : ℕ) → nothing_steers (past_iteration_at plan ticks i) ≡ true → some_active (past_iteration_at plan ticks i).showings ≡ false
inactive plan ticks i is =
    let seen = seen_at plan.decls ticks i in
    let ones = list_at plan ticks i in
    let all = all_begun plan.axes seen ones in
    let fault = list_any has_fault all in
    by seen.parked (some_fault (map (showing_of seen fault) all)) (some_active (map (showing_of seen fault) all)) is
    (none_parked plan.axes seen fault ones)
    (λ told. none_at_fault seen fault all (sym (faults_told seen fault all) ∙ told))
  where
    by : (parked fault active : Bool) → (parked || fault || not active) ≡ true → (parked ≡ true → active ≡ false) → (fault ≡ true → active ≡ false) → active ≡ false
    by true fault active is parks faults = parks refl
    by false true active is parks faults = faults refl
    by false false false is parks faults = refl
    by false false true is parks faults = absurd (let e : false ≡ true = is in cc)

undesired : (var name : List ℕ) (mentioned : Bool) (decision : Option Decision) → mentioned ≡ false → desired var name mentioned decision ≡ []
undesired var name mentioned decision is = ap (λ b. desired var name b decision) is

pub nothing : OfEveryPlan StoppedDecideNothing
nothing plan ticks i is =
    let now = past_iteration_at plan ticks i in
    let none = inactive plan ticks i is in
    let decision = decision_made plan.axes now.showings in
    let course = undesired (codes "DESIRED_HEADING") (codes "course") (mentions_course now.showings) decision (none_mentions (λ one. one.active) (λ one. one.out.course) now.showings none) in
    let depth = undesired (codes "DESIRED_DEPTH") (codes "depth") (mentions_depth now.showings) decision (none_mentions (λ one. one.active) (λ one. one.out.depth) now.showings none) in
    let zeros = zero_speed (allstop_by plan.axes now.seen.parked now.showings) (mentions_speed now.showings) decision (stops plan ticks i (or_true (nothing_steers now) (lacks_decision plan.axes now.showings) is)) in
    record { decision = ap (λ b. cond b (Some (best_decision (active_problem plan.axes now.showings))) None) none; desires = three course zeros depth }
  where
    or_true : (a b : Bool) → a ≡ true → (a || b) ≡ true
    or_true a b is = rw is refl

    three : {a b c m : List Pair} → a ≡ [] → b ≡ m → c ≡ [] → a ++ b ++ c ≡ m ++ []
    three one two last = rw (one, two, last) refl
