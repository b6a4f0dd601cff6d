-- What a helm of valid files posts in an iteration are pairs, and no more than a call takes.
use Rattle.std.proofs.Common.{◌≡◌, ℕ, ◌+◌, ◌*◌, ◌≤◌, Bool, true, false, cond, not, List, [], ◌∷◌, ◌++◌, length, length-append, map, Option, Some, None, refl, sym, subst, arith}
use Rattle.std.specs.Prelude.{IfSome, IsTrue, bytes_eq, codes, option_map, pos}
use Rattle.std.specs.List.{list_any, AllByRecursion as Each}
use Rattle.std.proofs.lemmas.List.Elements.{recursion_from_All}
use Rattle.moos_io.proofs.Lists.{each_append}
use Rattle.moos_post.specs.declared.value.Pair.{Pair}
use Rattle.moos_post.specs.Entries.{IsPair}
use Rattle.moos_post.specs.Words.{is_name, is_text}
use Rattle.ivp_domain.specs.declared.axis.Axis.{Axis}
use Rattle.ivp_domain.specs.Domains.{is_domain}
use Rattle.ivp_cert.specs.declared.claim.Decision.{Decision}
use Rattle.bhv_file.specs.declared.common.Common.{Common}
use Rattle.bhv_file.specs.declared.file.Block.{Block}
use Rattle.bhv_file.specs.Validity.{IsValidCommon, flags_of}
use Rattle.bhv_life.specs.declared.outcome.Outcome.{Outcome}
use Rattle.bhv_life.specs.Outcomes.{flags_at, raised}
use Rattle.helm_core.specs.declared.showing.TurnShown.{TurnShown}
use Rattle.helm_core.specs.Behaviors.{TurnSoFar, BhvSoFar, begun_at, has_fault, outcome_at, showing_of}
use Rattle.helm_core.specs.Decisions.{decision_made, some_active}
use Rattle.helm_core.specs.Lists.{list_at}
use Rattle.helm_core.specs.PastIterations.{PastIteration, past_iteration_at, past_iteration_before}
use Rattle.helm_core.specs.Plans.{Plan}
use Rattle.helm_core.specs.Posts.{allstop_by, allstop_of, are_declared_modes, changed, desired, desired_posts, desired_speed, flags_raised, helm_posts, lacks_decision, mentions_course, mentions_depth, mentions_speed, mode_post, number_pair, on_change, some_fault, state_text, state_word, text_pair}
use Rattle.helm_core.specs.Ticks.{Seen, Tick, seen_at}
use Rattle.helm_core.proofs.Bounded.{HasMillis, decided_millis, zero_milli}
use Rattle.helm_core.proofs.Listing.{begun_same, blocks_hold, list_few}

-- pairs, so many at most
pub record ArePairs (most : ℕ) (pairs : List Pair) : Type 0 where
  pub few : length pairs ≤ most
  pub all : Each IsPair pairs

none_paired : (most : ℕ) → ArePairs most []
none_paired most = record { few = omega arith; all = tt }

one_paired : (pair : Pair) → IsPair pair → ArePairs 1 (pair ∷ [])
one_paired pair is = record { few = omega arith; all = (is, tt) }

pairs_on : (most more : ℕ) (one other : List Pair) → ArePairs most one → ArePairs more other → ArePairs (most + more) (one ++ other)
pairs_on most more one other first second =
    record { few = omega (arith, length-append one other, first.few, second.few); all = each_append IsPair one other first.all second.all }

-- a text where it changes
text_paired : (var text : List ℕ) → IsTrue (is_name var) → IsTrue (is_text text) → ArePairs 1 (text_pair var text ∷ [])
text_paired var text name is = one_paired (text_pair var text) (record { var = name; value = is })

changed_paired : (var : List ℕ) (before : Option (List ℕ)) (now : List ℕ) → IsTrue (is_name var) → IsTrue (is_text now) → ArePairs 1 (changed var before now)
changed_paired var None now name is = text_paired var now name is
changed_paired var (Some before) now name is = by (bytes_eq before now)
  where
    by : (same : Bool) → ArePairs 1 (cond same [] (text_pair var now ∷ []))
    by true = none_paired 1
    by false = text_paired var now name is

state_is_text : (parked : Bool) → IsTrue (is_text (state_word parked))
state_is_text true = refl
state_is_text false = refl

allstop_is_text : (axes : List Axis) (parked : Bool) (showings : List TurnShown) → IsTrue (is_text (allstop_by axes parked showings))
allstop_is_text axes parked showings = by parked (some_fault showings) (not (some_active showings)) (lacks_decision axes showings)
  where
    by : (parked fault none lacks : Bool)
        → IsTrue (is_text (cond parked (codes "ManualOverride") (cond fault (codes "BehaviorError") (cond none (codes "NothingToDo") (cond lacks (codes "MissingDecVars") (codes "clear"))))))
    by true fault none lacks = refl
    by false true none lacks = refl
    by false false true lacks = refl
    by false false false true = refl
    by false false false false = refl

mode_paired : (plan : Plan) (before : Option PastIteration) (now : PastIteration) → IsTrue (is_text now.seen.mode) → ArePairs 1 (mode_post plan before now)
mode_paired plan before now is = by (are_declared_modes plan.decls)
  where
    by : (declared : Bool) → ArePairs 1 (cond declared (on_change (codes "MODE") (λ past_iteration. past_iteration.seen.mode) before now) [])
    by true = changed_paired (codes "MODE") (option_map (λ (past_iteration : PastIteration). past_iteration.seen.mode) before) now.seen.mode refl is
    by false = none_paired 1

-- what is decided on
desired_paired : (var name : List ℕ) (mentioned : Bool) (decision : Option Decision) → IsTrue (is_name var) → IfSome decision HasMillis → ArePairs 1 (desired var name mentioned decision)
desired_paired var name true (Some decision) is millis = one_paired (number_pair var _) (record { var = is; value = millis name })
desired_paired var name true None is millis = none_paired 1
desired_paired var name false decision is millis = none_paired 1

speed_paired : (allstop : List ℕ) (mentioned : Bool) (decision : Option Decision) → IfSome decision HasMillis → ArePairs 1 (desired_speed allstop mentioned decision)
speed_paired allstop mentioned decision millis = by (bytes_eq allstop (codes "clear"))
  where
    by : (clear : Bool) → ArePairs 1 (cond clear (desired (codes "DESIRED_SPEED") (codes "speed") mentioned decision) (number_pair (codes "DESIRED_SPEED") (pos 0) ∷ []))
    by true = desired_paired (codes "DESIRED_SPEED") (codes "speed") mentioned decision refl millis
    by false = one_paired (number_pair (codes "DESIRED_SPEED") (pos 0)) (record { var = refl; value = zero_milli })

all_desired : (axes : List Axis) (parked : Bool) (showings : List TurnShown) → is_domain axes ≡ true → ArePairs 3 (desired_posts axes parked showings)
all_desired axes parked showings lawful =
    let decision = decision_made axes showings in
    let millis = decided_millis axes showings lawful in
    pairs_on 2 1 _ _
    (pairs_on 1 1 _ _ (desired_paired (codes "DESIRED_HEADING") (codes "course") (mentions_course showings) decision refl millis)
    (speed_paired (allstop_by axes parked showings) (mentions_speed showings) decision millis))
    (desired_paired (codes "DESIRED_DEPTH") (codes "depth") (mentions_depth showings) decision refl millis)

-- flags
abbrev pub HasValidCommon : Block → Type 0
HasValidCommon block = IsValidCommon block.common

raised_paired : (on : Bool) (flags : List Pair) → Each IsPair flags → ArePairs (length flags) (raised on flags)
raised_paired true flags all = record { few = omega arith; all = all }
raised_paired false flags all = none_paired (length flags)

each_parts : (one other : List Pair) → Each IsPair (one ++ other) → Each IsPair one × Each IsPair other
each_parts [] other all = (tt, all)
each_parts (pair ∷ one) other all = let rest = each_parts one other all.1 in ((all.0, rest.0), rest.1)

flags_paired : (common : Common) (outcome : Outcome) → IsValidCommon common → ArePairs 32 (flags_at common outcome)
flags_paired common outcome valid =
    let inactive = common.inactiveflags in
    let idle = common.idleflags in
    let run = common.runflags in
    let active = common.activeflags in
    let end = common.endflags in
    let all : Each IsPair (flags_of common) = recursion_from_All IsPair (flags_of common) valid.flags in
    let from_run : Each IsPair run × Each IsPair (idle ++ (active ++ (inactive ++ end))) = each_parts run (idle ++ (active ++ (inactive ++ end))) all in
    let from_idle : Each IsPair idle × Each IsPair (active ++ (inactive ++ end)) = each_parts idle (active ++ (inactive ++ end)) from_run.1 in
    let from_active : Each IsPair active × Each IsPair (inactive ++ end) = each_parts active (inactive ++ end) from_idle.1 in
    let last : Each IsPair inactive × Each IsPair end = each_parts inactive end from_active.1 in
    let at_first = pairs_on (length inactive) (length idle) _ _ (raised_paired outcome.inactive inactive last.0) (raised_paired outcome.idle idle from_idle.0) in
    let running = pairs_on (length inactive + length idle) (length run) _ _ at_first (raised_paired outcome.run run from_run.0) in
    let going = pairs_on (length inactive + length idle + length run) (length active) _ _ running (raised_paired outcome.active active from_active.0) in
    let posted = pairs_on (length inactive + length idle + length run + length active) (length end) _ _ going (raised_paired outcome.ended end last.1) in
    record {
      few =
          omega (
            arith,
            posted.few,
            valid.few_flags,
            length-append run (idle ++ (active ++ (inactive ++ end))),
            length-append idle (active ++ (inactive ++ end)),
            length-append active (inactive ++ end),
            length-append inactive end,
          );
      all = posted.all;
    }

-- the flags of these behaviours
all_flags : (axes : List Axis) (seen : Seen) (fault : Bool) (ones : List BhvSoFar) → Each (λ one. HasValidCommon one.block) ones
    → ArePairs (32 * length ones) (flags_raised (map (showing_of seen fault) (map (begun_at axes seen) ones)))
all_flags axes seen fault [] valid = none_paired 0
all_flags axes seen fault (one ∷ ones) valid =
    let begun : TurnSoFar = begun_at axes seen one in
    let outcome : Outcome = outcome_at seen fault begun in
    let first : ArePairs 32 (flags_at begun.standing.block.common outcome)
    = flags_paired begun.standing.block.common outcome (subst HasValidCommon (sym (begun_same axes seen one).1) valid.0) in
    let both =
    pairs_on 32 (32 * length ones) (flags_at begun.standing.block.common outcome) (flags_raised (map (showing_of seen fault) (map (begun_at axes seen) ones))) first
    (all_flags axes seen fault ones valid.1) in
    record { few = omega (arith, both.few); all = both.all }

-- What is posted in an iteration.
pub all_posts : (plan : Plan) (ticks : List Tick) (i : ℕ) → is_domain plan.axes ≡ true → Each HasValidCommon plan.blocks → length plan.blocks ≤ 64 → IsTrue (is_text (seen_at plan.decls ticks i).mode)
    → ArePairs (32 * 64 + 6) (helm_posts plan ticks i)
all_posts plan ticks i lawful valid few mode =
    let before = past_iteration_before plan ticks i in
    let now = past_iteration_at plan ticks i in
    let seen = seen_at plan.decls ticks i in
    let ones = list_at plan ticks i in
    let flags = all_flags plan.axes seen (list_any has_fault (map (begun_at plan.axes seen) ones)) ones (blocks_hold HasValidCommon plan ticks i valid) in
    let state = changed_paired (codes "IVPHELM_STATE") (option_map state_text before) (state_text now) refl (state_is_text seen.parked) in
    let allstop = changed_paired (codes "IVPHELM_ALLSTOP") (option_map (allstop_of plan) before) (allstop_of plan now) refl (allstop_is_text plan.axes seen.parked now.showings) in
    let said = pairs_on 1 1 _ _ state (mode_paired plan before now mode) in
    let raised = pairs_on 2 (32 * length ones) _ _ said flags in
    let decided = pairs_on (2 + 32 * length ones) 3 _ _ raised (all_desired plan.axes seen.parked now.showings lawful) in
    let all = pairs_on (2 + 32 * length ones + 3) 1 _ _ decided allstop in
    record { few = omega (arith, all.few, list_few plan ticks i few); all = all.all }
