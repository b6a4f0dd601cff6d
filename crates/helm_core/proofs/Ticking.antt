-- One tick more of a helm, by what it keeps.
use Rattle.std.proofs.Common.{◌≡◌, ℕ, suc, ◌≤◌, Bool, if◌then◌else◌, List, [], ◌∷◌, ◌++◌, length, take, Option, Some, None, option_map, refl, ap, sym, subst, ◌∙◌, arith}
use Rattle.std.specs.Prelude.{codes}
use Rattle.std.specs.List.{AllZip, filter}
use Rattle.std.proofs.lemmas.Grind.{flat_map-append, fold-append}
use Rattle.std.proofs.lemmas.List.{append-nil, take_all}
use Rattle.moos_post.specs.declared.value.Pair.{Pair}
use Rattle.moos_db.specs.declared.mail.Letter.{Letter}
use Rattle.ivp_domain.specs.declared.axis.Axis.{Axis}
use Rattle.helm_cond.specs.Infos.{knowledge_of}
use Rattle.helm_cond.specs.Learnt.{latest_of}
use Rattle.bhv_file.specs.declared.decl.Decl.{Decl}
use Rattle.bhv_file.specs.declared.file.Block.{Block}
use Rattle.mode_tree.specs.Modes.{mode_text}
use Rattle.helm_core.specs.declared.allstop.Allstop.{Allstop}
use Rattle.helm_core.specs.declared.helm.Helm.{Helm}
use Rattle.helm_core.specs.declared.iteration.Iteration.{Iteration}
use Rattle.helm_core.specs.declared.iteration.Update.{Update}
use Rattle.helm_core.specs.declared.helm_view.HelmView.{HelmView}
use Rattle.helm_core.specs.declared.showing.TurnShown.{TurnShown}
use Rattle.helm_core.specs.declared.turned.TurnsEnded.{TurnsEnded}
use Rattle.helm_core.specs.Plans.{Plan}
use Rattle.helm_core.specs.Behaviors.{BhvSoFar, all_after, all_begun}
use Rattle.helm_core.specs.Lists.{list_before, spawned_at, stays}
use Rattle.helm_core.specs.Templates.{Spawning, spawned}
use Rattle.helm_core.specs.Decisions.{decision_made}
use Rattle.helm_core.specs.Standings.{IsBehaviorListOf, IsKept, SeesView}
use Rattle.helm_core.specs.Ticks.{Seen, seen_at, Tick, heard_at, heard_in_all, is_parked, learnt_at, pairs_mailed, tick_of, tick_stamp}
use Rattle.helm_core.specs.PastIterations.{PastIteration, past_iteration_at, past_iteration_before}
use Rattle.helm_core.specs.Posts.{allstop_by, allstop_of, are_declared_modes, changed, desired_posts, flags_raised, helm_posts, posts_made, state_text, state_word}
use Rattle.helm_core.specs.Iterations.{all_faults, all_states, all_updates, iteration_at}
use Rattle.helm_core.specs.Helms.{allstop_text, clock_of, plan_of, HasLearnt, IsHelmView, IsTicked, StandsFor}
use Rattle.helm_core.specs.Kept.{HasHeardAndTurned, IsHeardAndTurned, helm_after, iteration_by, posts_by, said_before}
use Rattle.helm_core.proofs.Growing.{before_same, list_same}

abbrev with_tick : List Tick → ℕ → List Letter → List Tick
with_tick ticks stamp mail = ticks ++ tick_of stamp mail ∷ []

heard_more : (ticks : List Tick) (stamp : ℕ) (mail : List Letter) → heard_in_all (with_tick ticks stamp mail) ≡ heard_in_all ticks ++ pairs_mailed mail
heard_more ticks stamp mail =
    flat_map-append (λ (tick : Tick). pairs_mailed tick.mail) ticks (tick_of stamp mail ∷ [])
    ∙ ap (λ last. heard_in_all ticks ++ last) (append-nil (pairs_mailed mail))

length_more : (ticks : List Tick) (tick : Tick) → length (ticks ++ tick ∷ []) ≡ suc (length ticks)
length_more [] tick = refl
length_more (first ∷ ticks) tick = ap suc (length_more ticks tick)

take_whole : (ticks : List Tick) (tick : Tick) → take (suc (length ticks)) (ticks ++ tick ∷ []) ≡ ticks ++ tick ∷ []
take_whole [] tick = refl
take_whole (first ∷ ticks) tick = ap (λ rest. first ∷ rest) (take_whole ticks tick)

stamp_last : (ticks : List Tick) (stamp : ℕ) (mail : List Letter) → tick_stamp (with_tick ticks stamp mail) (length ticks) ≡ stamp
stamp_last [] stamp mail = refl
stamp_last (first ∷ ticks) stamp mail = stamp_last ticks stamp mail

mail_last : (ticks : List Tick) (stamp : ℕ) (mail : List Letter) → heard_at (with_tick ticks stamp mail) (length ticks) ≡ pairs_mailed mail
mail_last [] stamp mail = refl
mail_last (first ∷ ticks) stamp mail = mail_last ticks stamp mail

-- an iteration at which just these letters were learnt
record HasHeard (plan : Plan) (learnt : List Pair) (past_iteration : PastIteration) : Type 0 where
  parked : past_iteration.seen.parked ≡ is_parked learnt
  mode : past_iteration.seen.mode ≡ mode_text plan.decls (latest_of learnt)

heard_by : (plan : Plan) (ticks : List Tick) (i : ℕ) (learnt : List Pair) → learnt_at ticks i ≡ learnt → HasHeard plan learnt (past_iteration_at plan ticks i)
heard_by plan ticks i learnt is = record { parked = ap is_parked is; mode = ap (λ all. mode_text plan.decls (latest_of all)) is }

now_heard : (plan : Plan) (ticks : List Tick) (stamp : ℕ) (mail : List Letter)
    → HasHeard plan (heard_in_all (with_tick ticks stamp mail)) (past_iteration_at plan (with_tick ticks stamp mail) (length ticks))
now_heard plan ticks stamp mail =
    heard_by plan (with_tick ticks stamp mail) (length ticks) _ (ap heard_in_all (take_whole ticks (tick_of stamp mail)))

said_none : (allstop : Option Allstop) (text : List ℕ) → option_map allstop_text allstop ≡ None → None ≡ option_map (λ one. text) allstop
said_none None text none = refl
said_none (Some one) text none = absurd (let e : Some (allstop_text one) ≡ None = none in cc)

said_some : (allstop : Option Allstop) (text other : List ℕ) → option_map allstop_text allstop ≡ Some other → Some text ≡ option_map (λ one. text) allstop
said_some None text other some = absurd (let e : None ≡ Some other = some in cc)
said_some (Some one) text other some = refl

-- what a helm says of the iteration before
record Recalls (helm : Helm) (before : Option PastIteration) : Type 0 where
  state : option_map state_text before ≡ said_before helm (state_word helm.helm_view.parked)
  mode : option_map (λ past_iteration. past_iteration.seen.mode) before ≡ said_before helm helm.helm_view.mode
  allstop : option_map (allstop_of (plan_of helm)) before ≡ option_map allstop_text helm.allstop

recalled : (helm : Helm) (ticks : List Tick) → StandsFor helm ticks → Recalls helm (past_iteration_before (plan_of helm) ticks (length ticks))
recalled helm [] stands = record {
  state = said_none helm.allstop _ stands.allstop;
  mode = said_none helm.allstop _ stands.allstop;
  allstop = sym stands.allstop;
}
recalled helm (tick ∷ ticks) stands =
    let whole : learnt_at (tick ∷ ticks) (length ticks) ≡ heard_in_all (tick ∷ ticks) = ap heard_in_all (take_all (length (tick ∷ ticks)) (tick ∷ ticks) (omega arith)) in
    let heard : HasHeard (plan_of helm) (heard_in_all (tick ∷ ticks)) (past_iteration_at (plan_of helm) (tick ∷ ticks) (length ticks))
    = heard_by (plan_of helm) (tick ∷ ticks) (length ticks) _ whole in
    record {
      state = ap (λ parked. Some (state_word parked)) (heard.parked ∙ sym stands.helm_view.parked) ∙ said_some helm.allstop _ _ stands.allstop;
      mode = ap Some (heard.mode ∙ sym stands.helm_view.mode) ∙ said_some helm.allstop _ _ stands.allstop;
      allstop = sym stands.allstop;
    }

abbrev put_together : List Decl → List Axis → Option (List ℕ) → Option (List ℕ) → Option (List ℕ) → Bool → List ℕ → List TurnShown → List Pair
put_together decls axes state mode allstop parked mode' showings =
    changed (codes "IVPHELM_STATE") state (state_word parked) ++ (if are_declared_modes decls then changed (codes "MODE") mode mode' else []) ++ flags_raised showings
    ++ desired_posts axes parked showings ++ changed (codes "IVPHELM_ALLSTOP") allstop (allstop_by axes parked showings)

same_posts : (helm : Helm) (now : HelmView) (showings : List TurnShown) (before : Option PastIteration) (past_iteration : PastIteration) → Recalls helm before
    → past_iteration.seen.parked ≡ now.parked → past_iteration.seen.mode ≡ now.mode → past_iteration.showings ≡ showings → posts_by helm now showings ≡ posts_made (plan_of helm) before past_iteration
same_posts helm now showings before past_iteration recalls parked mode shown =
    let together = put_together helm.modes helm.behavior_list.axes in
    sym
    (ap (λ said. together said (option_map (λ (m : PastIteration). m.seen.mode) before) (option_map (allstop_of (plan_of helm)) before) past_iteration.seen.parked past_iteration.seen.mode past_iteration.showings) recalls.state
    ∙ ap (λ said. together (said_before helm (state_word helm.helm_view.parked)) said (option_map (allstop_of (plan_of helm)) before) past_iteration.seen.parked past_iteration.seen.mode past_iteration.showings) recalls.mode
    ∙ ap (λ said. together (said_before helm (state_word helm.helm_view.parked)) (said_before helm helm.helm_view.mode) said past_iteration.seen.parked past_iteration.seen.mode past_iteration.showings) recalls.allstop
    ∙ ap (λ one. together (said_before helm (state_word helm.helm_view.parked)) (said_before helm helm.helm_view.mode) (option_map allstop_text helm.allstop) one past_iteration.seen.mode past_iteration.showings) parked
    ∙ ap (λ one. together (said_before helm (state_word helm.helm_view.parked)) (said_before helm helm.helm_view.mode) (option_map allstop_text helm.allstop) now.parked one past_iteration.showings) mode
    ∙ ap (together (said_before helm (state_word helm.helm_view.parked)) (said_before helm helm.helm_view.mode) (option_map allstop_text helm.allstop) now.parked now.mode) shown)

abbrev iteration_with : List Axis → List Block → ℕ → Bool → List ℕ → List Update → List TurnShown → List Pair → Iteration
iteration_with axes blocks stamp parked mode answers showings posts = record {
  stamp = stamp;
  parked = parked;
  mode = mode;
  updates = all_updates blocks answers showings;
  states = all_states showings;
  faults = all_faults showings;
  decision = decision_made axes showings;
  posts = posts;
}

module _ (helm : Helm) (stamp : ℕ) (mail : List Letter) (now : HelmView) (answers : List Update) (turned : TurnsEnded) (allstop : Allstop) (learnt : HasLearnt helm.modes mail helm.helm_view now) (ended : HasHeardAndTurned helm.behavior_list stamp (pairs_mailed mail) now answers turned) (stops : allstop_text allstop ≡ allstop_by helm.behavior_list.axes now.parked turned.showings.items) (later : clock_of helm ≤ stamp) (ticks : List Tick) (stands : StandsFor helm ticks) where
  abbrev ticks' : List Tick
  ticks' = with_tick ticks stamp mail

  abbrev past_iteration' : PastIteration
  past_iteration' = past_iteration_at (plan_of helm) ticks' (length ticks)

  abbrev seen' : Seen
  seen' = seen_at helm.modes ticks' (length ticks)

  abbrev ones : List BhvSoFar
  ones = list_before (plan_of helm) ticks' (length ticks)

  abbrev spawning' : Spawning
  spawning' = spawned_at (plan_of helm) ticks' (length ticks)

  seen : IsHelmView helm.modes (heard_in_all ticks') now
  seen = subst (λ all. IsHelmView helm.modes all now) (sym (heard_more ticks stamp mail)) (learnt (heard_in_all ticks) stands.helm_view)

  parked' : past_iteration'.seen.parked ≡ now.parked
  parked' = (now_heard (plan_of helm) ticks stamp mail).parked ∙ sym seen.parked

  mode' : past_iteration'.seen.mode ≡ now.mode
  mode' = (now_heard (plan_of helm) ticks stamp mail).mode ∙ sym seen.mode

  known' : seen'.known ≡ knowledge_of now.info
  known' = ap latest_of (ap heard_in_all (take_whole ticks (tick_of stamp mail))) ∙ sym seen.known

  sees : SeesView seen' stamp (pairs_mailed mail) now
  sees = record { when = stamp_last ticks stamp mail; heard = mail_last ticks stamp mail; parked = parked'; known = known'; mode = mode' }

  list' : IsBehaviorListOf (clock_of helm) ones helm.behavior_list
  list' =
      subst (λ all. IsBehaviorListOf (clock_of helm) all helm.behavior_list) (sym (list_same (plan_of helm) ticks (tick_of stamp mail ∷ []) (length ticks) (omega arith)))
      stands.behavior_list

  after : IsHeardAndTurned helm.behavior_list.axes helm.behavior_list.blocks seen' spawning' answers turned
  after =
      subst (λ letters. IsHeardAndTurned helm.behavior_list.axes helm.behavior_list.blocks seen' (spawned helm.behavior_list.axes helm.behavior_list.blocks (length ticks) letters ones) answers turned) (sym (mail_last ticks stamp mail))
      (ended (clock_of helm) (length ticks) seen' ones later sees list')

  kept_after : AllZip (IsKept helm.behavior_list.blocks stamp) (list_before (plan_of helm) ticks' (length ticks')) turned.kept.items
  kept_after =
      subst (λ n. AllZip (IsKept helm.behavior_list.blocks stamp) (list_before (plan_of helm) ticks' n) turned.kept.items) (sym (length_more ticks (tick_of stamp mail)))
      (subst (λ clock. AllZip (IsKept helm.behavior_list.blocks clock) (filter stays (all_after seen' (all_begun helm.behavior_list.axes seen' spawning'.ones))) turned.kept.items) (stamp_last ticks stamp mail) after.ended.kept)

  stands_after : StandsFor (helm_after helm stamp now turned.kept.items allstop) ticks'
  stands_after = record {
    clock = sym (fold-append (λ before (tick : Tick). tick.stamp) 0 ticks (tick_of stamp mail ∷ []));
    helm_view = seen;
    behavior_list = kept_after;
    allstop =
        sym (ap (option_map (allstop_of (plan_of helm))) (ap (past_iteration_before (plan_of helm) ticks') (length_more ticks (tick_of stamp mail)))
        ∙ ap (λ one. Some (allstop_by helm.behavior_list.axes one past_iteration'.showings)) parked'
        ∙ ap (λ one. Some (allstop_by helm.behavior_list.axes now.parked one)) (sym after.ended.showings)
        ∙ ap Some (sym stops));
  }

  iterates : iteration_by helm stamp now answers turned.showings.items ≡ iteration_at (plan_of helm) ticks' (length ticks)
  iterates =
      let recalls : Recalls helm (past_iteration_before (plan_of helm) ticks' (length ticks))
      = subst (Recalls helm) (sym (before_same (plan_of helm) ticks (tick_of stamp mail ∷ []) (length ticks) (omega arith))) (recalled helm ticks stands) in
      let made = iteration_with helm.behavior_list.axes helm.behavior_list.blocks in
      let posts = helm_posts (plan_of helm) ticks' (length ticks) in
      ap (made stamp now.parked now.mode answers turned.showings.items)
      (same_posts helm now turned.showings.items (past_iteration_before (plan_of helm) ticks' (length ticks)) past_iteration' recalls parked' mode' (sym after.ended.showings))
      ∙ sym (ap (λ one. made one past_iteration'.seen.parked past_iteration'.seen.mode past_iteration'.answers past_iteration'.showings posts) (stamp_last ticks stamp mail)
      ∙ ap (λ one. made stamp one past_iteration'.seen.mode past_iteration'.answers past_iteration'.showings posts) parked'
      ∙ ap (λ one. made stamp now.parked one past_iteration'.answers past_iteration'.showings posts) mode'
      ∙ ap (λ one. made stamp now.parked now.mode one past_iteration'.showings posts) (sym after.told)
      ∙ ap (λ one. made stamp now.parked now.mode answers one posts) (sym after.ended.showings))

pub ticked : (helm : Helm) (stamp : ℕ) (mail : List Letter) (now : HelmView) (answers : List Update) (turned : TurnsEnded) (allstop : Allstop) → HasLearnt helm.modes mail helm.helm_view now
    → HasHeardAndTurned helm.behavior_list stamp (pairs_mailed mail) now answers turned → allstop_text allstop ≡ allstop_by helm.behavior_list.axes now.parked turned.showings.items → clock_of helm ≤ stamp
    → IsTicked helm (helm_after helm stamp now turned.kept.items allstop) stamp mail (iteration_by helm stamp now answers turned.showings.items)
ticked helm stamp mail now answers turned allstop learnt ended stops later = record {
  plan = refl;
  clock = refl;
  stands = stands_after helm stamp mail now answers turned allstop learnt ended stops later;
  is = iterates helm stamp mail now answers turned allstop learnt ended stops later;
}

abbrev plan_by : List Axis → List Pair → List Decl → List Block → Plan
plan_by axes opening decls blocks = record { axes = axes; opening = opening; decls = decls; blocks = blocks }

pub same_plan : (axes : List Axis) (opening : List Pair) (axes' : List Axis) (decls decls' : List Decl) (blocks blocks' : List Block) → axes ≡ axes' → decls ≡ decls' → blocks ≡ blocks'
    → plan_by axes opening decls blocks ≡ plan_by axes' opening decls' blocks'
same_plan axes opening axes' decls decls' blocks blocks' a b c =
    ap (λ it. plan_by it opening decls blocks) a ∙ ap (λ it. plan_by axes' opening it blocks) b ∙ ap (plan_by axes' opening decls') c
