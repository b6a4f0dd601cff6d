-- The answer of an iteration, put together.
use Rattle.std.proofs.Common.{◌≡◌, ℕ, ◌+◌, ◌<◌, Bool, List, [], ◌∷◌, ◌++◌, get_or, length, take, if◌then◌else◌, Option, option_map, ap, sym, ◌∙◌, append_assoc}
use Rattle.std.specs.Prelude.{bytes_eq, codes}
use Rattle.std.specs.List.{filter}
use Rattle.std.proofs.lemmas.List.{take_more}
use Rattle.std.proofs.lemmas.List.Elements.{filter-append}
use Rattle.moos_post.specs.declared.value.Pair.{Pair}
use Rattle.ivp_cert.specs.declared.claim.Decision.{Decision}
use Rattle.helm_core.specs.declared.helm.Helm.{Helm}
use Rattle.helm_core.specs.declared.iteration.BhvError.{BhvError}
use Rattle.helm_core.specs.declared.iteration.BhvNow.{BhvNow}
use Rattle.helm_core.specs.declared.iteration.Iteration.{Iteration}
use Rattle.helm_core.specs.declared.iteration.Update.{Update}
use Rattle.helm_core.specs.declared.helm_view.HelmView.{HelmView}
use Rattle.helm_core.specs.declared.showing.TurnShown.{TurnShown}
use Rattle.helm_core.specs.Decisions.{decision_made}
use Rattle.helm_core.specs.Helms.{allstop_text}
use Rattle.helm_core.specs.Iterations.{all_faults, all_states, all_updates}
use Rattle.helm_core.specs.Kept.{first_posts, iteration_by, posts_by}
use Rattle.helm_core.specs.Posts.{allstop_by, changed, desired, desired_speed, mentions_course, mentions_depth, mentions_speed}

joined : (p h v d a : List Pair) → (((p ++ h) ++ v) ++ d) ++ a ≡ (p ++ ((h ++ v) ++ d)) ++ a
joined p h v d a = ap (λ list. list ++ a) (ap (λ list. list ++ d) (append_assoc p h v) ∙ append_assoc p (h ++ v) d)

abbrev rest_of : List Pair → Bool → Bool → Bool → List ℕ → Option Decision → Option (List ℕ) → List Pair
rest_of first course speed depth allstop decision before =
    (((first ++ desired (codes "DESIRED_HEADING") (codes "course") course decision) ++ desired_speed allstop speed decision) ++ desired (codes "DESIRED_DEPTH") (codes "depth") depth decision)
    ++ changed (codes "IVPHELM_ALLSTOP") before allstop

-- the posts, by those that come first, by what is mentioned, and by what is decided
pub posts_all : (helm : Helm) (now : HelmView) (showings : List TurnShown) (first posts : List Pair) (course speed depth : Bool) (allstop : List ℕ) (decision : Option Decision) (before : Option (List ℕ))
    → first ≡ first_posts helm now showings → course ≡ mentions_course showings → speed ≡ mentions_speed showings → depth ≡ mentions_depth showings
    → allstop ≡ allstop_by helm.behavior_list.axes now.parked showings → decision ≡ decision_made helm.behavior_list.axes showings → before ≡ option_map allstop_text helm.allstop
    → posts ≡ rest_of first course speed depth allstop decision before → posts ≡ posts_by helm now showings
posts_all helm now showings first posts course speed depth allstop decision before a b c d e f g is =
    is ∙ ap (λ it. rest_of it course speed depth allstop decision before) a ∙ ap (λ it. rest_of (first_posts helm now showings) it speed depth allstop decision before) b
    ∙ ap (λ it. rest_of (first_posts helm now showings) (mentions_course showings) it depth allstop decision before) c
    ∙ ap (λ it. rest_of (first_posts helm now showings) (mentions_course showings) (mentions_speed showings) it allstop decision before) d
    ∙ ap (λ it. rest_of (first_posts helm now showings) (mentions_course showings) (mentions_speed showings) (mentions_depth showings) it decision before) e
    ∙ ap (λ it. rest_of (first_posts helm now showings) (mentions_course showings) (mentions_speed showings) (mentions_depth showings) (allstop_by helm.behavior_list.axes now.parked showings) it before) f
    ∙ ap (rest_of (first_posts helm now showings) (mentions_course showings) (mentions_speed showings) (mentions_depth showings) (allstop_by helm.behavior_list.axes now.parked showings) (decision_made helm.behavior_list.axes showings)) g
    ∙ joined (first_posts helm now showings)
    (desired (codes "DESIRED_HEADING") (codes "course") (mentions_course showings) (decision_made helm.behavior_list.axes showings))
    (desired_speed (allstop_by helm.behavior_list.axes now.parked showings) (mentions_speed showings) (decision_made helm.behavior_list.axes showings))
    (desired (codes "DESIRED_DEPTH") (codes "depth") (mentions_depth showings) (decision_made helm.behavior_list.axes showings))
    (changed (codes "IVPHELM_ALLSTOP") (option_map allstop_text helm.allstop) (allstop_by helm.behavior_list.axes now.parked showings))

abbrev iteration_parts : ℕ → Bool → List ℕ → List Update → List BhvNow → List BhvError → Option Decision → List Pair → Iteration
iteration_parts stamp parked mode updates states faults decision posts = record {
  stamp = stamp;
  parked = parked;
  mode = mode;
  updates = updates;
  states = states;
  faults = faults;
  decision = decision;
  posts = posts;
}

pub answered : (helm : Helm) (stamp : ℕ) (now : HelmView) (answers : List Update) (showings : List TurnShown) (mode : List ℕ) (updates : List Update) (states : List BhvNow) (faults : List BhvError) (decision : Option Decision) (posts : List Pair)
    → mode ≡ now.mode → updates ≡ all_updates helm.behavior_list.blocks answers showings → states ≡ all_states showings → faults ≡ all_faults showings → decision ≡ decision_made helm.behavior_list.axes showings → posts ≡ posts_by helm now showings
    → iteration_parts stamp now.parked mode updates states faults decision posts ≡ iteration_by helm stamp now answers showings
answered helm stamp now answers showings mode updates states faults decision posts a b c d e f =
    ap (λ it. iteration_parts stamp now.parked it updates states faults decision posts) a ∙ ap (λ it. iteration_parts stamp now.parked now.mode it states faults decision posts) b
    ∙ ap (λ it. iteration_parts stamp now.parked now.mode (all_updates helm.behavior_list.blocks answers showings) it faults decision posts) c
    ∙ ap (λ it. iteration_parts stamp now.parked now.mode (all_updates helm.behavior_list.blocks answers showings) (all_states showings) it decision posts) d
    ∙ ap (λ it. iteration_parts stamp now.parked now.mode (all_updates helm.behavior_list.blocks answers showings) (all_states showings) (all_faults showings) it posts) e
    ∙ ap (iteration_parts stamp now.parked now.mode (all_updates helm.behavior_list.blocks answers showings) (all_states showings) (all_faults showings) (decision_made helm.behavior_list.axes showings)) f

-- one update more of those that are of this name
pub heard_more : (name : List ℕ) (heard : List Update) (i : ℕ) (update : Update) (before so_far after : List Update) → i < length heard → update ≡ get_or heard i update
    → so_far ≡ before ++ filter (λ (it : Update). bytes_eq it.name name) (take i heard) → after ≡ so_far ++ (if bytes_eq update.name name then update ∷ [] else [])
    → after ≡ before ++ filter (λ (it : Update). bytes_eq it.name name) (take (i + 1) heard)
heard_more name heard i update before so_far after within is was more =
    let own : Update → Bool = λ it. bytes_eq it.name name in
    more ∙ ap (λ list. list ++ (if bytes_eq update.name name then update ∷ [] else [])) was ∙ append_assoc before (filter own (take i heard)) (filter own (update ∷ []))
    ∙ ap (λ rest. before ++ rest) (sym (ap (filter own) (take_more heard i update within ∙ ap (λ (it : Update). take i heard ++ it ∷ []) (sym is)) ∙ filter-append own (take i heard) (update ∷ [])))
