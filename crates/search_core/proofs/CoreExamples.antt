-- The core on worked examples: a run of two workers at the worked problem, whose root has one child with two leaves, and steps that are none.
use Rattle.std.proofs.Common.{◌≡◌, ℕ, zero, suc, inl, inr, pos, Some, None, List, [], ◌∷◌, refl, sym, ap, subst, ◌∙◌, arith}
use Rattle.std.specs.Prelude.{slice_get}
use Rattle.ivp_domain.specs.Boxes.{point_from}
use Rattle.ivp_problem.specs.declared.node.Node.{Node}
use Rattle.ivp_problem.specs.declared.key.Key.{Key}
use Rattle.ivp_problem.specs.Problems.{WeightedSum}
use Rattle.ivp_problem.specs.Trees.{bound_of, root_of}
use Rattle.ivp_problem.specs.Sums.{best_of, key_at}
use Rattle.ivp_problem.specs.Keys.{key_of, Reaches}
use Rattle.ivp_problem.proofs.KeyOrder.{at_most_self}
use Rattle.ivp_problem.proofs.Examples.{first, left, right, split, twelve, two, two_is_lawful}
use Rattle.search_core.specs.Cores.{Core, Drop, Frame, Holds, Keep, Load, CoreWorker, pieces_of, Pop, Push, Raise, StepsTo, Skip, start_of, Steal, Step, Stepped}
use Rattle.search_core.specs.Places.{greatest_own, IsDoneOnce, IsOver}
use Rattle.search_core.proofs.Ending.{finished, ran_keeps, start_keeps}

abbrev frame : Node → ℕ → Frame
frame node next = record { node = node; next = next }

abbrev member : ℕ → List Node → List Frame → List Node → CoreWorker
member low deque hand done = record { low = low; own = None; deque = deque; hand = hand; done = done }

abbrev finder : ℕ → Key → List Node → List Frame → List Node → CoreWorker
finder low own deque hand done = record { low = low; own = Some own; deque = deque; hand = hand; done = done }

abbrev core : ℕ → CoreWorker → CoreWorker → Core
core word one other = record { word = word; members = one ∷ other ∷ [] }

abbrev holds : (c : Core) (worker : ℕ) (m : CoreWorker) (f : Frame) (below : List Frame) → slice_get c.members worker ≡ Some m → m.hand ≡ f ∷ below → Holds c worker
holds c worker m f below has hand = record { member = m; has = has; frame = f; below = below; hand = hand }

abbrev root : Node
root = root_of two

abbrev best : ℕ
best = 75

abbrev best_key : Key
best_key = key_of 75 2

abbrev idle : CoreWorker
idle = member 0 [] [] []

abbrev steps : List Step
steps = Push 0 ∷ Drop 0 ∷ Pop 0 ∷ Push 0 ∷ Keep 0 ∷ Steal 1 0 ∷ Raise 1 (point_from 0 1 0 0) ∷ Drop 1 ∷ Load 0 ∷ Drop 0 ∷ Drop 0 ∷ []

-- worker 0 as the run goes on
abbrev begun : CoreWorker
begun = member 0 [] (frame root 0 ∷ []) []

abbrev dealt : CoreWorker
dealt = member 0 (first ∷ []) (frame root 1 ∷ []) []

abbrev ready : CoreWorker
ready = member 0 (first ∷ []) [] (root ∷ [])

abbrev popped : CoreWorker
popped = member 0 [] (frame first 0 ∷ []) (root ∷ [])

abbrev pushed : CoreWorker
pushed = member 0 (left ∷ []) (frame first 1 ∷ []) (root ∷ [])

abbrev kept : CoreWorker
kept = member 0 (left ∷ []) (frame right 0 ∷ frame first 2 ∷ []) (root ∷ [])

abbrev robbed : CoreWorker
robbed = member 0 [] (frame right 0 ∷ frame first 2 ∷ []) (root ∷ [])

abbrev told : CoreWorker
told = member best [] (frame right 0 ∷ frame first 2 ∷ []) (root ∷ [])

abbrev pruned : CoreWorker
pruned = member best [] (frame first 2 ∷ []) (right ∷ root ∷ [])

abbrev all_done : CoreWorker
all_done = member best [] [] (first ∷ right ∷ root ∷ [])

-- and worker 1, which steals the first leaf
abbrev thief : CoreWorker
thief = member 0 [] (frame left 0 ∷ []) []

abbrev offered : CoreWorker
offered = finder best best_key [] (frame left 0 ∷ []) []

abbrev over : CoreWorker
over = finder best best_key [] [] (left ∷ [])

abbrev last : Core
last = core best all_done over

push_first : Stepped two (Push 0) (start_of two 1) (core 0 dealt idle)
push_first = (holds (start_of two 1) 0 begun (frame root 0) [] refl refl, first, refl, (member 0 [] (frame root 1 ∷ []) [], refl, refl))

drop_root : Stepped two (Drop 0) (core 0 dealt idle) (core 0 ready idle)
drop_root = (holds (core 0 dealt idle) 0 dealt (frame root 1) [] refl refl, inr (inr (omega arith, omega arith)), refl)

pop_first : Stepped two (Pop 0) (core 0 ready idle) (core 0 popped idle)
pop_first = (ready, refl, [], first, [], refl, (record { member = member 0 [] [] (root ∷ []); has = refl; hand = refl }, refl))

push_left : Stepped two (Push 0) (core 0 popped idle) (core 0 pushed idle)
push_left = (holds (core 0 popped idle) 0 popped (frame first 0) [] refl refl, left, refl, (member 0 [] (frame first 1 ∷ []) (root ∷ []), refl, refl))

keep_right : Stepped two (Keep 0) (core 0 pushed idle) (core 0 kept idle)
keep_right = (holds (core 0 pushed idle) 0 pushed (frame first 1) [] refl refl, right, refl, refl)

steal_left : Stepped two (Steal 1 0) (core 0 kept idle) (core 0 robbed thief)
steal_left = (kept, refl, left, [], refl, (record { member = idle; has = refl; hand = refl }, refl))

raise_best : Stepped two (Raise 1 (point_from 0 1 0 0)) (core 0 robbed thief) (core best robbed offered)
raise_best = (refl, thief, refl, refl)

drop_left : Stepped two (Drop 1) (core best robbed offered) (core best robbed over)
drop_left = (holds (core best robbed offered) 1 offered (frame left 0) [] refl refl, inr (inl (at_most_self best_key)), refl)

load_best : Stepped two (Load 0) (core best robbed over) (core best told over)
load_best = (robbed, refl, refl)

drop_right : Stepped two (Drop 0) (core best told over) (core best pruned over)
drop_right = (holds (core best told over) 0 told (frame right 0) (frame first 2 ∷ []) refl refl, inl (omega arith), refl)

drop_first : Stepped two (Drop 0) (core best pruned over) last
drop_first = (holds (core best pruned over) 0 pruned (frame first 2) [] refl refl, inr (inr (omega arith, omega arith)), refl)

-- the whole run
run : StepsTo two steps (start_of two 1) last
run = (
  core 0 dealt idle,
  push_first,
  (
    core 0 ready idle,
    drop_root,
    (
      core 0 popped idle,
      pop_first,
      (
        core 0 pushed idle,
        push_left,
        (
          core 0 kept idle,
          keep_right,
          (
            core 0 robbed thief,
            steal_left,
            (
              core best robbed offered,
              raise_best,
              (core best robbed over, drop_left, (core best told over, load_best, (core best pruned over, drop_right, (last, drop_first, refl)))),
            ),
          ),
        ),
      ),
    ),
  ),
)

-- it leaves nothing
nothing_left : IsOver last
nothing_left zero m has = let same : all_done ≡ m = cc in (ap (λ (x : CoreWorker). x.deque) (sym same), ap (λ (x : CoreWorker). x.hand) (sym same))
nothing_left (suc zero) m has = let same : over ≡ m = cc in (ap (λ (x : CoreWorker). x.deque) (sym same), ap (λ (x : CoreWorker). x.hand) (sym same))
nothing_left (suc (suc worker)) m has = absurd (cc)

-- so the leaf that was stolen is done once, and the word is the best key
all_finished : IsDoneOnce last left
all_finished =
    let is = finished two [] last last (ran_keeps two two_is_lawful steps (start_of two 1) last run (start_keeps two two_is_lawful 1)) refl nothing_left in
    is.done left (3, refl)

-- and the greatest own key is that of the best point
best_found : greatest_own last.members ≡ Some (key_at two (best_of two))
best_found =
    let is = finished two [] last last (ran_keeps two two_is_lawful steps (start_of two 1) last run (start_keeps two two_is_lawful 1)) refl nothing_left in
    is.best

-- no step: a leaf goes though its bound's sum is no less than what is known, and no own key reaches it
top_is : (c : Core) (m : CoreWorker) (f : Frame) → slice_get c.members 0 ≡ Some m → m.hand ≡ f ∷ [] → (h : Holds c 0) → (h.member ≡ m) × (h.frame ≡ f)
top_is c m f has hand h =
    let both : Some h.member ≡ Some m = sym h.has ∙ has in
    let same : h.member ≡ m = cc in
    let hands : h.frame ∷ h.below ≡ f ∷ [] = sym h.hand ∙ (ap (λ (x : CoreWorker). x.hand) same ∙ hand) in
    (same, let first : h.frame ≡ f = cc in first)

-- not even where the known sum is that of its bound: an equal sum of a lesser index may be there
abbrev equal_known : Core
equal_known = core 75 (member 75 [] (frame left 0 ∷ []) []) idle

too_soon : (after : Core) → Stepped two (Drop 0) equal_known after → ⊥
too_soon after (h, may, e) =
    let m = member 75 [] (frame left 0 ∷ []) [] in
    let top = top_is equal_known m (frame left 0) refl refl h in
    let low : h.member.low ≡ 75 = ap (λ (n : CoreWorker). n.low) top.0 in
    let own : h.member.own ≡ None = ap (λ (n : CoreWorker). n.own) top.0 in
    let depth : h.frame.node.depth ≡ 2 = ap (λ (f : Frame). f.node.depth) top.1 in
    let bound : (bound_of two h.frame.node).sum ≡ 75 = ap (λ (f : Frame). (bound_of two f.node).sum) top.1 in
    elim may [
      | inl less ↦ absurd (omega (arith, less, bound, low))
      | inr (inl reach) ↦ subst (λ o. Reaches o (bound_of two h.frame.node)) own reach
      | inr (inr (below, past)) ↦ absurd (omega (arith, below, depth))
    ]

-- the hand of the second worker
abbrev second_hand : List CoreWorker → List Frame
second_hand [] = []
second_hand (one ∷ []) = []
second_hand (one ∷ other ∷ members) = other.hand

-- nor does a thief lose what it took
lost : Stepped two (Steal 1 0) (core 0 kept idle) (core 0 robbed idle) → ⊥
lost (victim, has, node, rest, is, (rests, e)) =
    let hands : [] ≡ frame node 0 ∷ [] = ap (λ (c : Core). second_hand c.members) e in
    absurd (cc)

-- a piece that meets no child is passed over, and none past the last is
abbrev twice : WeightedSum
twice = record { axes = twelve; terms = split ∷ split ∷ [] }

abbrev half : Node
half =
    record {
      depth = 1;
      area = record { low = 0 ∷ 0 ∷ 0 ∷ 0 ∷ []; high = 0 ∷ 1 ∷ 1 ∷ 0 ∷ [] };
      base = pos 60;
      slope = pos 0 ∷ pos 15 ∷ pos 0 ∷ pos 0 ∷ [];
    }

abbrev at_half : ℕ → Core
at_half next = core 0 (member 0 [] (frame half next ∷ []) []) idle

passed_over : Stepped twice (Skip 0) (at_half 1) (at_half 2)
passed_over = (holds (at_half 1) 0 (member 0 [] (frame half 1 ∷ []) []) (frame half 1) [] refl refl, omega arith, refl, refl)

past_the_end : (after : Core) → Stepped twice (Skip 0) (at_half 2) after → ⊥
past_the_end after (h, less, none, e) =
    let top = top_is (at_half 2) (member 0 [] (frame half 2 ∷ []) []) (frame half 2) refl refl h in
    let next : h.frame.next ≡ 2 = ap (λ (f : Frame). f.next) top.1 in
    let pieces : pieces_of twice h.frame.node ≡ 2 = ap (λ (f : Frame). pieces_of twice f.node) top.1 in
    omega arith
