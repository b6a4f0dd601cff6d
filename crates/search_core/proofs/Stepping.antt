-- Each step keeps what holds of a core, and loses no node.
use Rattle.std.proofs.Common.{◌≡◌, ℕ, ◌<◌, ◌≤◌, ◌⊎◌, inl, inr, true, Option, Some, None, List, [], ◌∷◌, ◌++◌, max, refl, sym, subst, arith}
use Rattle.std.proofs.lemmas.Bool.{cases_lt}
use Rattle.ivp_domain.specs.declared.boxes.Point.{Point}
use Rattle.ivp_domain.specs.Domains.{is_point}
use Rattle.ivp_problem.specs.declared.node.Node.{Node}
use Rattle.ivp_problem.specs.declared.key.Key.{Key}
use Rattle.ivp_problem.specs.Problems.{IsProblem, WeightedSum}
use Rattle.ivp_problem.specs.Sums.{sum_at, key_at}
use Rattle.ivp_problem.specs.Trees.{child_of}
use Rattle.ivp_problem.specs.Keys.{greater_own}
use Rattle.ivp_problem.specs.Found.{IsKnownSum, IsOwnKey}
use Rattle.ivp_problem.proofs.KeyOrder.{greater_own_one, reaches_first}
use Rattle.search_core.specs.Cores.{Core, Drop, found_by, fresh, Has, Holds, Keep, Load, MayDrop, CoreWorker, frame_passed, pieces_of, Pop, Push, Raise, Rests, Skip, Steal, Step, Stepped, taker_of, went_on, with_member}
use Rattle.search_core.specs.Places.{InDeque, InDone, InHand, IsOutdone, NodePlace, node_places}
use Rattle.search_core.proofs.Moving.{began, beside, beside_top, left, received, same_scores, Scores, set_scores, StaysOutdone}
use Rattle.search_core.proofs.Opening.{dropped_stand, pushed_stand, same_places, outdone_more, skipped_stand, Spared, Stand, taken_stand}
use Rattle.search_core.proofs.Weighing.{at, weigh}

-- what holds of a core at any time
pub record KeepsShape (problem : WeightedSum) (core : Core) : Type 0 where
  pub known : IsKnownSum problem core.word
  pub scores : Scores problem core
  pub stand : Stand problem (IsOutdone problem core) (node_places core)

-- a worker that learns the word or finds a point keeps its places
learnt_places : (core : Core) (worker low : ℕ) (own : Option Key) (member : CoreWorker) → Has core worker member → (h : NodePlace → ℕ) → weigh h (node_places (with_member core worker (record member { low = low; own = own }))) ≡ weigh h (node_places core)
learnt_places core worker low own member has h = let by = beside core.members worker member has in omega (arith, by.old h, by.new (record member { low = low; own = own }) h)

-- what a worker does that keeps what it knows and found, and leaves these places
moved_keeps : (problem : WeightedSum) (core core' : Core) (places : List NodePlace) → core'.word ≡ core.word → Scores problem core' → StaysOutdone problem core core' → ((h : NodePlace → ℕ) → weigh h (node_places core') ≡ weigh h places) → Stand problem (IsOutdone problem core) places → KeepsShape problem core → KeepsShape problem core'
moved_keeps problem core core' places word scores up same stand keeps =
    record {
      known = subst (IsKnownSum problem) (sym word) keeps.known;
      scores = scores;
      stand = outdone_more problem (IsOutdone problem core) (IsOutdone problem core') (node_places core') up (same_places problem (IsOutdone problem core) places (node_places core') same stand);
    }

learnt_keeps : (problem : WeightedSum) (core : Core) (worker : ℕ) (member : CoreWorker) → Has core worker member → KeepsShape problem core → KeepsShape problem (with_member core worker (record member { low = core.word }))
learnt_keeps problem core worker member has keeps =
    let scores = keeps.scores in
    let now = set_scores problem core worker member (record member { low = core.word }) has (omega arith) (scores.owns worker member has) (λ key reach. reach) scores in
    moved_keeps problem core (with_member core worker (record member { low = core.word })) (node_places core) refl now.0 now.1 (learnt_places core worker core.word member.own member has) keeps.stand keeps

-- a point raises the word, and what was outdone is so still
raised_word : (problem : WeightedSum) (core : Core) (point : Point) → is_point problem.axes point ≡ true → KeepsShape problem core → KeepsShape problem (record core { word = max core.word (sum_at problem point) })
raised_word problem core point inside keeps =
    let sum = sum_at problem point in
    let up : core.word ≤ max core.word sum = omega arith in
    let scores = keeps.scores in
    record {
      known =
          elim (cases_lt core.word sum) [
            | inl more ↦ let is : sum ≡ max core.word sum = omega arith in inr (point, inside, is)
            | inr less ↦ let is : core.word ≡ max core.word sum = omega arith in subst (IsKnownSum problem) is keeps.known
          ];
      scores = record { lows = λ worker member has. omega (arith, scores.lows worker member has, up); owns = scores.owns };
      stand = outdone_more problem (IsOutdone problem core) (IsOutdone problem (record core { word = max core.word sum })) (node_places core) (λ p outdone. by p outdone) keeps.stand;
    }
  where
    by : (p : Point) → IsOutdone problem core p → IsOutdone problem (record core { word = max core.word (sum_at problem point) }) p
    by p (inl less) = inl (omega (arith, less))
    by p (inr reach) = inr reach

-- and the worker found it
raised_keeps : (problem : WeightedSum) (core : Core) (worker : ℕ) (point : Point) (member : CoreWorker) → is_point problem.axes point ≡ true → Has core worker member → KeepsShape problem core → KeepsShape problem (with_member (record core { word = max core.word (sum_at problem point) }) worker (record (found_by problem member point) { low = max core.word (sum_at problem point) }))
raised_keeps problem core worker point member inside has keeps =
    let word = max core.word (sum_at problem point) in
    let up : Core = record core { word = word } in
    let raised = raised_word problem core point inside keeps in
    let own = greater_own member.own (Some (key_at problem point)) in
    let other : CoreWorker = record member { low = word; own = own } in
    let now = set_scores problem up worker member other has (omega arith) (owned own (greater_own_one member.own (Some (key_at problem point)))) (λ key reach. reaches_first member.own (Some (key_at problem point)) key reach) raised.scores in
    moved_keeps problem up (with_member up worker other) (node_places up) refl now.0 now.1 (learnt_places up worker word own member has) raised.stand raised
  where
    owned : (own : Option Key) → (own ≡ member.own) ⊎ (own ≡ Some (key_at problem point)) → IsOwnKey problem own
    owned own (inl old) = let scores = keeps.scores in subst (IsOwnKey problem) (sym old) (scores.owns worker member has)
    owned own (inr new) = inr (point, inside, new)

-- the places after a push
pushed_places : (core : Core) (worker taker : ℕ) (holder : Holds core worker) (child : Node) (member : CoreWorker) → Has (went_on core worker holder) taker member → (h : NodePlace → ℕ) → weigh h (node_places (with_member (went_on core worker holder) taker (record member { deque = member.deque ++ child ∷ [] }))) ≡ weigh h (InHand (frame_passed holder.frame) ∷ InDeque child ∷ (beside_top core worker holder).rest)
pushed_places core worker taker holder child member has h =
    let by = beside_top core worker holder in
    omega (arith, received (went_on core worker holder) taker child member has h, by.hand (frame_passed holder.frame ∷ holder.below) h)

top_stand : (problem : WeightedSum) (core : Core) (worker : ℕ) (holder : Holds core worker) → KeepsShape problem core → Stand problem (IsOutdone problem core) (InHand holder.frame ∷ (beside_top core worker holder).rest)
top_stand problem core worker holder keeps =
    let by = beside_top core worker holder in
    same_places problem (IsOutdone problem core) (node_places core) (InHand holder.frame ∷ by.rest) (λ h. sym (by.old h)) keeps.stand

pushed_keeps : (problem : WeightedSum) → IsProblem problem → (core : Core) (worker taker : ℕ) (holder : Holds core worker) (child : Node) (member : CoreWorker) → child_of problem holder.frame.node holder.frame.next ≡ Some child → Has (went_on core worker holder) taker member → KeepsShape problem core → KeepsShape problem (with_member (went_on core worker holder) taker (record member { deque = member.deque ++ child ∷ [] }))
pushed_keeps problem h core worker taker holder child member of has keeps =
    let by = beside_top core worker holder in
    let gone = went_on core worker holder in
    let one = same_scores problem core worker holder.member (record holder.member { hand = frame_passed holder.frame ∷ holder.below }) holder.has refl refl keeps.scores in
    let two = same_scores problem gone taker member (record member { deque = member.deque ++ child ∷ [] }) has refl refl one.0 in
    moved_keeps problem core (with_member gone taker (record member { deque = member.deque ++ child ∷ [] })) (InHand (frame_passed holder.frame) ∷ InDeque child ∷ by.rest) refl two.0 (λ p outdone. two.1 p (one.1 p outdone))
    (pushed_places core worker taker holder child member has)
    (pushed_stand problem h (IsOutdone problem core) holder.frame child by.rest of (top_stand problem core worker holder keeps)) keeps

kept_places : (core : Core) (worker : ℕ) (holder : Holds core worker) (child : Node) (h : NodePlace → ℕ) → weigh h (node_places (with_member core worker (record holder.member { hand = fresh child ∷ frame_passed holder.frame ∷ holder.below }))) ≡ weigh h (InHand (fresh child) ∷ InHand (frame_passed holder.frame) ∷ (beside_top core worker holder).rest)
kept_places core worker holder child h = let by = beside_top core worker holder in omega (arith, by.hand (fresh child ∷ frame_passed holder.frame ∷ holder.below) h)

kept_keeps : (problem : WeightedSum) → IsProblem problem → (core : Core) (worker : ℕ) (holder : Holds core worker) (child : Node) → child_of problem holder.frame.node holder.frame.next ≡ Some child → KeepsShape problem core → KeepsShape problem (with_member core worker (record holder.member { hand = fresh child ∷ frame_passed holder.frame ∷ holder.below }))
kept_keeps problem h core worker holder child of keeps =
    let outdone : Point → Type 0 = IsOutdone problem core in
    let by = beside_top core worker holder in
    let pushed = pushed_stand problem h outdone holder.frame child by.rest of (top_stand problem core worker holder keeps) in
    let turned = same_places problem outdone (InHand (frame_passed holder.frame) ∷ InDeque child ∷ by.rest) (InDeque child ∷ InHand (frame_passed holder.frame) ∷ by.rest) (λ g. omega arith) pushed in
    let other : CoreWorker = record holder.member { hand = fresh child ∷ frame_passed holder.frame ∷ holder.below } in
    let now = same_scores problem core worker holder.member other holder.has refl refl keeps.scores in
    moved_keeps problem core (with_member core worker other) (InHand (fresh child) ∷ InHand (frame_passed holder.frame) ∷ by.rest) refl now.0 now.1 (kept_places core worker holder child)
    (taken_stand problem h outdone child (InHand (frame_passed holder.frame) ∷ by.rest) turned) keeps

skipped_places : (core : Core) (worker : ℕ) (holder : Holds core worker) (h : NodePlace → ℕ) → weigh h (node_places (went_on core worker holder)) ≡ weigh h (InHand (frame_passed holder.frame) ∷ (beside_top core worker holder).rest)
skipped_places core worker holder h = let by = beside_top core worker holder in omega (arith, by.hand (frame_passed holder.frame ∷ holder.below) h)

skipped_keeps : (problem : WeightedSum) (core : Core) (worker : ℕ) (holder : Holds core worker) → holder.frame.next < pieces_of problem holder.frame.node → child_of problem holder.frame.node holder.frame.next ≡ None → KeepsShape problem core → KeepsShape problem (went_on core worker holder)
skipped_keeps problem core worker holder less none keeps =
    let by = beside_top core worker holder in
    let now = same_scores problem core worker holder.member (record holder.member { hand = frame_passed holder.frame ∷ holder.below }) holder.has refl refl keeps.scores in
    moved_keeps problem core (went_on core worker holder) (InHand (frame_passed holder.frame) ∷ by.rest) refl now.0 now.1 (skipped_places core worker holder)
    (skipped_stand problem (IsOutdone problem core) holder.frame by.rest less none (top_stand problem core worker holder keeps)) keeps

-- a node of a deque is taken, its own or another's
taken_keeps : (problem : WeightedSum) → IsProblem problem → (core : Core) (worker from : ℕ) (member : CoreWorker) (front : List Node) (node : Node) (behind : List Node) → Has core from member → member.deque ≡ front ++ node ∷ behind → (rests : Rests (with_member core from (record member { deque = front ++ behind })) worker) → KeepsShape problem core → KeepsShape problem (with_member (with_member core from (record member { deque = front ++ behind })) worker (record rests.member { hand = fresh node ∷ [] }))
taken_keeps problem h core worker from member front node behind has e rests keeps =
    let mid = with_member core from (record member { deque = front ++ behind }) in
    let other : CoreWorker = record rests.member { hand = fresh node ∷ [] } in
    let one = same_scores problem core from member (record member { deque = front ++ behind }) has refl refl keeps.scores in
    let two = same_scores problem mid worker rests.member other rests.has refl refl one.0 in
    let old = same_places problem (IsOutdone problem core) (node_places core) (InDeque node ∷ node_places mid) (λ g. sym (left core from member front node behind has e g)) keeps.stand in
    moved_keeps problem core (with_member mid worker other) (InHand (fresh node) ∷ node_places mid) refl two.0 (λ p outdone. two.1 p (one.1 p outdone)) (began mid worker node rests)
    (taken_stand problem h (IsOutdone problem core) node (node_places mid) old) keeps

-- what a worker knows and found is outdone
spared_outdone : (problem : WeightedSum) (core : Core) (worker : ℕ) (member : CoreWorker) → Has core worker member → Scores problem core → (p : Point) → Spared problem member p → IsOutdone problem core p
spared_outdone problem core worker member has scores p (inl less) = inl (omega (arith, less, scores.lows worker member has))
spared_outdone problem core worker member has scores p (inr reach) = inr (worker, member, has, reach)

dropped_keeps : (problem : WeightedSum) → IsProblem problem → (core : Core) (worker : ℕ) (holder : Holds core worker) → MayDrop problem holder.member holder.frame → KeepsShape problem core → KeepsShape problem (with_member core worker (record holder.member { hand = holder.below; done = holder.frame.node ∷ holder.member.done }))
dropped_keeps problem h core worker holder may keeps =
    let by = beside_top core worker holder in
    let other : CoreWorker = record holder.member { hand = holder.below; done = holder.frame.node ∷ holder.member.done } in
    let now = same_scores problem core worker holder.member other holder.has refl refl keeps.scores in
    moved_keeps problem core (with_member core worker other) (InDone holder.frame.node ∷ by.rest) refl now.0 now.1 by.dropped
    (dropped_stand problem h holder.member (IsOutdone problem core) holder.frame by.rest (spared_outdone problem core worker holder.member holder.has keeps.scores) may (top_stand problem core worker holder keeps)) keeps

pub step_keeps : (problem : WeightedSum) → IsProblem problem → (step : Step) (core core' : Core) → Stepped problem step core core' → KeepsShape problem core → KeepsShape problem core'
step_keeps problem h (Load worker) core core' (member, has, e) keeps = subst (KeepsShape problem) (sym e) (learnt_keeps problem core worker member has keeps)
step_keeps problem h (Raise worker point) core core' (inside, member, has, e) keeps = subst (KeepsShape problem) (sym e) (raised_keeps problem core worker point member inside has keeps)
step_keeps problem h (Push worker) core core' (holder, child, of, (member, has, e)) keeps = subst (KeepsShape problem) (sym e) (pushed_keeps problem h core worker (taker_of core worker holder.frame) holder child member of has keeps)
step_keeps problem h (Keep worker) core core' (holder, child, of, e) keeps = subst (KeepsShape problem) (sym e) (kept_keeps problem h core worker holder child of keeps)
step_keeps problem h (Skip worker) core core' (holder, less, none, e) keeps = subst (KeepsShape problem) (sym e) (skipped_keeps problem core worker holder less none keeps)
step_keeps problem h (Pop worker) core core' (member, has, front, node, behind, split, (rests, e)) keeps = subst (KeepsShape problem) (sym e) (taken_keeps problem h core worker worker member front node behind has split rests keeps)
step_keeps problem h (Steal worker from) core core' (member, has, node, rest, split, (rests, e)) keeps = subst (KeepsShape problem) (sym e) (taken_keeps problem h core worker from member [] node rest has split rests keeps)
step_keeps problem h (Drop worker) core core' (holder, may, e) keeps = subst (KeepsShape problem) (sym e) (dropped_keeps problem h core worker holder may keeps)

-- no step takes a node away
abbrev StillThere : Core → Node → Core → Type 0
StillThere core node core' = weigh (at node) (node_places core) ≤ weigh (at node) (node_places core')

taken_stays : (core : Core) (worker from : ℕ) (member : CoreWorker) (front : List Node) (node : Node) (behind : List Node) → Has core from member → member.deque ≡ front ++ node ∷ behind → (rests : Rests (with_member core from (record member { deque = front ++ behind })) worker) → (one : Node) → StillThere core one (with_member (with_member core from (record member { deque = front ++ behind })) worker (record rests.member { hand = fresh node ∷ [] }))
taken_stays core worker from member front node behind has split rests one =
    omega (arith, left core from member front node behind has split (at one), began (with_member core from (record member { deque = front ++ behind })) worker node rests (at one))

pub step_stays : (problem : WeightedSum) (step : Step) (core core' : Core) → Stepped problem step core core' → (node : Node) → StillThere core node core'
step_stays problem (Load worker) core core' (member, has, e) node = subst (StillThere core node) (sym e) (omega (arith, learnt_places core worker core.word member.own member has (at node)))
step_stays problem (Raise worker point) core core' (inside, member, has, e) node =
    let word = max core.word (sum_at problem point) in
    subst (StillThere core node) (sym e) (omega (arith, learnt_places (record core { word = word }) worker word (greater_own member.own (Some (key_at problem point))) member has (at node)))
step_stays problem (Push worker) core core' (holder, child, of, (member, has, e)) node =
    subst (StillThere core node) (sym e) (omega (arith, (beside_top core worker holder).old (at node), pushed_places core worker (taker_of core worker holder.frame) holder child member has (at node)))
step_stays problem (Keep worker) core core' (holder, child, of, e) node = subst (StillThere core node) (sym e) (omega (arith, (beside_top core worker holder).old (at node), kept_places core worker holder child (at node)))
step_stays problem (Skip worker) core core' (holder, less, none, e) node = subst (StillThere core node) (sym e) (omega (arith, (beside_top core worker holder).old (at node), skipped_places core worker holder (at node)))
step_stays problem (Pop worker) core core' (member, has, front, one, behind, split, (rests, e)) node = subst (StillThere core node) (sym e) (taken_stays core worker worker member front one behind has split rests node)
step_stays problem (Steal worker from) core core' (member, has, one, rest, split, (rests, e)) node = subst (StillThere core node) (sym e) (taken_stays core worker from member [] one rest has split rests node)
step_stays problem (Drop worker) core core' (holder, may, e) node = subst (StillThere core node) (sym e) (omega (arith, (beside_top core worker holder).old (at node), (beside_top core worker holder).dropped (at node)))
