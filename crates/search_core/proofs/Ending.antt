-- The start of a core, lists of steps, and what holds where no node is left.
use Rattle.std.proofs.Common.{◌≡◌, ℕ, zero, suc, ◌<◌, ◌≤◌, ◌⊎◌, inl, inr, Option, Some, None, List, [], ◌∷◌, map, replicate, refl, sym, ap, subst, ◌∙◌, arith}
use Rattle.std.specs.Prelude.{slice_get}
use Rattle.std.specs.List.{flat_map, fold}
use Rattle.std.proofs.lemmas.Bool.{cases_lt}
use Rattle.ivp_domain.specs.declared.boxes.Point.{Point}
use Rattle.ivp_func.proofs.Counting.{one_if}
use Rattle.ivp_problem.specs.declared.node.Node.{Node}
use Rattle.ivp_problem.specs.declared.key.Key.{Key}
use Rattle.ivp_problem.specs.Problems.{IsProblem, WeightedSum}
use Rattle.ivp_problem.specs.Sums.{sum_at, best_of, key_at}
use Rattle.ivp_problem.specs.Trees.{IsNode, root_of}
use Rattle.ivp_problem.specs.Keys.{AtMost, greater_own, Reaches}
use Rattle.ivp_problem.specs.Found.{IsKnownSum, IsOwnKey}
use Rattle.ivp_problem.proofs.Pieces.{child_depth}
use Rattle.ivp_problem.proofs.KeyOrder.{at_most_both, at_most_sum, best_most, best_point, greater_own_one, reaches_first, reaches_second}
use Rattle.ivp_problem.proofs.SameNodes.{is_same}
use Rattle.search_core.specs.Cores.{Core, fresh, holder_of, CoreWorker, StepsTo, start_of, Step}
use Rattle.search_core.specs.Places.{greatest_own, InDeque, InDone, InHand, IsDoneOnce, IsFinished, IsIn, IsOver, IsOutdone, nodes_in, NodePlace, places_in, node_places}
use Rattle.search_core.proofs.Moving.{beside, Lows, Owns, weigh_member}
use Rattle.search_core.proofs.Opening.{held_fresh, same_places, Stand}
use Rattle.search_core.proofs.Sounding.{in_some, some_in}
use Rattle.search_core.proofs.Stepping.{KeepsShape, step_keeps, step_stays}
use Rattle.search_core.proofs.Weighing.{alike, at, has_at, one_at_most, self, weigh, weigh_append}

-- workers that hold nothing
no_places : (h : NodePlace → ℕ) (others : ℕ) → weigh h (flat_map places_in (replicate others (holder_of []))) ≡ 0
no_places h zero = refl
no_places h (suc others) = no_places h others

low_start : (others worker : ℕ) (member : CoreWorker) → slice_get (replicate others (holder_of [])) worker ≡ Some member → member.low ≤ 0
low_start zero worker member e = absurd (cc)
low_start (suc others) zero member e = let same : holder_of [] ≡ member = cc in omega (arith, ap (λ (m : CoreWorker). m.low) same)
low_start (suc others) (suc worker) member e = low_start others worker member e

lows_start : (problem : WeightedSum) (others : ℕ) → Lows 0 (start_of problem others).members
lows_start problem others zero member e = let same : holder_of (fresh (root_of problem) ∷ []) ≡ member = cc in omega (arith, ap (λ (m : CoreWorker). m.low) same)
lows_start problem others (suc worker) member e = low_start others worker member e

own_start : (problem : WeightedSum) (others worker : ℕ) (member : CoreWorker) → slice_get (replicate others (holder_of [])) worker ≡ Some member → IsOwnKey problem member.own
own_start problem zero worker member e = absurd (cc)
own_start problem (suc others) zero member e = let same : holder_of [] ≡ member = cc in inl (ap (λ (m : CoreWorker). m.own) (sym same))
own_start problem (suc others) (suc worker) member e = own_start problem others worker member e

owns_start : (problem : WeightedSum) (others : ℕ) → Owns problem (start_of problem others).members
owns_start problem others zero member e = let same : holder_of (fresh (root_of problem) ∷ []) ≡ member = cc in inl (ap (λ (m : CoreWorker). m.own) (sym same))
owns_start problem others (suc worker) member e = own_start problem others worker member e

root_stand : (problem : WeightedSum) → IsProblem problem → (outdone : Point → Type 0) → Stand problem outdone (InHand (fresh (root_of problem)) ∷ [])
root_stand problem h outdone =
    let root = root_of problem in
    let is : IsNode problem root = record { path = []; reached = refl } in
    record {
      once = λ node. omega (arith, one_at_most (is_same root node));
      linked = λ node some. elim (alike root node) [ inl (same, _, _) ↦ inl (sym same) | inr (other, _) ↦ absurd (omega (arith, some, other)) ];
      ahead = λ node number child of some.
          elim (alike root child) [
            | inl (same, _, _) ↦ absurd (omega (arith, child_depth problem node child number of, ap (λ (n : Node). n.depth) same))
            | inr (other, _) ↦ omega (arith, other)
          ];
      covered = λ p inside. inr (omega (arith, held_fresh problem h p root is, ap one_if inside));
    }

pub start_keeps : (problem : WeightedSum) → IsProblem problem → (others : ℕ) → KeepsShape problem (start_of problem others)
start_keeps problem h others =
    record {
      known = inl refl;
      scores = record { lows = lows_start problem others; owns = owns_start problem others };
      stand = same_places problem (IsOutdone problem (start_of problem others)) (InHand (fresh (root_of problem)) ∷ []) (node_places (start_of problem others)) (λ g. omega (arith, no_places g others)) (root_stand problem h (IsOutdone problem (start_of problem others)));
    }

-- so each list of steps from there keeps it too
pub ran_keeps : (problem : WeightedSum) → IsProblem problem → (steps : List Step) (core core' : Core) → StepsTo problem steps core core' → KeepsShape problem core → KeepsShape problem core'
ran_keeps problem h [] core core' e keeps = subst (KeepsShape problem) (sym e) keeps
ran_keeps problem h (step ∷ steps) core core' (next, stepped, ran) keeps = ran_keeps problem h steps next core' ran (step_keeps problem h step core next stepped keeps)

weight_stays : (problem : WeightedSum) (steps : List Step) (core core' : Core) → StepsTo problem steps core core' → (node : Node) → weigh (at node) (node_places core) ≤ weigh (at node) (node_places core')
weight_stays problem [] core core' e node = subst (λ (c : Core). weigh (at node) (node_places core) ≤ weigh (at node) (node_places c)) (sym e) (omega arith)
weight_stays problem (step ∷ steps) core core' (next, stepped, ran) node = omega (arith, step_stays problem step core next stepped node, weight_stays problem steps next core' ran node)

pub ran_stays : (problem : WeightedSum) (steps : List Step) (core core' : Core) → StepsTo problem steps core core' → (node : Node) → IsIn (nodes_in core) node → IsIn (nodes_in core') node
ran_stays problem steps core core' ran node there = some_in (node_places core') node (omega (arith, weight_stays problem steps core core' ran node, in_some (node_places core) node there))

-- nodes that are done
abbrev AllOver : List CoreWorker → Type 0
AllOver members = (worker : ℕ) (member : CoreWorker) → slice_get members worker ≡ Some member → (member.deque ≡ []) × (member.hand ≡ [])

over_member : (h : NodePlace → ℕ) (m : CoreWorker) → m.deque ≡ [] → m.hand ≡ [] → weigh h (places_in m) ≡ weigh h (map InDone m.done)
over_member h m deque hand = omega (arith, weigh_member h m, ap (λ nodes. weigh h (map InDeque nodes)) deque, ap (λ frames. weigh h (map InHand frames)) hand)

done_in : (node : Node) (nodes : List Node) → 0 < weigh (at node) (map InDone nodes) → IsIn nodes node
done_in node [] some = absurd (omega (arith, some))
done_in node (x ∷ xs) some =
    elim (alike x node) [
      | inl (same, _, _) ↦ (0, ap Some same)
      | inr (other, _) ↦ let rest = done_in node xs (omega (arith, some, other)) in (suc rest.0, rest.1)
    ]

in_done : (node : Node) (nodes : List Node) (k : ℕ) → slice_get nodes k ≡ Some node → 0 < weigh (at node) (map InDone nodes)
in_done node [] k e = absurd (cc)
in_done node (x ∷ xs) zero e = let same : x ≡ node = cc in omega (arith, self node, ap (λ (n : Node). one_if (is_same n node)) same)
in_done node (x ∷ xs) (suc k) e = omega (arith, in_done node xs k e)

done_weighs : (node : Node) (m : CoreWorker) → IsIn m.done node → 0 < weigh (at node) (places_in m)
done_weighs node m (k, e) = omega (arith, weigh_member (at node) m, in_done node m.done k e)

-- a node that is there is done by a worker
record DoneBy (members : List CoreWorker) (node : Node) : Type 0 where
  worker : ℕ
  member : CoreWorker
  has : slice_get members worker ≡ Some member
  done : IsIn member.done node

done_by : (node : Node) (members : List CoreWorker) → AllOver members → 0 < weigh (at node) (flat_map places_in members) → DoneBy members node
done_by node [] over some = absurd (omega (arith, some))
done_by node (m ∷ members) over some =
    elim (cases_lt 0 (weigh (at node) (places_in m))) [
      | inl here ↦ let is = over 0 m refl in record { worker = 0; member = m; has = refl; done = done_in node m.done (omega (arith, here, over_member (at node) m is.0 is.1)) }
      | inr none ↦
          let rest = done_by node members (λ k n e. over (suc k) n e) (omega (arith, some, none, weigh_append (at node) (places_in m) (flat_map places_in members))) in
          record { worker = suc rest.worker; member = rest.member; has = rest.has; done = rest.done }
    ]

-- and by one only
one_worker : (node : Node) (members : List CoreWorker) (i j : ℕ) (m n : CoreWorker) → slice_get members i ≡ Some m → IsIn m.done node → slice_get members j ≡ Some n → IsIn n.done node → weigh (at node) (flat_map places_in members) ≤ 1 → i ≡ j
one_worker node [] i j m n e in_m e' in_n once = absurd (cc)
one_worker node (x ∷ members) zero zero m n e in_m e' in_n once = refl
one_worker node (x ∷ members) zero (suc j) m n e in_m e' in_n once =
    let same : x ≡ m = cc in
    absurd (omega (arith, once, weigh_append (at node) (places_in x) (flat_map places_in members), ap (λ (y : CoreWorker). weigh (at node) (places_in y)) same, done_weighs node m in_m, (beside members j n e').old (at node), done_weighs node n in_n))
one_worker node (x ∷ members) (suc i) zero m n e in_m e' in_n once =
    let same : x ≡ n = cc in
    absurd (omega (arith, once, weigh_append (at node) (places_in x) (flat_map places_in members), ap (λ (y : CoreWorker). weigh (at node) (places_in y)) same, done_weighs node n in_n, (beside members i m e).old (at node), done_weighs node m in_m))
one_worker node (x ∷ members) (suc i) (suc j) m n e in_m e' in_n once =
    ap suc (one_worker node members i j m n e in_m e' in_n (omega (arith, once, weigh_append (at node) (places_in x) (flat_map places_in members))))

-- nothing is open there
none_in_done : (problem : WeightedSum) (p : Point) (nodes : List Node) → weigh (has_at problem p) (map InDone nodes) ≡ 0
none_in_done problem p [] = refl
none_in_done problem p (x ∷ xs) = omega (arith, none_in_done problem p xs)

none_open : (problem : WeightedSum) (p : Point) (members : List CoreWorker) → AllOver members → weigh (has_at problem p) (flat_map places_in members) ≡ 0
none_open problem p [] over = refl
none_open problem p (m ∷ members) over =
    let is = over 0 m refl in
    omega (
      arith,
      weigh_append (has_at problem p) (places_in m) (flat_map places_in members),
      over_member (has_at problem p) m is.0 is.1,
      none_in_done problem p m.done,
      none_open problem p members (λ k n e. over (suc k) n e),
    )

-- the greatest own key reaches what the first or any worker's reaches
abbrev own_from : Option Key → List CoreWorker → Option Key
own_from start members = fold (λ most (member : CoreWorker). greater_own most member.own) start members

own_first : (start : Option Key) (members : List CoreWorker) (key : Key) → Reaches start key → Reaches (own_from start members) key
own_first start [] key reach = reach
own_first start (m ∷ members) key reach = own_first (greater_own start m.own) members key (reaches_first start m.own key reach)

own_each : (start : Option Key) (members : List CoreWorker) (key : Key) (worker : ℕ) (member : CoreWorker) → slice_get members worker ≡ Some member → Reaches member.own key → Reaches (own_from start members) key
own_each start [] key worker member e reach = absurd (cc)
own_each start (m ∷ members) key zero member e reach =
    let same : member ≡ m = cc in
    own_first (greater_own start m.own) members key (reaches_second start m.own key (subst (λ (n : CoreWorker). Reaches n.own key) same reach))
own_each start (m ∷ members) key (suc worker) member e reach = own_each (greater_own start m.own) members key worker member e reach

-- and is the key of a point
own_key : (problem : WeightedSum) (start : Option Key) (members : List CoreWorker) → IsOwnKey problem start → Owns problem members → IsOwnKey problem (own_from start members)
own_key problem start [] own owns = own
own_key problem start (m ∷ members) own owns = own_key problem (greater_own start m.own) members (by (greater_own start m.own) (greater_own_one start m.own)) (λ k n e. owns (suc k) n e)
  where
    by : (both : Option Key) → (both ≡ start) ⊎ (both ≡ m.own) → IsOwnKey problem both
    by both (inl first) = subst (IsOwnKey problem) (sym first) own
    by both (inr second) = subst (IsOwnKey problem) (sym second) (owns 0 m refl)

-- no word is above the sum of the best point
word_most : (problem : WeightedSum) (word : ℕ) → IsKnownSum problem word → word ≤ sum_at problem (best_of problem)
word_most problem word (inl none) = omega (arith, none)
word_most problem word (inr (p, inside, is)) = omega (arith, is, at_most_sum (key_at problem p) (key_at problem (best_of problem)) (best_most problem p inside))

-- a point's key that reaches the best key is it
best_own : (problem : WeightedSum) (own : Option Key) → IsOwnKey problem own → Reaches own (key_at problem (best_of problem)) → own ≡ Some (key_at problem (best_of problem))
best_own problem own (inl none) reach = absurd (subst (λ o. Reaches o (key_at problem (best_of problem))) none reach)
best_own problem own (inr (p, inside, is)) reach =
    let up : AtMost (key_at problem (best_of problem)) (key_at problem p) = subst (λ o. Reaches o (key_at problem (best_of problem))) is reach in
    is ∙ ap Some (at_most_both (key_at problem p) (key_at problem (best_of problem)) (best_most problem p inside) up)

pub finished : (problem : WeightedSum) (steps : List Step) (earlier core : Core) → KeepsShape problem core → StepsTo problem steps earlier core → IsOver core → IsFinished problem earlier core
finished problem steps earlier core keeps ran over = record { done = done; best = best }
  where
    outdone : IsOutdone problem core (best_of problem) → greatest_own core.members ≡ Some (key_at problem (best_of problem))
    outdone (inl less) = absurd (omega (arith, less, word_most problem core.word keeps.known))
    outdone (inr (worker, member, has, reach)) =
        let scores = keeps.scores in
        best_own problem (greatest_own core.members) (own_key problem None core.members (inl refl) scores.owns) (own_each None core.members (key_at problem (best_of problem)) worker member has reach)

    best : greatest_own core.members ≡ Some (key_at problem (best_of problem))
    best =
        let stand = keeps.stand in
        elim (stand.covered (best_of problem) (best_point problem)) [
          | inl is ↦ outdone is
          | inr one ↦ absurd (omega (arith, one, none_open problem (best_of problem) core.members over))
        ]

    done : (node : Node) → IsIn (nodes_in earlier) node → IsDoneOnce core node
    done node there =
        let by = done_by node core.members over (omega (arith, weight_stays problem steps earlier core ran node, in_some (node_places earlier) node there)) in
        let stand = keeps.stand in
        record {
          worker = by.worker;
          by = (by.member, by.has, by.done);
          only = λ other (m, has, is). one_worker node core.members other by.worker m by.member has is by.has by.done (stand.once node);
        }
