-- What the changes of a worker do to the places of a core: which go, and which come.
use Rattle.std.proofs.Common.{◌≡◌, ℕ, zero, suc, ◌+◌, ◌≤◌, ◌⊎◌, inl, inr, Some, List, [], ◌∷◌, ◌++◌, map, ap, sym, subst, refl, arith}
use Rattle.std.specs.Prelude.{set, slice_get}
use Rattle.std.specs.List.{flat_map}
use Rattle.ivp_domain.specs.declared.boxes.Point.{Point}
use Rattle.ivp_problem.specs.declared.node.Node.{Node}
use Rattle.ivp_problem.specs.declared.key.Key.{Key}
use Rattle.ivp_problem.specs.Problems.{WeightedSum}
use Rattle.ivp_problem.specs.Sums.{key_at}
use Rattle.ivp_problem.specs.Keys.{Reaches}
use Rattle.ivp_problem.specs.Found.{IsOwnKey}
use Rattle.search_core.specs.Cores.{Core, Frame, fresh, Has, Holds, CoreWorker, Rests, with_member}
use Rattle.search_core.specs.Places.{InDeque, InDone, InHand, IsReached, IsOutdone, NodePlace, places_in, node_places}
use Rattle.search_core.proofs.Weighing.{weigh, weigh_append}

-- the places of a worker
pub weigh_member : (h : NodePlace → ℕ) (m : CoreWorker) → weigh h (places_in m) ≡ weigh h (map InDeque m.deque) + weigh h (map InHand m.hand) + weigh h (map InDone m.done)
weigh_member h m = omega (arith, weigh_append h (map InDeque m.deque) (map InHand m.hand ++ map InDone m.done), weigh_append h (map InHand m.hand) (map InDone m.done))

weigh_deque : (h : NodePlace → ℕ) (xs ys : List Node) → weigh h (map InDeque (xs ++ ys)) ≡ weigh h (map InDeque xs) + weigh h (map InDeque ys)
weigh_deque h [] ys = omega arith
weigh_deque h (x ∷ xs) ys = omega (arith, weigh_deque h xs ys)

-- the places beside those of one worker
pub record Beside (members : List CoreWorker) (worker : ℕ) (member : CoreWorker) : Type 0 where
  pub others : List NodePlace
  pub old : (h : NodePlace → ℕ) → weigh h (flat_map places_in members) ≡ weigh h (places_in member) + weigh h others
  pub new : (other : CoreWorker) (h : NodePlace → ℕ) → weigh h (flat_map places_in (set members worker other)) ≡ weigh h (places_in other) + weigh h others

pub beside : (members : List CoreWorker) (worker : ℕ) (member : CoreWorker) → slice_get members worker ≡ Some member → Beside members worker member
beside [] worker member e = absurd (cc)
beside (m ∷ members) zero member e =
    let same : m ≡ member = cc in
    record {
      others = flat_map places_in members;
      old = λ h. omega (arith, weigh_append h (places_in m) (flat_map places_in members), ap (λ (n : CoreWorker). weigh h (places_in n)) same);
      new = λ other h. weigh_append h (places_in other) (flat_map places_in members);
    }
beside (m ∷ members) (suc worker) member e =
    let rest = beside members worker member e in
    record {
      others = places_in m ++ rest.others;
      old = λ h. omega (arith, weigh_append h (places_in m) (flat_map places_in members), weigh_append h (places_in m) rest.others, rest.old h);
      new = λ other h. omega (arith, weigh_append h (places_in m) (flat_map places_in (set members worker other)), weigh_append h (places_in m) rest.others, rest.new other h);
    }

-- the places beside the top frame of a worker
pub record BesideTop (core : Core) (worker : ℕ) (holder : Holds core worker) : Type 0 where
  pub rest : List NodePlace
  pub old : (h : NodePlace → ℕ) → weigh h (node_places core) ≡ h (InHand holder.frame) + weigh h rest
  pub hand : (frames : List Frame) (h : NodePlace → ℕ) → weigh h (node_places (with_member core worker (record holder.member { hand = frames }))) + weigh h (map InHand holder.below) ≡ weigh h (map InHand frames) + weigh h rest
  pub dropped : (h : NodePlace → ℕ) → weigh h (node_places (with_member core worker (record holder.member { hand = holder.below; done = holder.frame.node ∷ holder.member.done }))) ≡ h (InDone holder.frame.node) + weigh h rest

pub beside_top : (core : Core) (worker : ℕ) (holder : Holds core worker) → BesideTop core worker holder
beside_top core worker holder =
    let m = holder.member in
    let by = beside core.members worker m holder.has in
    let deque : List NodePlace = map InDeque m.deque in
    let below : List NodePlace = map InHand holder.below in
    let done : List NodePlace = map InDone m.done in
    let parts : (h : NodePlace → ℕ) → weigh h (deque ++ (below ++ (done ++ by.others))) ≡ weigh h deque + weigh h below + weigh h done + weigh h by.others = λ h. omega (arith, weigh_append h deque (below ++ (done ++ by.others)), weigh_append h below (done ++ by.others), weigh_append h done by.others) in
    record {
      rest = deque ++ (below ++ (done ++ by.others));
      old = λ h. omega (arith, parts h, by.old h, weigh_member h m, ap (λ frames. weigh h (map InHand frames)) holder.hand);
      hand = λ frames h. omega (arith, parts h, by.new (record m { hand = frames }) h, weigh_member h (record m { hand = frames }));
      dropped = λ h. omega (arith, parts h, by.new (record m { hand = holder.below; done = holder.frame.node ∷ m.done }) h, weigh_member h (record m { hand = holder.below; done = holder.frame.node ∷ m.done }));
    }

-- a node comes to a deque
pub received : (core : Core) (worker : ℕ) (node : Node) (taker : CoreWorker) → Has core worker taker → (h : NodePlace → ℕ) → weigh h (node_places (with_member core worker (record taker { deque = taker.deque ++ node ∷ [] }))) ≡ h (InDeque node) + weigh h (node_places core)
received core worker node taker has h =
    let by = beside core.members worker taker has in
    let more : CoreWorker = record taker { deque = taker.deque ++ node ∷ [] } in
    omega (arith, by.old h, by.new more h, weigh_member h taker, weigh_member h more, weigh_deque h taker.deque (node ∷ []))

-- a node leaves a deque
pub left : (core : Core) (worker : ℕ) (member : CoreWorker) (front : List Node) (node : Node) (behind : List Node) → Has core worker member → member.deque ≡ front ++ node ∷ behind → (h : NodePlace → ℕ) → weigh h (node_places core) ≡ h (InDeque node) + weigh h (node_places (with_member core worker (record member { deque = front ++ behind })))
left core worker member front node behind has e h =
    let by = beside core.members worker member has in
    let less : CoreWorker = record member { deque = front ++ behind } in
    omega (arith, by.old h, by.new less h, weigh_member h member, weigh_member h less, ap (λ nodes. weigh h (map InDeque nodes)) e, weigh_deque h front (node ∷ behind), weigh_deque h front behind)

-- a node comes to an empty hand
pub began : (core : Core) (worker : ℕ) (node : Node) (rests : Rests core worker) → (h : NodePlace → ℕ) → weigh h (node_places (with_member core worker (record rests.member { hand = fresh node ∷ [] }))) ≡ h (InHand (fresh node)) + weigh h (node_places core)
began core worker node rests h =
    let by = beside core.members worker rests.member rests.has in
    let more : CoreWorker = record rests.member { hand = fresh node ∷ [] } in
    omega (arith, by.old h, by.new more h, weigh_member h rests.member, weigh_member h more, ap (λ frames. weigh h (map InHand frames)) rests.hand)

-- no worker knows more than this word
abbrev pub Lows : ℕ → List CoreWorker → Type 0
Lows word members = (worker : ℕ) (member : CoreWorker) → slice_get members worker ≡ Some member → member.low ≤ word

got_set : (members : List CoreWorker) (k : ℕ) (other : CoreWorker) (j : ℕ) (member : CoreWorker) → slice_get (set members k other) j ≡ Some member → (member ≡ other) ⊎ (slice_get members j ≡ Some member)
got_set [] k other j member e = inr e
got_set (m ∷ members) zero other zero member e = inl (let same : member ≡ other = cc in same)
got_set (m ∷ members) zero other (suc j) member e = inr e
got_set (m ∷ members) (suc k) other zero member e = inr e
got_set (m ∷ members) (suc k) other (suc j) member e = got_set members k other j member e

lows_set : (word : ℕ) (members : List CoreWorker) (k : ℕ) (other : CoreWorker) → Lows word members → other.low ≤ word → Lows word (set members k other)
lows_set word members k other lows low = λ j member e.
    elim (got_set members k other j member e) [
      | inl same ↦ omega (arith, low, ap (λ (m : CoreWorker). m.low) same)
      | inr old ↦ lows j member old
    ]

-- each worker's own key is none or that of a point
abbrev pub Owns : WeightedSum → List CoreWorker → Type 0
Owns problem members = (worker : ℕ) (member : CoreWorker) → slice_get members worker ≡ Some member → IsOwnKey problem member.own

owns_set : (problem : WeightedSum) (members : List CoreWorker) (k : ℕ) (other : CoreWorker) → Owns problem members → IsOwnKey problem other.own → Owns problem (set members k other)
owns_set problem members k other owns own = λ j member e.
    elim (got_set members k other j member e) [
      | inl same ↦ subst (λ (m : CoreWorker). IsOwnKey problem m.own) (sym same) own
      | inr old ↦ owns j member old
    ]

-- where a worker stands after another was put in the place of one
set_keeps : (members : List CoreWorker) (k : ℕ) (old other : CoreWorker) (j : ℕ) (member : CoreWorker) → slice_get members k ≡ Some old → slice_get members j ≡ Some member → ((member ≡ old) × (slice_get (set members k other) j ≡ Some other)) ⊎ (slice_get (set members k other) j ≡ Some member)
set_keeps [] k old other j member e e' = absurd (cc)
set_keeps (m ∷ members) zero old other zero member e e' = inl (let same : member ≡ old = cc in same, refl)
set_keeps (m ∷ members) zero old other (suc j) member e e' = inr e'
set_keeps (m ∷ members) (suc k) old other zero member e e' = inr e'
set_keeps (m ∷ members) (suc k) old other (suc j) member e e' = set_keeps members k old other j member e e'

-- what workers know and found
pub record Scores (problem : WeightedSum) (core : Core) : Type 0 where
  pub lows : Lows core.word core.members
  pub owns : Owns problem core.members

-- all that was outdone is outdone still
abbrev pub StaysOutdone : WeightedSum → Core → Core → Type 0
StaysOutdone problem core core' = (p : Point) → IsOutdone problem core p → IsOutdone problem core' p

-- a worker that knows no more than the word, and whose own key is that of a point and reaches no less
pub set_scores : (problem : WeightedSum) (core : Core) (worker : ℕ) (member other : CoreWorker) → Has core worker member → other.low ≤ core.word → IsOwnKey problem other.own → ((key : Key) → Reaches member.own key → Reaches other.own key) → Scores problem core → Scores problem (with_member core worker other) × StaysOutdone problem core (with_member core worker other)
set_scores problem core worker member other has low own up scores =
    (record { lows = lows_set core.word core.members worker other scores.lows low; owns = owns_set problem core.members worker other scores.owns own }, λ p outdone. by p outdone)
  where
    reached : (key : Key) → IsReached core key → IsReached (with_member core worker other) key
    reached key (j, one, is, reach) =
        elim (set_keeps core.members worker member other j one has is) [
          | inl (same, now) ↦ (j, other, now, up key (subst (λ (m : CoreWorker). Reaches m.own key) same reach))
          | inr now ↦ (j, one, now, reach)
        ]

    by : (p : Point) → IsOutdone problem core p → IsOutdone problem (with_member core worker other) p
    by p (inl less) = inl less
    by p (inr reach) = inr (reached (key_at problem p) reach)

-- a worker that knows and found the same
pub same_scores : (problem : WeightedSum) (core : Core) (worker : ℕ) (member other : CoreWorker) → Has core worker member → other.low ≡ member.low → other.own ≡ member.own → Scores problem core → Scores problem (with_member core worker other) × StaysOutdone problem core (with_member core worker other)
same_scores problem core worker member other has low own scores =
    set_scores problem core worker member other has (omega (arith, low, scores.lows worker member has)) (subst (IsOwnKey problem) (sym own) (scores.owns worker member has)) (λ key reach. subst (λ o. Reaches o key) (sym own) reach) scores
