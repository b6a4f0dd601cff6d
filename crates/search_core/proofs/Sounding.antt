-- What holds of a core, said of its nodes one by one, and by weights.
use Rattle.std.proofs.Common.{◌≡◌, ℕ, zero, suc, ◌<◌, ◌≤◌, inl, inr, Some, List, [], ◌∷◌, map, refl, sym, ap, ◌∙◌, subst, arith}
use Rattle.std.specs.Prelude.{count_by, slice_get}
use Rattle.std.specs.List.{flat_map}
use Rattle.std.proofs.lemmas.Bool.{cases_lt}
use Rattle.std.proofs.lemmas.List.Sums.{sum_by-append}
use Rattle.ivp_domain.specs.declared.boxes.Point.{Point}
use Rattle.ivp_func.proofs.Counting.{one_if}
use Rattle.ivp_problem.specs.declared.node.Node.{Node}
use Rattle.ivp_problem.specs.Problems.{WeightedSum}
use Rattle.ivp_problem.specs.Trees.{child_of}
use Rattle.ivp_problem.proofs.Children.{has}
use Rattle.ivp_problem.proofs.SameNodes.{is_same}
use Rattle.search_core.specs.Cores.{Core, Frame}
use Rattle.search_core.specs.Places.{AreDifferent, InDeque, InDone, InHand, IsIn, IsSound, IsTaken, node_in, open_in, NodePlace, node_places}
use Rattle.search_core.proofs.Stepping.{KeepsShape}
use Rattle.search_core.proofs.Weighing.{alike, at, has_at, heavy, holds, holds_some, self, some_holds, taken, weigh, weigh_at}

-- a list that was mapped, by place
mapped : {X Y : Type 0} (f : X → Y) (xs : List X) (k : ℕ) (y : Y) → slice_get (map f xs) k ≡ Some y → (x : X) × (slice_get xs k ≡ Some x) × (f x ≡ y)
mapped f [] k y e = absurd (cc)
mapped f (x ∷ xs) zero y e = (x, refl, let same : f x ≡ y = cc in same)
mapped f (x ∷ xs) (suc k) y e = mapped f xs k y e

map_at : {X Y : Type 0} (f : X → Y) (xs : List X) (k : ℕ) (x : X) → slice_get xs k ≡ Some x → slice_get (map f xs) k ≡ Some (f x)
map_at f [] k x e = absurd (cc)
map_at f (y ∷ xs) zero x e = let same : y ≡ x = cc in ap (λ z. Some (f z)) same
map_at f (y ∷ xs) (suc k) x e = map_at f xs k x e

same_one : (a b : Node) → a ≡ b → one_if (is_same a b) ≡ 1
same_one a b e = ap (λ (n : Node). one_if (is_same n b)) e ∙ self b

one_same : (a b : Node) → 0 < one_if (is_same a b) → a ≡ b
one_same a b some = elim (alike a b) [ inl (same, _, _) ↦ same | inr (other, _) ↦ absurd (omega (arith, some, other)) ]

-- a node that is there weighs something, and one that weighs something is there
pub in_some : (places : List NodePlace) (node : Node) → IsIn (map node_in places) node → 0 < weigh (at node) places
in_some places node (k, e) = let x = mapped node_in places k node e in omega (arith, weigh_at (at node) places k x.0 x.1, same_one (node_in x.0) node x.2)

pub some_in : (places : List NodePlace) (node : Node) → 0 < weigh (at node) places → IsIn (map node_in places) node
some_in places node some =
    let x = heavy (at node) places some in
    (x.place, map_at node_in places x.place x.one x.stands ∙ ap Some (one_same (node_in x.one) node x.some))

taken_some : (core : Core) (node : Node) → IsTaken core node → 0 < weigh (taken node) (node_places core)
taken_some core node (inl (frame, (k, e), same)) = omega (arith, weigh_at (taken node) (node_places core) k (InHand frame) e, same_one frame.node node same)
taken_some core node (inr (k, e)) = omega (arith, weigh_at (taken node) (node_places core) k (InDone node) e, self node)

some_taken : (core : Core) (node : Node) → 0 < weigh (taken node) (node_places core) → IsTaken core node
some_taken core node some = let x = heavy (taken node) (node_places core) some in by x.place x.one x.stands x.some
  where
    by : (k : ℕ) (place : NodePlace) → slice_get (node_places core) k ≡ Some place → 0 < taken node place → IsTaken core node
    by k (InDeque other) e some = absurd (omega (arith, some))
    by k (InHand frame) e some = inl (frame, (k, e), one_same frame.node node some)
    by k (InDone other) e some = inr (k, e ∙ ap (λ (n : Node). Some (InDone n)) (one_same other node some))

-- what frames hold
held_some : (places : List NodePlace) (frame : Frame) (number : ℕ) → IsIn places (InHand frame) → frame.next ≤ number → 0 < weigh (holds frame.node number) places
held_some places frame number (k, e) le = omega (arith, weigh_at (holds frame.node number) places k (InHand frame) e, holds_some frame frame.node number refl le)

some_held : (places : List NodePlace) (node : Node) (number : ℕ) → 0 < weigh (holds node number) places → (frame : Frame) × IsIn places (InHand frame) × (frame.node ≡ node) × (frame.next ≤ number)
some_held places node number some = let x = heavy (holds node number) places some in by x.place x.one x.stands x.some
  where
    by : (k : ℕ) (place : NodePlace) → slice_get places k ≡ Some place → 0 < holds node number place → (frame : Frame) × IsIn places (InHand frame) × (frame.node ≡ node) × (frame.next ≤ number)
    by k (InDeque other) e some = absurd (omega (arith, some))
    by k (InHand frame) e some = let is = some_holds frame node number some in (frame, (k, e), is.0, is.1)
    by k (InDone other) e some = absurd (omega (arith, some))

-- nodes that are there once are different
pub two_at : (places : List NodePlace) (node : Node) (i j : ℕ) → slice_get (map node_in places) i ≡ Some node → slice_get (map node_in places) j ≡ Some node → weigh (at node) places ≤ 1 → i ≡ j
two_at [] node i j e e' once = absurd (cc)
two_at (x ∷ xs) node zero zero e e' once = refl
two_at (x ∷ xs) node zero (suc j) e e' once = let same : node_in x ≡ node = cc in absurd (omega (arith, once, same_one (node_in x) node same, in_some xs node (j, e')))
two_at (x ∷ xs) node (suc i) zero e e' once = let same : node_in x ≡ node = cc in absurd (omega (arith, once, same_one (node_in x) node same, in_some xs node (i, e)))
two_at (x ∷ xs) node (suc i) (suc j) e e' once = ap suc (two_at xs node i j e e' (omega (arith, once)))

differ_once : (places : List NodePlace) → AreDifferent (map node_in places) → (node : Node) → weigh (at node) places ≤ 1
differ_once [] differ node = omega arith
differ_once (x ∷ xs) differ node =
    let rest = differ_once xs (λ i j n e e'. let same : suc i ≡ suc j = differ (suc i) (suc j) n e e' in omega (arith, same)) node in
    elim (alike (node_in x) node) [
      | inl (same, one, _) ↦
          elim (cases_lt 0 (weigh (at node) xs)) [
            | inl there ↦ let k = some_in xs node there in let both : 0 ≡ suc k.0 = differ 0 (suc k.0) node (ap Some same) k.1 in absurd (omega (arith, both))
            | inr none ↦ omega (arith, one, none)
          ]
      | inr (other, _) ↦ omega (arith, other, rest)
    ]

-- what is open has a point so often
count_open : (problem : WeightedSum) (p : Point) (places : List NodePlace) → count_by (has p) (flat_map (open_in problem) places) ≡ weigh (has_at problem p) places
count_open problem p [] = refl
count_open problem p (x ∷ xs) = omega (arith, sum_by-append (λ (n : Node). one_if (has p n)) (open_in problem x) (flat_map (open_in problem) xs), count_open problem p xs)

pub sound_from : (problem : WeightedSum) (core : Core) → KeepsShape problem core → IsSound problem core
sound_from problem core keeps =
    let places = node_places core in
    let stand = keeps.stand in
    let scores = keeps.scores in
    record {
      known = keeps.known;
      lows = scores.lows;
      owns = scores.owns;
      covered = λ p inside. elim (stand.covered p inside) [ inl less ↦ inl less | inr one ↦ inr (count_open problem p places ∙ one) ];
      different = λ i j node e e'. two_at places node i j e e' (stand.once node);
      linked = λ node there. elim (stand.linked node (in_some places node there)) [ inl root ↦ inl root | inr of ↦ inr (record { parent = of.parent; number = of.number; child = of.child; taken = some_taken core of.parent of.taken }) ];
      ahead = λ frame number child held le of there. absurd (omega (arith, in_some places child there, stand.ahead frame.node number child of (held_some places frame number held le)));
    }

pub sound_keeps : (problem : WeightedSum) (core : Core) → IsSound problem core → KeepsShape problem core
sound_keeps problem core sound =
    let places = node_places core in
    record {
      known = sound.known;
      scores = record { lows = sound.lows; owns = sound.owns };
      stand =
          record {
            once = λ node. differ_once places sound.different node;
            linked = λ node some. elim (sound.linked node (some_in places node some)) [ inl root ↦ inl root | inr of ↦ inr (record { parent = of.parent; number = of.number; child = of.child; taken = taken_some core of.parent of.taken }) ];
            ahead = λ node number child of some.
                let held = some_held places node number some in
                elim (cases_lt 0 (weigh (at child) places)) [
                  | inl there ↦ absurd (sound.ahead held.0 number child held.1 held.3 (subst (λ (n : Node). child_of problem n number ≡ Some child) (sym held.2) of) (some_in places child there))
                  | inr none ↦ omega (arith, none)
                ];
            covered = λ p inside. elim (sound.covered p inside) [ inl less ↦ inl less | inr one ↦ inr (sym (count_open problem p places) ∙ one) ];
          };
    }
