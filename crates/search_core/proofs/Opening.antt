-- What frames hold of the points, and how places stand while nodes are pushed, passed over, taken and dropped.
use Rattle.std.proofs.Common.{◌≡◌, ℕ, zero, suc, ◌+◌, ◌-◌, ◌<◌, ◌≤◌, ◌⊎◌, inl, inr, true, false, nat_lt, Option, Some, None, List, [], ◌∷◌, ◌++◌, length, get_or, refl, sym, ap, ◌∙◌, subst, arith, add-one}
use Rattle.std.specs.Prelude.{count_by}
use Rattle.std.specs.List.{flat_map}
use Rattle.std.specs.Option.{option_to_list}
use Rattle.std.proofs.lemmas.Bool.{cases_lt}
use Rattle.std.proofs.lemmas.Bool.Decides.{nat_tests}
use Rattle.std.proofs.lemmas.List.Sums.{sum_by-append, sum_by-cons}
use Rattle.std.proofs.lemmas.Option.{slice_get-get_or, slice_get_within}
use Rattle.ivp_domain.specs.declared.boxes.Point.{Point}
use Rattle.ivp_domain.specs.Boxes.{has_point, numbers_from}
use Rattle.ivp_domain.specs.Domains.{is_point}
use Rattle.ivp_func.proofs.Counting.{one_if}
use Rattle.ivp_problem.specs.declared.node.Node.{Node}
use Rattle.ivp_problem.specs.declared.term.Term.{Term}
use Rattle.ivp_problem.specs.Problems.{IsProblem, WeightedSum}
use Rattle.ivp_problem.specs.Sums.{sum_at, key_at}
use Rattle.ivp_problem.specs.Trees.{child_of, IsNode, next_of, root_of, bound_of}
use Rattle.ivp_problem.specs.Keys.{Reaches}
use Rattle.ivp_problem.proofs.Children.{has, once_in}
use Rattle.ivp_problem.proofs.Nodes.{blank_term, child_parts, node_keeps}
use Rattle.ivp_problem.proofs.Pieces.{child_depth, children_all}
use Rattle.ivp_problem.proofs.KeyOrder.{at_most_sum, reaches_less}
use Rattle.ivp_problem.proofs.Bounds.{key_bound}
use Rattle.search_core.specs.Cores.{CoreWorker, Frame, fresh, MayDrop, frame_passed, pieces_in, pieces_of}
use Rattle.search_core.specs.Places.{children_from, InDeque, InDone, InHand, NodePlace}
use Rattle.search_core.proofs.Kin.{child_is, child_is_node, one_parent}
use Rattle.search_core.proofs.Weighing.{alike, at, has_at, holds, holds_less, holds_most, holds_some, self, some_holds, taken, taken_most, weigh, weigh_le}

-- the first of some numbers, and the others
split_from : (f : ℕ → List Node) (next pieces : ℕ) → next < pieces → flat_map f (numbers_from next (pieces - next)) ≡ f next ++ flat_map f (numbers_from (next + 1) (pieces - (next + 1)))
split_from f next pieces less =
    let e : pieces - next ≡ suc (pieces - (next + 1)) = omega arith in
    ap (λ k. flat_map f (numbers_from next k)) e ∙ ap (λ k. f next ++ flat_map f (numbers_from k (pieces - (next + 1)))) (sym (add-one next))

-- the children from a number on have a point so often
abbrev count_from : WeightedSum → Point → Node → ℕ → ℕ
count_from problem p node next = count_by (has p) (children_from problem node next)

abbrev count_child : WeightedSum → Point → Node → ℕ → ℕ
count_child problem p node number = count_by (has p) (option_to_list (child_of problem node number))

count_split : (problem : WeightedSum) (p : Point) (node : Node) (next : ℕ) → next < pieces_of problem node → count_from problem p node next ≡ count_child problem p node next + count_from problem p node (next + 1)
count_split problem p node next less =
    let child : ℕ → List Node = λ number. option_to_list (child_of problem node number) in
    ap (count_by (has p)) (split_from child next (pieces_of problem node) less)
    ∙ sum_by-append (λ (n : Node). one_if (has p n)) (child next) (children_from problem node (next + 1))

none_from : (problem : WeightedSum) (p : Point) (node : Node) (next : ℕ) → pieces_of problem node ≤ next → count_from problem p node next ≡ 0
none_from problem p node next past =
    let e : pieces_of problem node - next ≡ 0 = omega (arith, past) in
    ap (λ k. count_by (has p) (flat_map (λ number. option_to_list (child_of problem node number)) (numbers_from next k))) e

count_less : (problem : WeightedSum) (p : Point) (node : Node) (next : ℕ) → count_from problem p node (next + 1) ≤ count_from problem p node next
count_less problem p node next =
    elim (cases_lt next (pieces_of problem node)) [
      | inl less ↦ omega (arith, count_split problem p node next less)
      | inr past ↦ omega (arith, none_from problem p node (next + 1) (omega (arith, past)))
    ]

count_most : (problem : WeightedSum) (p : Point) (node : Node) (next : ℕ) → count_from problem p node next ≤ count_from problem p node 0
count_most problem p node zero = omega arith
count_most problem p node (suc next) = omega (arith, count_most problem p node next, count_less problem p node next, ap (count_from problem p node) (add-one next))

count_all : (problem : WeightedSum) → IsProblem problem → (p : Point) (node : Node) → IsNode problem node → node.depth < length problem.terms → count_from problem p node 0 ≡ one_if (has_point node.area p)
count_all problem h p node is below =
    let term = get_or problem.terms node.depth blank_term in
    let stands : next_of problem node ≡ Some term = slice_get-get_or problem.terms node.depth blank_term below in
    let pieces : pieces_of problem node - 0 ≡ length term.func.pieces = omega (arith, ap pieces_in stands) in
    ap (λ k. count_by (has p) (flat_map (λ number. option_to_list (child_of problem node number)) (numbers_from 0 k))) pieces
    ∙ (ap (count_by (has p)) (children_all problem node term stands) ∙ once_in problem node p h is below)

-- below full depth a frame holds children, and at full depth the node
held_below : (problem : WeightedSum) (p : Point) (frame : Frame) → frame.node.depth < length problem.terms → has_at problem p (InHand frame) ≡ count_from problem p frame.node frame.next
held_below problem p frame below = let test : nat_lt frame.node.depth (length problem.terms) ≡ true = grind (arith, nat_tests) in rw test refl

held_full : (problem : WeightedSum) (p : Point) (frame : Frame) → length problem.terms ≤ frame.node.depth → has_at problem p (InHand frame) ≡ one_if (has_point frame.node.area p)
held_full problem p frame full =
    let test : nat_lt frame.node.depth (length problem.terms) ≡ false = grind (arith, nat_tests) in
    let one : count_by (has p) (frame.node ∷ []) ≡ one_if (has_point frame.node.area p) = omega (arith, sum_by-cons (λ (n : Node). one_if (has p n)) frame.node []) in
    rw test one

count_one : (problem : WeightedSum) (p : Point) (node : Node) → has_at problem p (InDeque node) ≡ one_if (has_point node.area p)
count_one problem p node = omega (arith, sum_by-cons (λ (n : Node). one_if (has p n)) node [])

-- a frame that passes a child on holds it no longer
held_next : (problem : WeightedSum) (p : Point) (frame : Frame) (child : Node) → child_of problem frame.node frame.next ≡ Some child → has_at problem p (InHand frame) ≡ has_at problem p (InDeque child) + has_at problem p (InHand (frame_passed frame))
held_next problem p frame child e =
    let of = child_is problem frame.node frame.next child e in
    let below = slice_get_within problem.terms frame.node.depth of.term of.stands in
    let within = slice_get_within of.term.func.pieces frame.next (child_parts of.term frame.node frame.next child of.in_term).piece (child_parts of.term frame.node frame.next child of.in_term).stands in
    let less : frame.next < pieces_of problem frame.node = omega (arith, within, ap pieces_in of.stands) in
    omega (
      arith,
      held_below problem p frame below,
      held_below problem p (frame_passed frame) below,
      count_split problem p frame.node frame.next less,
      ap (λ o. count_by (has p) (option_to_list o)) e,
    )

below_full : (problem : WeightedSum) (node : Node) (next : ℕ) → next < pieces_of problem node → node.depth < length problem.terms
below_full problem node next less = by (next_of problem node) refl
  where
    by : (o : Option Term) → next_of problem node ≡ o → node.depth < length problem.terms
    by None e = absurd (omega (arith, less, ap pieces_in e))
    by (Some term) e = slice_get_within problem.terms node.depth term e

held_skip : (problem : WeightedSum) (p : Point) (frame : Frame) → frame.next < pieces_of problem frame.node → child_of problem frame.node frame.next ≡ None → has_at problem p (InHand frame) ≡ has_at problem p (InHand (frame_passed frame))
held_skip problem p frame less e =
    let below = below_full problem frame.node frame.next less in
    omega (
      arith,
      held_below problem p frame below,
      held_below problem p (frame_passed frame) below,
      count_split problem p frame.node frame.next less,
      ap (λ o. count_by (has p) (option_to_list o)) e,
    )

-- a fresh frame holds the points of its node, each once
pub held_fresh : (problem : WeightedSum) → IsProblem problem → (p : Point) (node : Node) → IsNode problem node → has_at problem p (InHand (fresh node)) ≡ one_if (has_point node.area p)
held_fresh problem h p node is =
    elim (cases_lt node.depth (length problem.terms)) [
      | inl below ↦ held_below problem p (fresh node) below ∙ count_all problem h p node is below
      | inr full ↦ held_full problem p (fresh node) full
    ]

-- and no frame holds others
held_most : (problem : WeightedSum) → IsProblem problem → (p : Point) (frame : Frame) → IsNode problem frame.node → has_at problem p (InHand frame) ≤ one_if (has_point frame.node.area p)
held_most problem h p frame is =
    elim (cases_lt frame.node.depth (length problem.terms)) [
      | inl below ↦ omega (arith, held_below problem p frame below, count_most problem p frame.node frame.next, count_all problem h p frame.node is below)
      | inr full ↦ omega (arith, held_full problem p frame full)
    ]

-- what a worker knows and found shows that the point needs no look
abbrev pub Spared : WeightedSum → CoreWorker → Point → Type 0
Spared problem member p = (sum_at problem p < member.low) ⊎ Reaches member.own (key_at problem p)

-- a frame that may go holds only points that need no look
held_done : (problem : WeightedSum) → IsProblem problem → (member : CoreWorker) (p : Point) (frame : Frame) → IsNode problem frame.node → MayDrop problem member frame → Spared problem member p ⊎ (has_at problem p (InHand frame) ≡ 0)
held_done problem h member p frame is may = by may
  where
    below : has_point frame.node.area p ≡ true → (bound_of problem frame.node).sum < member.low → Spared problem member p
    below inside less = inl (omega (arith, at_most_sum (key_at problem p) (bound_of problem frame.node) (key_bound problem frame.node p (node_keeps problem frame.node h is) inside), less))

    reached : has_point frame.node.area p ≡ true → Reaches member.own (bound_of problem frame.node) → Spared problem member p
    reached inside own = inr (reaches_less member.own (key_at problem p) (bound_of problem frame.node) (key_bound problem frame.node p (node_keeps problem frame.node h is) inside) own)

    inside_only : (has_point frame.node.area p ≡ true → Spared problem member p) → Spared problem member p ⊎ (has_at problem p (InHand frame) ≡ 0)
    inside_only spared =
        elim (has_point frame.node.area p) as (λ t. has_point frame.node.area p ≡ t → Spared problem member p ⊎ (has_at problem p (InHand frame) ≡ 0)) [
          | true ↦ λ inside. inl (spared inside)
          | false ↦ λ outside. inr (omega (arith, held_most problem h p frame is, ap one_if outside))
        ] refl

    by : MayDrop problem member frame → Spared problem member p ⊎ (has_at problem p (InHand frame) ≡ 0)
    by (inl less) = inside_only (λ inside. below inside less)
    by (inr (inl own)) = inside_only (λ inside. reached inside own)
    by (inr (inr (under, past))) = inr (held_below problem p frame under ∙ none_from problem p frame.node frame.next past)

-- the node is a child of a taken one
pub record Parented (problem : WeightedSum) (places : List NodePlace) (node : Node) : Type 0 where
  pub parent : Node
  pub number : ℕ
  pub child : child_of problem parent number ≡ Some node
  pub taken : 0 < weigh (taken parent) places

-- what holds of places at any time, by their weights
pub record Stand (problem : WeightedSum) (outdone : Point → Type 0) (places : List NodePlace) : Type 0 where
  pub once : (node : Node) → weigh (at node) places ≤ 1
  pub linked : (node : Node) → 0 < weigh (at node) places → (node ≡ root_of problem) ⊎ Parented problem places node
  pub ahead : (node : Node) (number : ℕ) (child : Node) → child_of problem node number ≡ Some child → 0 < weigh (holds node number) places → weigh (at child) places ≡ 0
  pub covered : (p : Point) → is_point problem.axes p ≡ true → outdone p ⊎ (weigh (has_at problem p) places ≡ 1)

-- the nodes of places are nodes of the tree
nodes_are : (problem : WeightedSum) (outdone : Point → Type 0) (places : List NodePlace) → Stand problem outdone places → (n : ℕ) (node : Node) → node.depth ≤ n → 0 < weigh (at node) places → IsNode problem node
nodes_are problem outdone places stand zero node deep some =
    elim (stand.linked node some) [
      | inl root ↦ subst (IsNode problem) (sym root) (record { path = []; reached = refl })
      | inr of ↦ absurd (omega (arith, deep, child_depth problem of.parent node of.number of.child))
    ]
nodes_are problem outdone places stand (suc n) node deep some =
    elim (stand.linked node some) [
      | inl root ↦ subst (IsNode problem) (sym root) (record { path = []; reached = refl })
      | inr of ↦
          child_is_node problem of.parent of.number node
          (nodes_are problem outdone places stand n of.parent (omega (arith, deep, child_depth problem of.parent node of.number of.child)) (omega (arith, of.taken, weigh_le (taken of.parent) (at of.parent) (taken_most of.parent) places)))
          of.child
    ]

pub node_at : (problem : WeightedSum) (outdone : Point → Type 0) (places : List NodePlace) → Stand problem outdone places → (node : Node) → 0 < weigh (at node) places → IsNode problem node
node_at problem outdone places stand node some = nodes_are problem outdone places stand node.depth node (omega arith) some

-- places that weigh the same stand alike
pub same_places : (problem : WeightedSum) (outdone : Point → Type 0) (xs ys : List NodePlace) → ((h : NodePlace → ℕ) → weigh h ys ≡ weigh h xs) → Stand problem outdone xs → Stand problem outdone ys
same_places problem outdone xs ys same stand =
    record {
      once = λ node. omega (arith, same (at node), stand.once node);
      linked = λ node some. elim (stand.linked node (omega (arith, same (at node), some))) [ inl root ↦ inl root | inr of ↦ inr (record { parent = of.parent; number = of.number; child = of.child; taken = omega (arith, same (taken of.parent), of.taken) }) ];
      ahead = λ node number child e some. omega (arith, same (at child), stand.ahead node number child e (omega (arith, same (holds node number), some)));
      covered = λ p inside. elim (stand.covered p inside) [ inl less ↦ inl less | inr one ↦ inr (omega (arith, same (has_at problem p), one)) ];
    }

-- and where more is outdone
pub outdone_more : (problem : WeightedSum) (outdone outdone' : Point → Type 0) (xs : List NodePlace) → ((p : Point) → outdone p → outdone' p) → Stand problem outdone xs → Stand problem outdone' xs
outdone_more problem outdone outdone' xs up stand =
    record {
      once = stand.once;
      linked = stand.linked;
      ahead = stand.ahead;
      covered = λ p inside. elim (stand.covered p inside) [ inl less ↦ inl (up p less) | inr one ↦ inr one ];
    }

-- a child is pushed
pub pushed_stand : (problem : WeightedSum) → IsProblem problem → (outdone : Point → Type 0) (frame : Frame) (child : Node) (rest : List NodePlace) → child_of problem frame.node frame.next ≡ Some child → Stand problem outdone (InHand frame ∷ rest) → Stand problem outdone (InHand (frame_passed frame) ∷ InDeque child ∷ rest)
pushed_stand problem h outdone frame child rest e stand = record { once = once; linked = linked; ahead = ahead; covered = covered }
  where
    is_node : IsNode problem frame.node
    is_node = node_at problem outdone (InHand frame ∷ rest) stand frame.node (omega (arith, self frame.node))

    none : weigh (at child) (InHand frame ∷ rest) ≡ 0
    none = stand.ahead frame.node frame.next child e (omega (arith, holds_some frame frame.node frame.next refl (omega arith)))

    once : (node : Node) → weigh (at node) (InHand (frame_passed frame) ∷ InDeque child ∷ rest) ≤ 1
    once node =
        elim (alike child node) [
          | inl (same, one, _) ↦ let none' : weigh (at node) (InHand frame ∷ rest) ≡ 0 = subst (λ (n : Node). weigh (at n) (InHand frame ∷ rest) ≡ 0) same none in omega (arith, none', one)
          | inr (other, _) ↦ omega (arith, other, stand.once node)
        ]

    linked : (node : Node) → 0 < weigh (at node) (InHand (frame_passed frame) ∷ InDeque child ∷ rest) → (node ≡ root_of problem) ⊎ Parented problem (InHand (frame_passed frame) ∷ InDeque child ∷ rest) node
    linked node some =
        elim (alike child node) [
          | inl (same, one, _) ↦ inr (record { parent = frame.node; number = frame.next; child = e ∙ ap Some same; taken = omega (arith, self frame.node) })
          | inr (other, _) ↦ elim (stand.linked node (omega (arith, other, some))) [ inl root ↦ inl root | inr of ↦ inr (record { parent = of.parent; number = of.number; child = of.child; taken = omega (arith, of.taken) }) ]
        ]

    ahead : (node : Node) (number : ℕ) (other : Node) → child_of problem node number ≡ Some other → 0 < weigh (holds node number) (InHand (frame_passed frame) ∷ InDeque child ∷ rest) → weigh (at other) (InHand (frame_passed frame) ∷ InDeque child ∷ rest) ≡ 0
    ahead node number other of some =
        let less = holds_less node frame.next (frame.next + 1) number frame.node (omega arith) in
        let old = stand.ahead node number other of (omega (arith, less, some)) in
        elim (alike child other) [
          | inl (same, one, _) ↦
              let is = node_at problem outdone (InHand frame ∷ rest) stand node (omega (arith, less, some, weigh_le (holds node number) (at node) (holds_most node number) (InHand frame ∷ rest))) in
              let kin = one_parent problem h node frame.node number frame.next other is is_node of (e ∙ ap Some same) in
              let here : 0 < weigh (holds frame.node frame.next) (InHand (frame_passed frame) ∷ InDeque child ∷ rest) = subst (λ (n : Node). 0 < weigh (holds n frame.next) (InHand (frame_passed frame) ∷ InDeque child ∷ rest)) kin.0 (subst (λ (k : ℕ). 0 < weigh (holds node k) (InHand (frame_passed frame) ∷ InDeque child ∷ rest)) kin.1 some) in
              elim (cases_lt 0 (holds frame.node frame.next (InHand (frame_passed frame)))) [
                | inl still ↦ absurd (omega (arith, (some_holds (frame_passed frame) frame.node frame.next still).1))
                | inr gone ↦ absurd (omega (arith, here, gone, stand.once frame.node, self frame.node, weigh_le (holds frame.node frame.next) (at frame.node) (holds_most frame.node frame.next) rest))
              ]
          | inr (apart, _) ↦ omega (arith, old, apart)
        ]

    covered : (p : Point) → is_point problem.axes p ≡ true → outdone p ⊎ (weigh (has_at problem p) (InHand (frame_passed frame) ∷ InDeque child ∷ rest) ≡ 1)
    covered p inside = elim (stand.covered p inside) [ inl less ↦ inl less | inr one ↦ inr (omega (arith, one, held_next problem p frame child e)) ]

-- a piece that meets no child is passed over
pub skipped_stand : (problem : WeightedSum) (outdone : Point → Type 0) (frame : Frame) (rest : List NodePlace) → frame.next < pieces_of problem frame.node → child_of problem frame.node frame.next ≡ None → Stand problem outdone (InHand frame ∷ rest) → Stand problem outdone (InHand (frame_passed frame) ∷ rest)
skipped_stand problem outdone frame rest less e stand =
    record {
      once = λ node. omega (arith, stand.once node);
      linked = λ node some. elim (stand.linked node (omega (arith, some))) [ inl root ↦ inl root | inr of ↦ inr (record { parent = of.parent; number = of.number; child = of.child; taken = omega (arith, of.taken) }) ];
      ahead = λ node number child of some. omega (arith, stand.ahead node number child of (omega (arith, some, holds_less node frame.next (frame.next + 1) number frame.node (omega arith))));
      covered = λ p inside. elim (stand.covered p inside) [ inl known ↦ inl known | inr one ↦ inr (omega (arith, one, held_skip problem p frame less e)) ];
    }

-- a node of a deque becomes a frame
pub taken_stand : (problem : WeightedSum) → IsProblem problem → (outdone : Point → Type 0) (node : Node) (rest : List NodePlace) → Stand problem outdone (InDeque node ∷ rest) → Stand problem outdone (InHand (fresh node) ∷ rest)
taken_stand problem h outdone node rest stand = record { once = λ one. omega (arith, stand.once one); linked = linked; ahead = ahead; covered = covered }
  where
    is_node : IsNode problem node
    is_node = node_at problem outdone (InDeque node ∷ rest) stand node (omega (arith, self node))

    linked : (one : Node) → 0 < weigh (at one) (InHand (fresh node) ∷ rest) → (one ≡ root_of problem) ⊎ Parented problem (InHand (fresh node) ∷ rest) one
    linked one some = elim (stand.linked one (omega (arith, some))) [ inl root ↦ inl root | inr of ↦ inr (record { parent = of.parent; number = of.number; child = of.child; taken = omega (arith, of.taken) }) ]

    ahead : (one : Node) (number : ℕ) (child : Node) → child_of problem one number ≡ Some child → 0 < weigh (holds one number) (InHand (fresh node) ∷ rest) → weigh (at child) (InHand (fresh node) ∷ rest) ≡ 0
    ahead one number child of some =
        elim (alike node one) [
          | inl (same, _, _) ↦
              elim (cases_lt 0 (weigh (at child) (InDeque node ∷ rest))) [
                | inl there ↦
                    elim (stand.linked child there) [
                      | inl root ↦ absurd (omega (arith, child_depth problem one child number of, ap (λ (n : Node). n.depth) root))
                      | inr by ↦
                          let is = node_at problem outdone (InDeque node ∷ rest) stand by.parent (omega (arith, by.taken, weigh_le (taken by.parent) (at by.parent) (taken_most by.parent) (InDeque node ∷ rest))) in
                          let kin = one_parent problem h by.parent one by.number number child is (subst (IsNode problem) same is_node) by.child of in
                          let here : 0 < weigh (taken node) rest = subst (λ (n : Node). 0 < weigh (taken n) rest) (kin.0 ∙ sym same) (omega (arith, by.taken)) in
                          absurd (omega (arith, here, weigh_le (taken node) (at node) (taken_most node) rest, self node, stand.once node))
                    ]
                | inr none ↦ omega (arith, none)
              ]
          | inr (other, _) ↦ omega (arith, stand.ahead one number child of (omega (arith, some, holds_most one number (InHand (fresh node)), other)))
        ]

    covered : (p : Point) → is_point problem.axes p ≡ true → outdone p ⊎ (weigh (has_at problem p) (InHand (fresh node) ∷ rest) ≡ 1)
    covered p inside = elim (stand.covered p inside) [ inl less ↦ inl less | inr one ↦ inr (omega (arith, one, count_one problem p node, held_fresh problem h p node is_node)) ]

-- a frame that may go is done
pub dropped_stand : (problem : WeightedSum) → IsProblem problem → (member : CoreWorker) (outdone : Point → Type 0) (frame : Frame) (rest : List NodePlace) → ((p : Point) → Spared problem member p → outdone p) → MayDrop problem member frame → Stand problem outdone (InHand frame ∷ rest) → Stand problem outdone (InDone frame.node ∷ rest)
dropped_stand problem h member outdone frame rest up may stand =
    record {
      once = λ node. omega (arith, stand.once node);
      linked = λ node some. elim (stand.linked node (omega (arith, some))) [ inl root ↦ inl root | inr of ↦ inr (record { parent = of.parent; number = of.number; child = of.child; taken = omega (arith, of.taken) }) ];
      ahead = λ node number child of some. omega (arith, stand.ahead node number child of (omega (arith, some)));
      covered = covered;
    }
  where
    is_node : IsNode problem frame.node
    is_node = node_at problem outdone (InHand frame ∷ rest) stand frame.node (omega (arith, self frame.node))

    covered : (p : Point) → is_point problem.axes p ≡ true → outdone p ⊎ (weigh (has_at problem p) (InDone frame.node ∷ rest) ≡ 1)
    covered p inside =
        elim (stand.covered p inside) [
          | inl less ↦ inl less
          | inr one ↦ elim (held_done problem h member p frame is_node may) [ inl spared ↦ inl (up p spared) | inr none ↦ inr (omega (arith, one, none)) ]
        ]
