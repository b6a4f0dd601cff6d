-- Weights of places: how often a node is there, is taken, or is still to come, and how often what is open there has a point.
use Rattle.std.proofs.Common.{◌≡◌, ℕ, zero, suc, ◌+◌, ◌<◌, ◌≤◌, ◌⊎◌, inl, inr, Bool, true, false, cond, nat_le, Some, List, [], ◌∷◌, ◌++◌, refl, ap, arith}
use Rattle.std.specs.Prelude.{slice_get, count_by}
use Rattle.std.proofs.lemmas.Bool.Decides.{nat_tests}
use Rattle.ivp_domain.specs.declared.boxes.Point.{Point}
use Rattle.ivp_func.proofs.Counting.{one_if}
use Rattle.ivp_problem.specs.declared.node.Node.{Node}
use Rattle.ivp_problem.specs.Problems.{WeightedSum}
use Rattle.ivp_problem.proofs.Children.{has}
use Rattle.ivp_problem.proofs.SameNodes.{is_same, is_same-self, is_same-true}
use Rattle.search_core.specs.Cores.{Frame}
use Rattle.search_core.specs.Places.{InDeque, InDone, InHand, node_in, open_in, NodePlace}

-- what some places weigh together
abbrev pub weigh : (NodePlace → ℕ) → List NodePlace → ℕ
weigh h [] = 0
weigh h (place ∷ places) = h place + weigh h places

pub weigh_append : (h : NodePlace → ℕ) (xs ys : List NodePlace) → weigh h (xs ++ ys) ≡ weigh h xs + weigh h ys
weigh_append h [] ys = omega arith
weigh_append h (x ∷ xs) ys = omega (arith, weigh_append h xs ys)

pub weigh_le : (f g : NodePlace → ℕ) → ((place : NodePlace) → f place ≤ g place) → (xs : List NodePlace) → weigh f xs ≤ weigh g xs
weigh_le f g le [] = omega arith
weigh_le f g le (x ∷ xs) = omega (arith, le x, weigh_le f g le xs)

-- a place of a list weighs no more than all
pub weigh_at : (h : NodePlace → ℕ) (xs : List NodePlace) (k : ℕ) (x : NodePlace) → slice_get xs k ≡ Some x → h x ≤ weigh h xs
weigh_at h [] k x e = absurd (cc)
weigh_at h (y ∷ ys) zero x e = let same : y ≡ x = cc in omega (arith, ap h same)
weigh_at h (y ∷ ys) (suc k) x e = omega (arith, weigh_at h ys k x e)

-- where a list weighs something one of its places does
pub record Heavy (h : NodePlace → ℕ) (xs : List NodePlace) : Type 0 where
  pub place : ℕ
  pub one : NodePlace
  pub stands : slice_get xs place ≡ Some one
  pub some : 0 < h one

pub heavy : (h : NodePlace → ℕ) (xs : List NodePlace) → 0 < weigh h xs → Heavy h xs
heavy h [] some = absurd (omega arith)
heavy h (x ∷ xs) some = by (h x) refl (heavy h xs)
  where
    by : (n : ℕ) → h x ≡ n → (0 < weigh h xs → Heavy h xs) → Heavy h (x ∷ xs)
    by zero e go = let rest = go (omega (arith, e)) in record { place = suc rest.place; one = rest.one; stands = rest.stands; some = rest.some }
    by (suc n) e go = record { place = 0; one = x; stands = refl; some = omega (arith, e) }

-- the place has this node
abbrev pub at : Node → NodePlace → ℕ
at node place = one_if (is_same (node_in place) node)

-- it is a frame of this node, or a done one
abbrev pub taken : Node → NodePlace → ℕ
taken node (InDeque other) = 0
taken node (InHand frame) = one_if (is_same frame.node node)
taken node (InDone other) = one_if (is_same other node)

-- it is a frame of this node that still holds the child of this number
abbrev pub holds : Node → ℕ → NodePlace → ℕ
holds node number (InDeque other) = 0
holds node number (InHand frame) = cond (is_same frame.node node) (one_if (nat_le frame.next number)) 0
holds node number (InDone other) = 0

-- how often what is open there has this point
abbrev pub has_at : WeightedSum → Point → NodePlace → ℕ
has_at problem p place = count_by (has p) (open_in problem place)

pub one_at_most : (b : Bool) → one_if b ≤ 1
one_at_most true = omega arith
one_at_most false = omega arith

-- two nodes are the same or not
pub alike : (a b : Node) → ((a ≡ b) × (one_if (is_same a b) ≡ 1) × (is_same a b ≡ true)) ⊎ ((one_if (is_same a b) ≡ 0) × (is_same a b ≡ false))
alike a b =
    elim (is_same a b) as (λ t. is_same a b ≡ t → ((a ≡ b) × (one_if (is_same a b) ≡ 1) × (is_same a b ≡ true)) ⊎ ((one_if (is_same a b) ≡ 0) × (is_same a b ≡ false))) [
      | true ↦ λ e. inl (is_same-true a b e, ap one_if e, e)
      | false ↦ λ e. inr (ap one_if e, e)
    ] refl

pub self : (a : Node) → one_if (is_same a a) ≡ 1
self a = ap one_if (is_same-self a)

pub taken_most : (node : Node) (place : NodePlace) → taken node place ≤ at node place
taken_most node (InDeque other) = omega arith
taken_most node (InHand frame) = omega arith
taken_most node (InDone other) = omega arith

-- what a frame holds of a node's children
pub holds_some : (frame : Frame) (node : Node) (number : ℕ) → frame.node ≡ node → frame.next ≤ number → holds node number (InHand frame) ≡ 1
holds_some frame node number same le =
    let here : is_same frame.node node ≡ true = let self = is_same-self node in rw same self in
    let test : nat_le frame.next number ≡ true = grind (arith, nat_tests, le) in
    rw (here, test) refl

pub some_holds : (frame : Frame) (node : Node) (number : ℕ) → 0 < holds node number (InHand frame) → (frame.node ≡ node) × (frame.next ≤ number)
some_holds frame node number some =
    elim (alike frame.node node) [
      | inl (same, one, here) ↦
          elim (nat_le frame.next number) as (λ t. nat_le frame.next number ≡ t → (frame.node ≡ node) × (frame.next ≤ number)) [
            | true ↦ λ e. (same, grind (arith, nat_tests, e))
            | false ↦ λ e. let none : holds node number (InHand frame) ≡ 0 = rw (here, e) refl in absurd (omega (arith, none, some))
          ] refl
      | inr (none, other) ↦ let zero : holds node number (InHand frame) ≡ 0 = rw other refl in absurd (omega (arith, zero, some))
    ]

pub holds_most : (node : Node) (number : ℕ) (place : NodePlace) → holds node number place ≤ at node place
holds_most node number (InDeque other) = omega arith
holds_most node number (InHand frame) = by (is_same frame.node node) (nat_le frame.next number)
  where
    by : (t u : Bool) → cond t (one_if u) 0 ≤ one_if t
    by true true = omega arith
    by true false = omega arith
    by false u = omega arith
holds_most node number (InDone other) = omega arith

-- a frame that passed on one more holds no more
pub holds_less : (node : Node) (next next' number : ℕ) (other : Node) → next ≤ next' → holds node number (InHand (record { node = other; next = next' })) ≤ holds node number (InHand (record { node = other; next = next }))
holds_less node next next' number other le =
    elim (nat_le next' number) as (λ t. nat_le next' number ≡ t → holds node number (InHand (record { node = other; next = next' })) ≤ holds node number (InHand (record { node = other; next = next }))) [
      | true ↦ λ e. let test : nat_le next number ≡ true = grind (arith, nat_tests, e, le) in rw (e, test) (omega arith)
      | false ↦ λ e. rw e (none (is_same other node))
    ] refl
  where
    none : (t : Bool) → cond t 0 0 ≤ holds node number (InHand (record { node = other; next = next }))
    none true = omega arith
    none false = omega arith
