-- The children of a node by its pieces, one after the other.
use Rattle.std.proofs.Common.{◌≡◌, ℕ, zero, suc, ◌+◌, ◌<◌, ◌≤◌, Bool, true, false, cond, get_or, inl, inr, ◌||◌, nat_lt, Option, Some, None, List, [], ◌∷◌, ◌++◌, length, refl, sym, ap, ◌∙◌, arith, add-one}
use Rattle.std.specs.Prelude.{count_by, slice_get}
use Rattle.std.specs.List.{flat_map}
use Rattle.std.specs.Option.{option_and_then, option_map, option_to_list}
use Rattle.std.proofs.lemmas.Bool.{cases_lt, lt-ltb}
use Rattle.std.proofs.lemmas.Option.{option_and_then_some, slice_get-get_or, slice_get_past}
use Rattle.std.proofs.lemmas.List.{append-nil}
use Rattle.std.proofs.lemmas.List.Sums.{sum_by-cons}
use Rattle.std.proofs.lemmas.Grind.{flat_map-append}
use Rattle.ivp_domain.specs.declared.boxes.BoxN.{BoxN}
use Rattle.ivp_domain.specs.declared.boxes.Point.{Point}
use Rattle.ivp_domain.specs.Boxes.{has_point, meet_of, numbers_from}
use Rattle.ivp_func.specs.declared.piece.Piece.{Piece}
use Rattle.ivp_func.specs.Grids.{meets, meets_piece}
use Rattle.ivp_func.proofs.Counting.{one_if}
use Rattle.ivp_func.proofs.Meetings.{numbers_more}
use Rattle.ivp_problem.specs.declared.node.Node.{Node}
use Rattle.ivp_problem.specs.declared.term.Term.{Term}
use Rattle.ivp_problem.specs.Problems.{WeightedSum}
use Rattle.ivp_problem.specs.Trees.{child_in, child_of, child_with, children_in, children_of, has_in, next_of, with_chosen}
use Rattle.ivp_problem.proofs.Nodes.{blank_term, child_of_in}

-- the children by the first pieces
abbrev pub children_to : WeightedSum → Node → ℕ → List Node
children_to problem node count = flat_map (λ number. option_to_list (child_of problem node number)) (numbers_from 0 count)

-- the children by one more piece
pub children_more : (problem : WeightedSum) (node : Node) (count : ℕ) → children_to problem node (count + 1) ≡ children_to problem node count ++ option_to_list (child_of problem node count)
children_more problem node count =
    let child : ℕ → List Node = λ number. option_to_list (child_of problem node number) in
    let last : 0 + count ≡ count = omega arith in
    ap (children_to problem node) (add-one count) ∙ (ap (flat_map child) (numbers_more 0 count ∙ ap (λ k. numbers_from 0 count ++ k ∷ []) last) ∙ (flat_map-append child (numbers_from 0 count) (count ∷ []) ∙ ap (λ rest. children_to problem node count ++ rest) (append-nil (child count))))

-- with a piece that meets no child
pub no_child : (problem : WeightedSum) (node : Node) (count : ℕ) → child_of problem node count ≡ None → children_to problem node (count + 1) ≡ children_to problem node count
no_child problem node count is = children_more problem node count ∙ (ap (λ o. children_to problem node count ++ option_to_list o) is ∙ append-nil (children_to problem node count))

with_depth : (weight : ℕ) (node : Node) (piece : Piece) (child : Node) (area : Option BoxN) → option_map (with_chosen weight piece node) area ≡ Some child → child.depth ≡ node.depth + 1
with_depth weight node piece child None e = absurd (cc)
with_depth weight node piece child (Some area) e = let same : child ≡ with_chosen weight piece node area = cc in ap (λ (n : Node). n.depth) same

-- a child is one deeper
pub child_depth : (problem : WeightedSum) (node child : Node) (number : ℕ) → child_of problem node number ≡ Some child → child.depth ≡ node.depth + 1
child_depth problem node child number e =
    option_and_then_some (λ (term : Term). child_in term node number) (next_of problem node) child e
    (λ term at in_term.
    option_and_then_some (child_with term.weight node) (slice_get term.func.pieces number) child in_term
    (λ piece stands with. with_depth term.weight node piece child (meet_of node.area piece.area) with))

-- the children by all pieces
pub children_all : (problem : WeightedSum) (node : Node) (term : Term) → next_of problem node ≡ Some term → children_to problem node (length term.func.pieces) ≡ children_of problem node
children_all problem node term is = rw is (sym (append-nil (children_in term node)))

any_counted : (p : Point) (nodes : List Node) → has_in nodes p ≡ nat_lt 0 (count_by (λ (n : Node). has_point n.area p) nodes)
any_counted p [] = refl
any_counted p (node ∷ nodes) =
    by (has_point node.area p) (has_in nodes p) (count_by (λ (n : Node). has_point n.area p) nodes) (count_by (λ (n : Node). has_point n.area p) (node ∷ nodes)) (any_counted p nodes) (sum_by-cons (λ (n : Node). one_if (has_point n.area p)) node nodes)
  where
    by : (t u : Bool) (m n : ℕ) → u ≡ nat_lt 0 m → n ≡ one_if t + m → (t || u) ≡ nat_lt 0 n
    by true u m n e e' = let some : 0 < n = omega arith in sym (lt-ltb 0 n some)
    by false u m n e e' = let same : m ≡ n = omega arith in e ∙ ap (nat_lt 0) same

-- the children have the points of the node
pub has_all : (node : Node) (nodes : List Node) (p : Point) → count_by (λ (n : Node). has_point n.area p) nodes ≡ cond (has_point node.area p) 1 0 → has_point node.area p ≡ has_in nodes p
has_all node nodes p e = by (has_point node.area p) ∙ (ap (nat_lt 0) (sym e) ∙ sym (any_counted p nodes))
  where
    by : (t : Bool) → t ≡ nat_lt 0 (cond t 1 0)
    by true = refl
    by false = refl

-- a piece that has no point of the node makes no child
child_none : (term : Term) (node : Node) (number : ℕ) → meets term.func.pieces node.area number ≡ false → child_in term node number ≡ None
child_none term node number h = by (slice_get term.func.pieces number) h
  where
    by : (o : Option Piece) → meets_piece node.area o ≡ false → option_and_then (child_with term.weight node) o ≡ None
    by None e = refl
    by (Some piece) e = rw e refl

pub child_apart_at : (problem : WeightedSum) (node : Node) (term : Term) (number : ℕ) → next_of problem node ≡ Some term → meets term.func.pieces node.area number ≡ false → child_of problem node number ≡ None
child_apart_at problem node term number stands h = child_of_in problem node term number stands ∙ child_none term node number h

-- pieces that make no child add none
pub none_to : (problem : WeightedSum) (node : Node) (from piece : ℕ) → from ≤ piece → ((m : ℕ) → from ≤ m → m < piece → child_of problem node m ≡ None) → children_to problem node piece ≡ children_to problem node from
none_to problem node from zero h none = let same : zero ≡ from = omega arith in ap (children_to problem node) same
none_to problem node from (suc piece) h none =
    elim (cases_lt from (suc piece)) [
      | inl more ↦
          let last : child_of problem node piece ≡ None = none piece (omega arith) (omega arith) in
          ap (children_to problem node) (sym (add-one piece)) ∙ (no_child problem node piece last ∙ none_to problem node from piece (omega arith) (λ m above below. none m above (omega arith)))
      | inr here ↦ let same : suc piece ≡ from = omega arith in ap (children_to problem node) same
    ]

-- no piece past the last makes one
child_past : (term : Term) (node : Node) (number : ℕ) → length term.func.pieces ≤ number → child_in term node number ≡ None
child_past term node number h = ap (option_and_then (child_with term.weight node)) (slice_get_past term.func.pieces number h)

-- so where none is left, the children are all
pub children_end : (problem : WeightedSum) (node : Node) (from : ℕ) → node.depth < length problem.terms → ((m : ℕ) → from ≤ m → child_of problem node m ≡ None) → children_to problem node from ≡ children_of problem node
children_end problem node from below none =
    let term = get_or problem.terms node.depth blank_term in
    let stands : next_of problem node ≡ Some term = slice_get-get_or problem.terms node.depth blank_term below in
    let many = length term.func.pieces in
    let all = children_all problem node term stands in
    elim (cases_lt many from) [
      | inl past ↦ none_to problem node many from (omega arith) (λ m above _. child_of_in problem node term m stands ∙ child_past term node m above) ∙ all
      | inr within ↦ sym (none_to problem node from many within (λ m above _. none m above)) ∙ all
    ]

-- how many pieces the next function has
abbrev pub many_next : WeightedSum → Node → ℕ
many_next problem node = length (get_or problem.terms node.depth blank_term).func.pieces

pub child_within : (problem : WeightedSum) (node child : Node) (number : ℕ) → node.depth < length problem.terms → child_of problem node number ≡ Some child → number < many_next problem node
child_within problem node child number below is =
    let term = get_or problem.terms node.depth blank_term in
    let stands : next_of problem node ≡ Some term = slice_get-get_or problem.terms node.depth blank_term below in
    elim (cases_lt number (many_next problem node)) [
      | inl within ↦ within
      | inr past ↦ let none = child_of_in problem node term number stands ∙ child_past term node number past in absurd (cc)
    ]

-- a piece that makes a child is one of those that make all
pub record IsAmong (problem : WeightedSum) (node : Node) (number : ℕ) : Type 0 where
  pub pieces : ℕ
  pub within : number < pieces
  pub all : children_to problem node pieces ≡ children_of problem node

pub among_all : (problem : WeightedSum) (node child : Node) (number : ℕ) → node.depth < length problem.terms → child_of problem node number ≡ Some child → IsAmong problem node number
among_all problem node child number below is =
    record {
      pieces = many_next problem node;
      within = child_within problem node child number below is;
      all = children_all problem node (get_or problem.terms node.depth blank_term) (slice_get-get_or problem.terms node.depth blank_term below);
    }
