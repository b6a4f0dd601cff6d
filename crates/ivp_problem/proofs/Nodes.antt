-- What a node of a problem keeps: a box of the domain, small base and slopes, and the sum that its pieces make.
use Rattle.std.proofs.Common.{◌≡◌, ℕ, zero, suc, ◌+◌, ◌<◌, ◌≤◌, ◌*◌, ◌^◌, ℤ, pos, neg_ℤ, ◌+ℤ◌, ◌*ℤ◌, ◌≤ℤ◌, Bool, true, false, cond, ◌&&◌, nat_lt, Some, None, List, [], ◌∷◌, ◌++◌, length, length-drop, take, drop, get_or, refl, ap, sym, subst, ◌∙◌, arith}
use Rattle.std.specs.Prelude.{slice_get, slice_index}
use Rattle.std.specs.Option.{option_map}
use Rattle.std.proofs.lemmas.Bool.{and_from, and_parts}
use Rattle.std.proofs.lemmas.Bool.Decides.{nat_tests}
use Rattle.std.proofs.lemmas.Int.{ints}
use Rattle.std.proofs.lemmas.List.Sums.{sum_by_more}
use Rattle.std.proofs.lemmas.Option.{get_or_from_slice_get, option_and_then_some, slice_get_within}
use Rattle.ivp_domain.specs.declared.axis.Axis.{Axis}
use Rattle.ivp_domain.specs.declared.boxes.BoxN.{BoxN}
use Rattle.ivp_domain.specs.declared.boxes.Point.{Point}
use Rattle.ivp_domain.specs.Boxes.{common, has_point, is_box, meet_of}
use Rattle.ivp_domain.specs.Domains.{is_point, size_on, whole}
use Rattle.ivp_domain.proofs.BoxLemmas.{has_point-common}
use Rattle.ivp_domain.proofs.Sizes.{few_on, places_below, positive}
use Rattle.ivp_func.specs.declared.piece.Piece.{Piece}
use Rattle.ivp_func.specs.Functions.{IsPartition}
use Rattle.ivp_func.specs.Pieces.{are_pieces_of, is_box_of, is_piece_of, is_slope, is_small, slope_on, value_at, piece_value}
use Rattle.ivp_func.proofs.Counting.{value_at-only}
use Rattle.ivp_func.proofs.Facts.{area_point, box_parts, passes_at, piece_parts}
use Rattle.ivp_func.proofs.Rises.{base_within, slope_within, small_parts}
use Rattle.ivp_problem.specs.declared.node.Node.{Node}
use Rattle.ivp_problem.specs.declared.term.Term.{Term}
use Rattle.ivp_problem.specs.Problems.{is_weight, IsProblem, IsTermOf, WeightedSum}
use Rattle.ivp_problem.specs.Sums.{weighted_at, weighted_sum}
use Rattle.ivp_problem.specs.Corners.{IsSmall}
use Rattle.ivp_problem.specs.Trees.{child_in, child_of, child_with, chosen_at, IsNode, node_below, root_of, slope_at, slope_with, with_chosen}
use Rattle.ivp_problem.proofs.Linear.{both}
use Rattle.ivp_problem.proofs.Slopes.{weight_most, Within, within_product}
use Rattle.ivp_problem.proofs.Terms.{weighted_signed}

pub small_base : (piece : Piece) → is_small piece ≡ true → Within (10 ^ 14) piece.base
small_base piece h = let bound = base_within piece.base (small_parts piece h).0 in let above = bound.0 in let below = bound.1 in record { above = omega (arith, ints); below = omega (arith, ints) }

slope_at_most : (piece : Piece) (axis : ℕ) → is_slope (slope_on axis piece) ≡ true → Within 100000 (slope_on axis piece)
slope_at_most piece axis h = let bound = slope_within (slope_on axis piece) h in record { above = bound.0; below = bound.1 }

pub small_slope : (piece : Piece) → is_small piece ≡ true → (axis : ℕ) → axis < 4 → Within 100000 (slope_on axis piece)
small_slope piece h zero p = slope_at_most piece 0 (small_parts piece h).1
small_slope piece h (suc zero) p = slope_at_most piece 1 (small_parts piece h).2
small_slope piece h (suc (suc zero)) p = slope_at_most piece 2 (small_parts piece h).3
small_slope piece h (suc (suc (suc zero))) p = slope_at_most piece 3 (small_parts piece h).4
small_slope piece h (suc (suc (suc (suc axis)))) p = absurd (omega arith)

-- the front of a list that ends at a place
pub next_at : {X : Type 0} (xs : List X) (n : ℕ) (y : X) (ys : List X) → drop n xs ≡ y ∷ ys → (slice_get xs n ≡ Some y) × (drop (n + 1) xs ≡ ys)
next_at [] zero y ys e = absurd (cc)
next_at [] (suc n) y ys e = absurd (cc)
next_at (x ∷ xs) zero y ys e = (let same : x ≡ y = cc in ap Some same, let same : xs ≡ ys = cc in same)
next_at (x ∷ xs) (suc n) y ys e = let next : suc n + 1 ≡ suc (n + 1) = omega arith in rw next (next_at xs n y ys e)

-- a child: the piece that it chooses, whose box shares a point with the node's
pub record IsChild (term : Term) (node : Node) (number : ℕ) (child : Node) : Type 0 where
  pub piece : Piece
  pub stands : slice_get term.func.pieces number ≡ Some piece
  pub proper : is_box (common node.area piece.area) ≡ true
  pub same : with_chosen term.weight piece node (common node.area piece.area) ≡ child

met : (weight : ℕ) (piece : Piece) (node child : Node) (b : Bool) → option_map (with_chosen weight piece node) (cond b (Some (common node.area piece.area)) None) ≡ Some child → (b ≡ true) × (with_chosen weight piece node (common node.area piece.area) ≡ child)
met weight piece node child true e = (refl, let same : with_chosen weight piece node (common node.area piece.area) ≡ child = cc in same)
met weight piece node child false e = absurd (cc)

pub child_parts : (term : Term) (node : Node) (number : ℕ) (child : Node) → child_in term node number ≡ Some child → IsChild term node number child
child_parts term node number child e =
    option_and_then_some (child_with term.weight node) (slice_get term.func.pieces number) child e
    (λ piece stands with. let both = met term.weight piece node child (is_box (common node.area piece.area)) with in record { piece = piece; stands = stands; proper = both.0; same = both.1 })

-- what a node of a problem keeps
pub record Keeps (problem : WeightedSum) (node : Node) : Type 0 where
  pub depth : node.depth ≤ length problem.terms
  pub inside : is_box_of problem.axes node.area ≡ true
  pub small : IsSmall node.depth node
  pub sum : (p : Point) → has_point node.area p ≡ true → chosen_at node p ≡ pos (weighted_sum (take node.depth problem.terms) p)

-- a box of the domain, from its parts
box_from : (axes : List Axis) (area : BoxN) → is_box area ≡ true → slice_index area.high 0 < size_on 0 axes → slice_index area.high 1 < size_on 1 axes → slice_index area.high 2 < size_on 2 axes → slice_index area.high 3 < size_on 3 axes → is_box_of axes area ≡ true
box_from axes area h p q r s =
    and_from (is_box area && nat_lt (slice_index area.high 0) (size_on 0 axes) && nat_lt (slice_index area.high 1) (size_on 1 axes) && nat_lt (slice_index area.high 2) (size_on 2 axes)) (nat_lt (slice_index area.high 3) (size_on 3 axes))
    (and_from (is_box area && nat_lt (slice_index area.high 0) (size_on 0 axes) && nat_lt (slice_index area.high 1) (size_on 1 axes)) (nat_lt (slice_index area.high 2) (size_on 2 axes))
    (and_from (is_box area && nat_lt (slice_index area.high 0) (size_on 0 axes)) (nat_lt (slice_index area.high 1) (size_on 1 axes))
    (and_from (is_box area) (nat_lt (slice_index area.high 0) (size_on 0 axes)) h (grind (arith, nat_tests))) (grind (arith, nat_tests))) (grind (arith, nat_tests))) (grind (arith, nat_tests))

root_small : (problem : WeightedSum) → IsSmall 0 (root_of problem)
root_small problem = record { base = (omega (arith, ints), omega (arith, ints)); slope = slope }
  where
    slope : (axis : ℕ) → axis < 4 → (neg_ℤ (pos (0 * 10 ^ 12)) ≤ℤ slope_at (root_of problem) axis) × (slope_at (root_of problem) axis ≤ℤ pos (0 * 10 ^ 12))
    slope zero p = (omega (arith, ints), omega (arith, ints))
    slope (suc zero) p = (omega (arith, ints), omega (arith, ints))
    slope (suc (suc zero)) p = (omega (arith, ints), omega (arith, ints))
    slope (suc (suc (suc zero))) p = (omega (arith, ints), omega (arith, ints))
    slope (suc (suc (suc (suc axis)))) p = absurd (omega arith)

pub root_keeps : (problem : WeightedSum) → IsProblem problem → Keeps problem (root_of problem)
root_keeps problem h =
    let axes = problem.axes in
    record {
      depth = omega arith;
      inside = box_from axes (whole axes) (grind (arith, nat_tests)) (omega (arith, positive axes h.domain 0)) (omega (arith, positive axes h.domain 1)) (omega (arith, positive axes h.domain 2)) (omega (arith, positive axes h.domain 3));
      small = root_small problem;
      sum = λ p inside. omega (arith, ints);
    }

-- a sum grows within its bound
grown : (d : ℕ) (a z : ℤ) (m : ℕ) → (neg_ℤ (pos (d * m)) ≤ℤ a) × (a ≤ℤ pos (d * m)) → Within m z → (neg_ℤ (pos ((d + 1) * m)) ≤ℤ (a +ℤ z)) × ((a +ℤ z) ≤ℤ pos ((d + 1) * m))
grown d a z m h w = let above = w.above in let below = w.below in (omega (arith, ints), omega (arith, ints))

pub child_small : (term : Term) (piece : Piece) (node : Node) (area : BoxN) → is_weight term.weight ≡ true → is_small piece ≡ true → IsSmall node.depth node → IsSmall (node.depth + 1) (with_chosen term.weight piece node area)
child_small term piece node area weight small h =
    let most = (weight_most term.weight weight).1 in
    let bound : (axis : ℕ) → axis < 4 → (neg_ℤ (pos ((node.depth + 1) * 10 ^ 12)) ≤ℤ slope_with term.weight piece node axis) × (slope_with term.weight piece node axis ≤ℤ pos ((node.depth + 1) * 10 ^ 12)) = λ axis within. grown node.depth (slope_at node axis) (pos term.weight *ℤ slope_on axis piece) (10 ^ 12) (h.slope axis within) (within_product term.weight (slope_on axis piece) 10000000 100000 most (small_slope piece small axis within)) in
    record {
      base = grown node.depth node.base (pos term.weight *ℤ piece.base) (10 ^ 21) h.base (within_product term.weight piece.base 10000000 (10 ^ 14) most (small_base piece small));
      slope = each bound;
    }
  where
    each : ((axis : ℕ) → axis < 4 → (neg_ℤ (pos ((node.depth + 1) * 10 ^ 12)) ≤ℤ slope_with term.weight piece node axis) × (slope_with term.weight piece node axis ≤ℤ pos ((node.depth + 1) * 10 ^ 12))) → (axis : ℕ) → axis < 4 → (neg_ℤ (pos ((node.depth + 1) * 10 ^ 12)) ≤ℤ slope_at (with_chosen term.weight piece node area) axis) × (slope_at (with_chosen term.weight piece node area) axis ≤ℤ pos ((node.depth + 1) * 10 ^ 12))
    each bound zero p = bound 0 p
    each bound (suc zero) p = bound 1 p
    each bound (suc (suc zero)) p = bound 2 p
    each bound (suc (suc (suc zero))) p = bound 3 p
    each bound (suc (suc (suc (suc axis)))) p = absurd (omega arith)

-- the piece that holds a point has the value there
pub value_here : (axes : List Axis) (term : Term) (number : ℕ) (piece : Piece) (p : Point) → IsTermOf axes term → slice_get term.func.pieces number ≡ Some piece → is_point axes p ≡ true → has_point piece.area p ≡ true → value_at term.func.pieces p ≡ piece_value piece p
value_here axes term number piece p h stands inside holds =
    let partition = subst (λ (a : List Axis). IsPartition a term.func.pieces) h.domain h.func.partition in
    value_at-only term.func.pieces number piece p (partition p inside) stands holds

-- the piece fits the domain
pub piece_fits : (axes : List Axis) (term : Term) (number : ℕ) (piece : Piece) → IsTermOf axes term → slice_get term.func.pieces number ≡ Some piece → is_piece_of axes piece ≡ true
piece_fits axes term number piece h stands =
    let pieces = subst (λ (a : List Axis). are_pieces_of a term.func.pieces ≡ true) h.domain h.func.pieces in
    passes_at (is_piece_of axes) term.func.pieces number piece pieces stands

-- the sum of one more term
pub weighted_sums_more : (terms : List Term) (n : ℕ) (term : Term) (p : Point) → slice_get terms n ≡ Some term → weighted_sum (take (n + 1) terms) p ≡ weighted_sum (take n terms) p + weighted_at p term
weighted_sums_more terms n term p e =
    let more = sum_by_more (weighted_at p) terms n term (slice_get_within terms n term e) in
    let same : get_or terms n term ≡ term = get_or_from_slice_get terms n term term e in
    more ∙ ap (λ t. weighted_sum (take n terms) p + weighted_at p t) same

-- the chosen sum of a child
child_sum : (problem : WeightedSum) → IsProblem problem → (node : Node) (term : Term) (number : ℕ) (piece : Piece) → Keeps problem node → slice_get problem.terms node.depth ≡ Some term → slice_get term.func.pieces number ≡ Some piece → (p : Point) → has_point (common node.area piece.area) p ≡ true → chosen_at (with_chosen term.weight piece node (common node.area piece.area)) p ≡ pos (weighted_sum (take (node.depth + 1) problem.terms) p)
child_sum problem h node term number piece keeps stands in_term p inside =
    let axes = problem.axes in
    let in_both = and_parts (has_point node.area p) (has_point piece.area p) (sym (has_point-common node.area piece.area p) ∙ inside) in
    let in_domain = area_point axes node.area p keeps.inside in_both.0 in
    let of_term = h.terms node.depth term stands in
    let value = value_here axes term number piece p of_term in_term in_domain in_both.1 in
    let one : (pos term.weight *ℤ piece_value piece p) ≡ pos (weighted_at p term) = ap (λ z. pos term.weight *ℤ z) (sym value) ∙ weighted_signed axes term p of_term in_domain in
    let sum = both term.weight node.base piece.base (slope_at node 0) (slope_at node 1) (slope_at node 2) (slope_at node 3) (slope_on 0 piece) (slope_on 1 piece) (slope_on 2 piece) (slope_on 3 piece) (slice_index p.at 0) (slice_index p.at 1) (slice_index p.at 2) (slice_index p.at 3) in
    let old = keeps.sum p in_both.0 in
    let more = weighted_sums_more problem.terms node.depth term p stands in
    sum ∙ joined (chosen_at node p) (pos term.weight *ℤ piece_value piece p) (weighted_sum (take node.depth problem.terms) p) (weighted_at p term) (weighted_sum (take (node.depth + 1) problem.terms) p) old one more
  where
    joined : (a b : ℤ) (m n k : ℕ) → a ≡ pos m → b ≡ pos n → k ≡ m + n → (a +ℤ b) ≡ pos k
    joined a b m n k p q r = omega (arith, ints)

pub child_keeps : (problem : WeightedSum) → IsProblem problem → (node : Node) (term : Term) (number : ℕ) (child : Node) → Keeps problem node → slice_get problem.terms node.depth ≡ Some term → IsChild term node number child → Keeps problem child
child_keeps problem h node term number child keeps stands of =
    let axes = problem.axes in
    let of_term = h.terms node.depth term stands in
    let piece = of.piece in
    let fits = piece_parts axes piece (piece_fits axes term number piece of_term of.stands) in
    let high = box_parts axes node.area keeps.inside in
    let area = common node.area piece.area in
    subst (Keeps problem) of.same
    (record {
      depth = omega (arith, slice_get_within problem.terms node.depth term stands);
      inside = box_from axes area of.proper (omega (arith, high.1)) (omega (arith, high.2)) (omega (arith, high.3)) (omega (arith, high.4));
      small = child_small term piece node area of_term.weight fits.1 keeps.small;
      sum = child_sum problem h node term number piece keeps stands of.stands;
    })

-- what holds of a node holds of each node below it
pub below_keeps : (problem : WeightedSum) → IsProblem problem → (terms : List Term) (path : List ℕ) (node reached : Node) → drop node.depth problem.terms ≡ terms → Keeps problem node → node_below terms path node ≡ Some reached → Keeps problem reached
below_keeps problem h terms [] node reached rest keeps e = let same : node ≡ reached = cc in subst (Keeps problem) same keeps
below_keeps problem h [] (number ∷ path) node reached rest keeps e = absurd (cc)
below_keeps problem h (term ∷ terms) (number ∷ path) node reached rest keeps e =
    let next = next_at problem.terms node.depth term terms rest in
    option_and_then_some (node_below terms path) (child_in term node number) reached e
    (λ child first later.
    let of = child_parts term node number child first in
    below_keeps problem h terms path child reached (subst (λ (c : Node). drop c.depth problem.terms ≡ terms) of.same next.1) (child_keeps problem h node term number child keeps next.0 of) later)

pub node_keeps : (problem : WeightedSum) (node : Node) → IsProblem problem → IsNode problem node → Keeps problem node
node_keeps problem node h n = below_keeps problem h problem.terms n.path (root_of problem) node refl (root_keeps problem h) n.reached

-- a path goes on with a piece of the next function
pub below_more : (all terms : List Term) (path : List ℕ) (start node child : Node) (term : Term) (number : ℕ) → drop start.depth all ≡ terms → node_below terms path start ≡ Some node → slice_get all node.depth ≡ Some term → child_in term node number ≡ Some child → node_below terms (path ++ number ∷ []) start ≡ Some child
below_more all [] [] start node child term number rest e stands more =
    let same : start ≡ node = cc in
    let within = slice_get_within all node.depth term stands in
    let none : drop node.depth all ≡ [] = subst (λ (s : Node). drop s.depth all ≡ []) same rest in
    absurd (omega (arith, within, length-drop node.depth all, ap length none))
below_more all (t ∷ ts) [] start node child term number rest e stands more =
    let same : node ≡ start = cc in
    let next = next_at all start.depth t ts rest in
    let here : slice_get all start.depth ≡ Some term = subst (λ (s : Node). slice_get all s.depth ≡ Some term) same stands in
    let term' : term ≡ t = let there = next.0 in cc in
    let more' : child_in t start number ≡ Some child = subst (λ (u : Term). child_in u start number ≡ Some child) term' (subst (λ (s : Node). child_in term s number ≡ Some child) same more) in
    rw more' refl
below_more all [] (n ∷ path) start node child term number rest e stands more = absurd (cc)
below_more all (t ∷ ts) (n ∷ path) start node child term number rest e stands more =
    let next = next_at all start.depth t ts rest in
    option_and_then_some (node_below ts path) (child_in t start n) node e
    (λ below first later.
    let of = child_parts t start n below first in
    let rest' = subst (λ (c : Node). drop c.depth all ≡ ts) of.same next.1 in
    rw first (below_more all ts path below node child term number rest' later stands more))

pub child_node : (problem : WeightedSum) (node child : Node) (term : Term) (number : ℕ) → IsNode problem node → slice_get problem.terms node.depth ≡ Some term → child_in term node number ≡ Some child → IsNode problem child
child_node problem node child term number n stands more =
    record { path = n.path ++ number ∷ []; reached = below_more problem.terms problem.terms n.path (root_of problem) node child term number refl n.reached stands more }

-- what stands past the end of a list of terms
abbrev pub blank_term : Term
blank_term = record { weight = 0; func = record { axes = []; pieces = [] } }

-- small for fewer pieces is small for more
pub small_more : (a b : ℕ) (node : Node) → a ≤ b → IsSmall a node → IsSmall b node
small_more a b node le h =
    record {
      base = wider (a * 10 ^ 21) (b * 10 ^ 21) node.base (omega arith) h.base;
      slope = λ axis within. wider (a * 10 ^ 12) (b * 10 ^ 12) (slope_at node axis) (omega arith) (h.slope axis within);
    }
  where
    wider : (m n : ℕ) (z : ℤ) → m ≤ n → (neg_ℤ (pos m) ≤ℤ z) × (z ≤ℤ pos m) → (neg_ℤ (pos n) ≤ℤ z) × (z ≤ℤ pos n)
    wider m n z le h = (omega (arith, ints), omega (arith, ints))

-- the places of a node's point are small
pub place_small : (problem : WeightedSum) (node : Node) (p : Point) → IsProblem problem → Keeps problem node → has_point node.area p ≡ true → (k : ℕ) → k < 4 → slice_index p.at k < 2 ^ 28
place_small problem node p h keeps inside k within =
    let axes = problem.axes in
    let at = places_below axes p h.domain (area_point axes node.area p keeps.inside inside) in
    by k within (omega (arith, few_on axes h.domain k within)) at.0 at.1 at.2 at.3
  where
    by : (k : ℕ) → k < 4 → size_on k problem.axes ≤ 2 ^ 28 → slice_index p.at 0 < size_on 0 problem.axes → slice_index p.at 1 < size_on 1 problem.axes → slice_index p.at 2 < size_on 2 problem.axes → slice_index p.at 3 < size_on 3 problem.axes → slice_index p.at k < 2 ^ 28
    by zero w few a b c d = omega arith
    by (suc zero) w few a b c d = omega arith
    by (suc (suc zero)) w few a b c d = omega arith
    by (suc (suc (suc zero))) w few a b c d = omega arith
    by (suc (suc (suc (suc k)))) w few a b c d = absurd (omega arith)

-- the child by a piece, where the boxes meet, and where they do not
pub child_met : (problem : WeightedSum) (node : Node) (term : Term) (number : ℕ) (piece : Piece) (area : BoxN) → slice_get problem.terms node.depth ≡ Some term → slice_get term.func.pieces number ≡ Some piece → meet_of node.area piece.area ≡ Some area → child_in term node number ≡ Some (with_chosen term.weight piece node area)
child_met problem node term number piece area stands in_term e = rw (in_term, e) refl

pub child_apart : (problem : WeightedSum) (node : Node) (term : Term) (number : ℕ) (piece : Piece) → slice_get problem.terms node.depth ≡ Some term → slice_get term.func.pieces number ≡ Some piece → meet_of node.area piece.area ≡ None → child_of problem node number ≡ None
child_apart problem node term number piece stands in_term e = rw (stands, in_term, e) refl

pub child_of_in : (problem : WeightedSum) (node : Node) (term : Term) (number : ℕ) → slice_get problem.terms node.depth ≡ Some term → child_of problem node number ≡ child_in term node number
child_of_in problem node term number stands = rw stands refl
