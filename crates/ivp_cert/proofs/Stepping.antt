-- The checker's and the cutter's loops over the children of a node, one piece after the other.
use Rattle.std.proofs.Common.{◌≡◌, ℕ, zero, suc, inl, inr, ◌+◌, ◌-◌, ◌<◌, ◌≤◌, true, false, Option, Some, None, List, [], ◌∷◌, ◌++◌, length, take, drop, get_or, refl, sym, ap, subst, ◌∙◌, arith, add-one, append_assoc, append-nil, drop-cons, length-append, length-drop}
use Rattle.std.specs.Prelude.{IfSome, slice_get}
use Rattle.std.specs.List.{flat_map}
use Rattle.std.specs.Option.{option_and_then, option_to_list}
use Rattle.std.proofs.lemmas.Bool.{cases_lt}
use Rattle.std.proofs.lemmas.List.{drop_all, take-append-le, take_all}
use Rattle.std.proofs.lemmas.Option.{slice_get-get_or}
use Rattle.ivp_domain.specs.Boxes.{numbers_from}
use Rattle.ivp_problem.specs.declared.node.Node.{Node}
use Rattle.ivp_problem.specs.declared.term.Term.{Term}
use Rattle.ivp_problem.specs.Problems.{WeightedSum}
use Rattle.ivp_problem.specs.Trees.{bound_of, child_in, child_of, next_of, root_of}
use Rattle.ivp_problem.specs.Keys.{AtMost, is_at_most}
use Rattle.ivp_problem.specs.declared.key.Key.{Key}
use Rattle.ivp_problem.proofs.Makes.{drop_at}
use Rattle.ivp_problem.proofs.Nodes.{blank_term, child_of_in}
use Rattle.ivp_problem.proofs.Pieces.{child_depth, child_within, many_next}
use Rattle.ivp_problem.proofs.KeyOrder.{true_at_most}
use Rattle.ivp_cert.specs.declared.cert.Line.{Line}
use Rattle.ivp_cert.specs.Certificates.{line_of, topmost}
use Rattle.ivp_cert.specs.Walks.{behind_child, behind_each, behind_node, behind_own, is_line_of}
use Rattle.ivp_cert.proofs.Walking.{below_by, into}

-- the next function of a node, and those behind it
record Next (problem : WeightedSum) (node : Node) (pieces : ℕ) : Type 0 where
  pub term : Term
  pub stands : slice_get problem.terms node.depth ≡ Some term
  pub rest : drop node.depth problem.terms ≡ term ∷ drop (node.depth + 1) problem.terms
  pub many : pieces ≡ length term.func.pieces

-- as the code counts its pieces
abbrev pub Counts : WeightedSum → Node → ℕ → Type 0
Counts problem node pieces = IfSome (next_of problem node) (λ term. pieces ≡ length term.func.pieces)

next : (problem : WeightedSum) (node : Node) (pieces : ℕ) → node.depth < length problem.terms → Counts problem node pieces → Next problem node pieces
next problem node pieces below counts =
    let term = get_or problem.terms node.depth blank_term in
    let stands = slice_get-get_or problem.terms node.depth blank_term below in
    record {
      term = term;
      stands = stands;
      rest = drop-cons problem.terms node.depth blank_term below ∙ ap (λ n. term ∷ drop n problem.terms) (sym (add-one node.depth));
      many = subst (λ (o : Option Term). IfSome o (λ t. pieces ≡ length t.func.pieces)) stands counts;
    }

-- as many pieces as the next function has
own_count : (problem : WeightedSum) (node : Node) → node.depth < length problem.terms → Counts problem node (many_next problem node)
own_count problem node below = rw (slice_get-get_or problem.terms node.depth blank_term below) refl

-- the walk over the children from a piece on
abbrev onward_in : WeightedSum → Key → List ℕ → Node → ℕ → List Line → List Term → Option (List Line)
onward_in problem key path node low lines [] = None
onward_in problem key path node low lines (term ∷ terms) = behind_each (into problem key term terms path node) low (length term.func.pieces - low) lines

abbrev pub onward : WeightedSum → Key → List ℕ → Node → ℕ → List Line → Option (List Line)
onward problem key path node low lines = onward_in problem key path node low lines (drop node.depth problem.terms)

-- what the walk says of a child
abbrev pub behind_child_of : WeightedSum → Key → List ℕ → Node → ℕ → List Line → Option (List Line)
behind_child_of problem key path child number lines = behind_node problem key (drop child.depth problem.terms) (path ++ number ∷ []) child lines

each_next : (go : ℕ → List Line → Option (List Line)) (low n : ℕ) (lines : List Line) → low < n → behind_each go low (n - low) lines ≡ option_and_then (behind_each go (low + 1) (n - (low + 1))) (go low lines)
each_next go low n lines within =
    let e : n - low ≡ suc (n - (low + 1)) = omega arith in
    ap (λ c. behind_each go low c lines) e ∙ ap (λ l. option_and_then (behind_each go l (n - (low + 1))) (go low lines)) (sym (add-one low))

pub onward_start : (problem : WeightedSum) (key : Key) (path : List ℕ) (node : Node) (lines : List Line) → node.depth < length problem.terms → behind_own problem key path node lines ≡ None → behind_node problem key (drop node.depth problem.terms) path node lines ≡ onward problem key path node 0 lines
onward_start problem key path node lines below none =
    let at = next problem node (many_next problem node) below (own_count problem node below) in
    let term = at.term in
    let terms = drop (node.depth + 1) problem.terms in
    let all : length term.func.pieces ≡ length term.func.pieces - 0 = omega arith in
    let first : behind_node problem key (term ∷ terms) path node lines ≡ behind_each (into problem key term terms path node) 0 (length term.func.pieces) lines = rw none refl in
    ap (λ ts. behind_node problem key ts path node lines) at.rest ∙ (first ∙ (ap (λ n. behind_each (into problem key term terms path node) 0 n lines) all ∙ ap (onward_in problem key path node 0 lines) (sym at.rest)))

pub onward_full : (problem : WeightedSum) (key : Key) (path : List ℕ) (node : Node) (lines : List Line) → length problem.terms ≤ node.depth → behind_own problem key path node lines ≡ None → behind_node problem key (drop node.depth problem.terms) path node lines ≡ None
onward_full problem key path node lines full none = let past : drop node.depth problem.terms ≡ [] = drop_all node.depth problem.terms full in rw (past, none) refl

pub onward_own : (problem : WeightedSum) (key : Key) (path : List ℕ) (node : Node) (lines rest : List Line) (terms : List Term) → behind_own problem key path node lines ≡ Some rest → behind_node problem key terms path node lines ≡ Some rest
onward_own problem key path node lines rest [] own = own
onward_own problem key path node lines rest (term ∷ terms) own = rw own refl

pub onward_none : (problem : WeightedSum) (key : Key) (path : List ℕ) (node : Node) (pieces low : ℕ) (lines : List Line) → node.depth < length problem.terms → Counts problem node pieces → low < pieces → child_of problem node low ≡ None → onward problem key path node low lines ≡ onward problem key path node (low + 1) lines
onward_none problem key path node pieces low lines below counts within none =
    let at = next problem node pieces below counts in
    let is : child_in at.term node low ≡ None = sym (child_of_in problem node at.term low at.stands) ∙ none in
    let step = each_next (into problem key at.term (drop (node.depth + 1) problem.terms) path node) low (length at.term.func.pieces) lines (omega (arith, at.many)) in
    rw at.rest (step ∙ rw is refl)

onward_in_some : (problem : WeightedSum) (key : Key) (path : List ℕ) (node child : Node) (term : Term) (terms : List Term) (low : ℕ) (lines : List Line) → low < length term.func.pieces → child_in term node low ≡ Some child → onward_in problem key path node low lines (term ∷ terms) ≡ option_and_then (λ ls. onward_in problem key path node (low + 1) ls (term ∷ terms)) (behind_node problem key terms (path ++ low ∷ []) child lines)
onward_in_some problem key path node child term terms low lines within is =
    let go = into problem key term terms path node in
    each_next go low (length term.func.pieces) lines within
    ∙ ap (λ o. option_and_then (behind_each go (low + 1) (length term.func.pieces - (low + 1))) (behind_child (behind_node problem key terms (path ++ low ∷ [])) o lines)) is

pub onward_some : (problem : WeightedSum) (key : Key) (path : List ℕ) (node child : Node) (pieces low : ℕ) (lines : List Line) → node.depth < length problem.terms → Counts problem node pieces → low < pieces → child_of problem node low ≡ Some child → onward problem key path node low lines ≡ option_and_then (onward problem key path node (low + 1)) (behind_child_of problem key path child low lines)
onward_some problem key path node child pieces low lines below counts within some =
    let at = next problem node pieces below counts in
    let is : child_in at.term node low ≡ Some child = sym (child_of_in problem node at.term low at.stands) ∙ some in
    let deep : drop (node.depth + 1) problem.terms ≡ drop child.depth problem.terms = ap (λ d. drop d problem.terms) (sym (child_depth problem node child low some)) in
    let first = behind_node problem key (drop (node.depth + 1) problem.terms) (path ++ low ∷ []) child lines in
    ap (onward_in problem key path node low lines) at.rest
    ∙ (onward_in_some problem key path node child at.term (drop (node.depth + 1) problem.terms) low lines (omega (arith, at.many)) is
    ∙ (ap (λ ts. option_and_then (λ ls. onward_in problem key path node (low + 1) ls ts) first) (sym at.rest)
    ∙ ap (λ ts. option_and_then (onward problem key path node (low + 1)) (behind_node problem key ts (path ++ low ∷ []) child lines)) deep))

pub onward_end : (problem : WeightedSum) (key : Key) (path : List ℕ) (node : Node) (pieces low : ℕ) (lines : List Line) → node.depth < length problem.terms → Counts problem node pieces → pieces ≤ low → onward problem key path node low lines ≡ Some lines
onward_end problem key path node pieces low lines below counts past =
    let at = next problem node pieces below counts in
    let none : length at.term.func.pieces - low ≡ 0 = omega (arith, at.many) in
    rw (at.rest, none) refl

-- pieces that make no child are passed
onward_skip : (problem : WeightedSum) (key : Key) (path : List ℕ) (node : Node) (from low : ℕ) (lines : List Line) → node.depth < length problem.terms → from ≤ low → low ≤ many_next problem node → ((m : ℕ) → from ≤ m → m < low → child_of problem node m ≡ None) → onward problem key path node from lines ≡ onward problem key path node low lines
onward_skip problem key path node from zero lines below up within none = let same : from ≡ zero = omega arith in ap (λ n. onward problem key path node n lines) same
onward_skip problem key path node from (suc low) lines below up within none =
    elim (cases_lt from (suc low)) [
      | inl more ↦
          onward_skip problem key path node from low lines below (omega arith) (omega arith) (λ m above under. none m above (omega arith))
          ∙ (onward_none problem key path node (many_next problem node) low lines below (own_count problem node below) (omega arith) (none low (omega arith) (omega arith)) ∙ ap (λ n. onward problem key path node n lines) (add-one low))
      | inr here ↦ let same : from ≡ suc low = omega arith in ap (λ n. onward problem key path node n lines) same
    ]

pub onward_last : (problem : WeightedSum) (key : Key) (path : List ℕ) (node : Node) (from : ℕ) (lines : List Line) → node.depth < length problem.terms → ((m : ℕ) → from ≤ m → child_of problem node m ≡ None) → onward problem key path node from lines ≡ Some lines
onward_last problem key path node from lines below none =
    let many = many_next problem node in
    elim (cases_lt from many) [
      | inl within ↦ onward_skip problem key path node from many lines below (omega arith) (omega arith) (λ m above under. none m above) ∙ onward_end problem key path node many many lines below (own_count problem node below) (omega arith)
      | inr past ↦ onward_end problem key path node many from lines below (own_count problem node below) past
    ]

-- a path without the number that was added
pub popped : (path : List ℕ) (number : ℕ) → take (length (path ++ number ∷ []) - 1) (path ++ number ∷ []) ≡ path
popped path number =
    let n : length (path ++ number ∷ []) - 1 ≡ length path = omega (arith, length-append path (number ∷ [])) in
    rw n (take-append-le (length path) path (number ∷ []) (omega arith) ∙ take_all (length path) path (omega arith))

-- the lines of the children from a piece on
abbrev left_in : WeightedSum → Key → List ℕ → Node → ℕ → List Term → List Line
left_in problem key path node low [] = []
left_in problem key path node low (term ∷ terms) = flat_map (below_by problem key term terms path node) (numbers_from low (length term.func.pieces - low))

abbrev pub left : WeightedSum → Key → List ℕ → Node → ℕ → List Line
left problem key path node low = left_in problem key path node low (drop node.depth problem.terms)

abbrev pub topmost_of : WeightedSum → Key → List ℕ → Node → List Line
topmost_of problem key path node = topmost problem key (drop node.depth problem.terms) path node

pub topmost_own : (problem : WeightedSum) (key : Key) (path : List ℕ) (node : Node) (terms : List Term) → AtMost (bound_of problem node) key → topmost problem key terms path node ≡ line_of problem path node ∷ []
topmost_own problem key path node [] h = rw (true_at_most (bound_of problem node) key h) refl
topmost_own problem key path node (term ∷ terms) h = rw (true_at_most (bound_of problem node) key h) refl

pub left_full : (problem : WeightedSum) (key : Key) (path : List ℕ) (node : Node) → length problem.terms ≤ node.depth → is_at_most (bound_of problem node) key ≡ false → topmost_of problem key path node ≡ []
left_full problem key path node full h = let past : drop node.depth problem.terms ≡ [] = drop_all node.depth problem.terms full in rw (past, h) refl

pub left_start : (problem : WeightedSum) (key : Key) (path : List ℕ) (node : Node) → node.depth < length problem.terms → is_at_most (bound_of problem node) key ≡ false → topmost_of problem key path node ≡ left problem key path node 0
left_start problem key path node below h =
    let at = next problem node (many_next problem node) below (own_count problem node below) in
    let term = at.term in
    let terms = drop (node.depth + 1) problem.terms in
    let all : length term.func.pieces ≡ length term.func.pieces - 0 = omega arith in
    let first : topmost problem key (term ∷ terms) path node ≡ flat_map (below_by problem key term terms path node) (numbers_from 0 (length term.func.pieces)) = rw (h) refl in
    ap (λ ts. topmost problem key ts path node) at.rest ∙ (first ∙ (ap (λ n. flat_map (below_by problem key term terms path node) (numbers_from 0 n)) all ∙ ap (left_in problem key path node 0) (sym at.rest)))

numbers_next : (f : ℕ → List Line) (low n : ℕ) → low < n → flat_map f (numbers_from low (n - low)) ≡ f low ++ flat_map f (numbers_from (low + 1) (n - (low + 1)))
numbers_next f low n h =
    let e : n - low ≡ suc (n - (low + 1)) = omega arith in
    ap (λ c. flat_map f (numbers_from low c)) e ∙ ap (λ l. f low ++ flat_map f (numbers_from l (n - (low + 1)))) (sym (add-one low))

pub left_none : (problem : WeightedSum) (key : Key) (path : List ℕ) (node : Node) (pieces low : ℕ) → node.depth < length problem.terms → Counts problem node pieces → low < pieces → child_of problem node low ≡ None → left problem key path node low ≡ left problem key path node (low + 1)
left_none problem key path node pieces low below counts few none =
    let at = next problem node pieces below counts in
    let is : child_in at.term node low ≡ None = sym (child_of_in problem node at.term low at.stands) ∙ none in
    let step = numbers_next (below_by problem key at.term (drop (node.depth + 1) problem.terms) path node) low (length at.term.func.pieces) (omega (arith, at.many)) in
    rw at.rest (step ∙ rw is refl)

left_in_some : (problem : WeightedSum) (key : Key) (path : List ℕ) (node child : Node) (term : Term) (terms : List Term) (low : ℕ) → low < length term.func.pieces → child_in term node low ≡ Some child → left_in problem key path node low (term ∷ terms) ≡ topmost problem key terms (path ++ low ∷ []) child ++ left_in problem key path node (low + 1) (term ∷ terms)
left_in_some problem key path node child term terms low within is =
    let others = flat_map (below_by problem key term terms path node) (numbers_from (low + 1) (length term.func.pieces - (low + 1))) in
    numbers_next (below_by problem key term terms path node) low (length term.func.pieces) within
    ∙ (ap (λ o. flat_map (topmost problem key terms (path ++ low ∷ [])) (option_to_list o) ++ others) is ∙ ap (λ ls. ls ++ others) (append-nil (topmost problem key terms (path ++ low ∷ []) child)))

pub left_some : (problem : WeightedSum) (key : Key) (path : List ℕ) (node child : Node) (pieces low : ℕ) → node.depth < length problem.terms → Counts problem node pieces → low < pieces → child_of problem node low ≡ Some child → left problem key path node low ≡ topmost_of problem key (path ++ low ∷ []) child ++ left problem key path node (low + 1)
left_some problem key path node child pieces low below counts few some =
    let at = next problem node pieces below counts in
    let is : child_in at.term node low ≡ Some child = sym (child_of_in problem node at.term low at.stands) ∙ some in
    let deep : drop (node.depth + 1) problem.terms ≡ drop child.depth problem.terms = ap (λ d. drop d problem.terms) (sym (child_depth problem node child low some)) in
    ap (left_in problem key path node low) at.rest
    ∙ (left_in_some problem key path node child at.term (drop (node.depth + 1) problem.terms) low (omega (arith, at.many)) is
    ∙ (ap (λ ts. topmost problem key (drop (node.depth + 1) problem.terms) (path ++ low ∷ []) child ++ left_in problem key path node (low + 1) ts) (sym at.rest)
    ∙ ap (λ ts. topmost problem key ts (path ++ low ∷ []) child ++ left problem key path node (low + 1)) deep))

pub left_end : (problem : WeightedSum) (key : Key) (path : List ℕ) (node : Node) (pieces low : ℕ) → node.depth < length problem.terms → Counts problem node pieces → pieces ≤ low → left problem key path node low ≡ []
left_end problem key path node pieces low below counts past =
    let at = next problem node pieces below counts in
    let none : length at.term.func.pieces - low ≡ 0 = omega (arith, at.many) in
    rw (at.rest, none) refl

left_skip : (problem : WeightedSum) (key : Key) (path : List ℕ) (node : Node) (from low : ℕ) → node.depth < length problem.terms → from ≤ low → low ≤ many_next problem node → ((m : ℕ) → from ≤ m → m < low → child_of problem node m ≡ None) → left problem key path node from ≡ left problem key path node low
left_skip problem key path node from zero below up within none = let same : from ≡ zero = omega arith in ap (left problem key path node) same
left_skip problem key path node from (suc low) below up within none =
    elim (cases_lt from (suc low)) [
      | inl more ↦
          left_skip problem key path node from low below (omega arith) (omega arith) (λ m above under. none m above (omega arith))
          ∙ (left_none problem key path node (many_next problem node) low below (own_count problem node below) (omega arith) (none low (omega arith) (omega arith)) ∙ ap (left problem key path node) (add-one low))
      | inr here ↦ let same : from ≡ suc low = omega arith in ap (left problem key path node) same
    ]

pub left_last : (problem : WeightedSum) (key : Key) (path : List ℕ) (node : Node) (from : ℕ) → node.depth < length problem.terms → ((m : ℕ) → from ≤ m → child_of problem node m ≡ None) → left problem key path node from ≡ []
left_last problem key path node from below none =
    let many = many_next problem node in
    elim (cases_lt from many) [
      | inl within ↦ left_skip problem key path node from many below (omega arith) (omega arith) (λ m above under. none m above) ∙ left_end problem key path node many many below (own_count problem node below) (omega arith)
      | inr past ↦ left_end problem key path node many from below (own_count problem node below) past
    ]

pub own_at : (problem : WeightedSum) (key : Key) (path : List ℕ) (node : Node) (cert : List Line) (place : ℕ) (line : Line) → slice_get cert place ≡ Some line → is_line_of problem key path node line ≡ true → Some (drop (place + 1) cert) ≡ behind_own problem key path node (drop place cert)
own_at problem key path node cert place line at own = sym (ap (behind_own problem key path node) (drop_at cert place line at) ∙ rw own refl)

pub own_other : (problem : WeightedSum) (key : Key) (path : List ℕ) (node : Node) (cert : List Line) (place : ℕ) (line : Line) → slice_get cert place ≡ Some line → is_line_of problem key path node line ≡ false → None ≡ behind_own problem key path node (drop place cert)
own_other problem key path node cert place line at own = sym (ap (behind_own problem key path node) (drop_at cert place line at) ∙ rw own refl)

pub own_past : (problem : WeightedSum) (key : Key) (path : List ℕ) (node : Node) (cert : List Line) (place : ℕ) → length cert ≤ place → None ≡ behind_own problem key path node (drop place cert)
own_past problem key path node cert place past = sym (ap (behind_own problem key path node) (drop_all place cert past))

-- a piece further down the path is one longer
pub one_longer : (path pushed : List ℕ) (number : ℕ) → pushed ≡ path ++ number ∷ [] → length pushed ≡ length path + 1
one_longer path pushed number more = ap length more ∙ length-append path (number ∷ [])

-- the path after a walk into a child
pub popped_back : (path pushed back : List ℕ) (number : ℕ) → pushed ≡ path ++ number ∷ [] → back ≡ take (length pushed - 1) pushed → back ≡ path
popped_back path pushed back number more less = less ∙ (ap (λ p. take (length p - 1) p) more ∙ popped path number)

-- what a child's walk comes to, for the whole
pub child_fails : (problem : WeightedSum) (key : Key) (path pushed : List ℕ) (node child : Node) (from low : ℕ) (lines : List Line) (whole : Option (List Line)) → node.depth < length problem.terms → from ≤ low → ((m : ℕ) → from ≤ m → m < low → child_of problem node m ≡ None) → whole ≡ onward problem key path node from lines → child_of problem node low ≡ Some child → pushed ≡ path ++ low ∷ [] → None ≡ behind_node problem key (drop child.depth problem.terms) pushed child lines → None ≡ whole
child_fails problem key path pushed node child from low lines whole below up skipped onto is more none =
    let within = child_within problem node child low below is in
    let there : behind_child_of problem key path child low lines ≡ None = ap (λ p. behind_node problem key (drop child.depth problem.terms) p child lines) (sym more) ∙ sym none in
    sym (onto ∙ (onward_skip problem key path node from low lines below up (omega arith) skipped ∙ (onward_some problem key path node child (many_next problem node) low lines below (own_count problem node below) within is ∙ ap (option_and_then (onward problem key path node (low + 1))) there)))

pub child_passes : (problem : WeightedSum) (key : Key) (path pushed : List ℕ) (node child : Node) (from low : ℕ) (lines rest : List Line) (whole : Option (List Line)) → node.depth < length problem.terms → from ≤ low → ((m : ℕ) → from ≤ m → m < low → child_of problem node m ≡ None) → whole ≡ onward problem key path node from lines → child_of problem node low ≡ Some child → pushed ≡ path ++ low ∷ [] → Some rest ≡ behind_node problem key (drop child.depth problem.terms) pushed child lines → whole ≡ onward problem key path node (low + 1) rest
child_passes problem key path pushed node child from low lines rest whole below up skipped onto is more some =
    let within = child_within problem node child low below is in
    let there : behind_child_of problem key path child low lines ≡ Some rest = ap (λ p. behind_node problem key (drop child.depth problem.terms) p child lines) (sym more) ∙ sym some in
    onto ∙ (onward_skip problem key path node from low lines below up (omega arith) skipped ∙ (onward_some problem key path node child (many_next problem node) low lines below (own_count problem node below) within is ∙ ap (option_and_then (onward problem key path node (low + 1))) there))

-- the whole tree
pub whole_tree : (problem : WeightedSum) (key : Key) (key' : Key) (root : Node) (path : List ℕ) (cert : List Line) (out : Option (List Line)) → root ≡ root_of problem → path ≡ [] → key ≡ key' → out ≡ behind_node problem key (drop root.depth problem.terms) path root cert → out ≡ behind_node problem key' problem.terms [] (root_of problem) cert
whole_tree problem key key' root path cert out at none same walk =
    walk
    ∙ (ap (λ (r : Node). behind_node problem key (drop r.depth problem.terms) path r cert) at
    ∙ (ap (λ p. behind_node problem key problem.terms p (root_of problem) cert) none ∙ ap (λ k. behind_node problem k problem.terms [] (root_of problem) cert) same))

-- no line is left where the place is the last
pub at_end : (cert : List Line) (place : ℕ) → place ≤ length cert → Some (drop place cert) ≡ Some [] → place ≡ length cert
at_end cert place within e = let none : drop place cert ≡ [] = cc in omega (arith, ap length none, length-drop place cert)

-- the lines with those of a child
pub child_added : (problem : WeightedSum) (key : Key) (path pushed : List ℕ) (node child : Node) (from low : ℕ) (cert after : List Line) → node.depth < length problem.terms → from ≤ low → ((m : ℕ) → from ≤ m → m < low → child_of problem node m ≡ None) → child_of problem node low ≡ Some child → pushed ≡ path ++ low ∷ [] → after ≡ cert ++ topmost problem key (drop child.depth problem.terms) pushed child → cert ++ left problem key path node from ≡ after ++ left problem key path node (low + 1)
child_added problem key path pushed node child from low cert after below up skipped is more added =
    let within = child_within problem node child low below is in
    let others = left problem key path node (low + 1) in
    let own : after ≡ cert ++ topmost_of problem key (path ++ low ∷ []) child = added ∙ ap (λ p. cert ++ topmost problem key (drop child.depth problem.terms) p child) more in
    ap (λ ls. cert ++ ls) (left_skip problem key path node from low below up (omega arith) skipped ∙ left_some problem key path node child (many_next problem node) low below (own_count problem node below) within is)
    ∙ (sym (append_assoc cert (topmost_of problem key (path ++ low ∷ []) child) others) ∙ ap (λ ls. ls ++ others) (sym own))

-- the lines with the node's own
pub own_added : (problem : WeightedSum) (key : Key) (path numbers : List ℕ) (node : Node) (bound : Key) (cert after : List Line) → bound ≡ bound_of problem node → numbers ≡ path → AtMost (bound_of problem node) key → after ≡ cert ++ record { path = numbers; sum = bound.sum; index = bound.index } ∷ [] → after ≡ cert ++ topmost_of problem key path node
own_added problem key path numbers node bound cert after is same most added =
    added
    ∙ (ap (λ n. cert ++ record { path = numbers; sum = n.sum; index = n.index } ∷ []) is
    ∙ (ap (λ p. cert ++ line_of problem p node ∷ []) same ∙ ap (λ ls. cert ++ ls) (sym (topmost_own problem key path node (drop node.depth problem.terms) most))))
