-- The walk over the tree finds the lines that cover a node, and no others.
use Rattle.std.proofs.Common.{◌≡◌, ℕ, zero, suc, ◌+◌, Bool, true, false, cond, ◌&&◌, ◌==◌, Option, Some, None, List, [], ◌∷◌, ◌++◌, length, refl, sym, ap, subst, ◌∙◌, arith, append_assoc, append-nil}
use Rattle.std.specs.List.{flat_map}
use Rattle.std.specs.Option.{option_and_then, option_to_list}
use Rattle.std.specs.Str.{bytes_eq}
use Rattle.std.proofs.lemmas.Bool.{and_from, and_parts, eq-eqb, eqb-true, false_from_ne_true}
use Rattle.std.proofs.lemmas.Option.{option_and_then_some}
use Rattle.std.proofs.lemmas.Slice.Eq.{bytes_eq-Decides}
use Rattle.ivp_domain.specs.Boxes.{numbers_from}
use Rattle.ivp_problem.specs.declared.node.Node.{Node}
use Rattle.ivp_problem.specs.declared.term.Term.{Term}
use Rattle.ivp_problem.specs.Problems.{IsProblem, WeightedSum}
use Rattle.ivp_problem.specs.Trees.{bound_of, child_in}
use Rattle.ivp_problem.specs.Keys.{AtMost, is_at_most}
use Rattle.ivp_problem.specs.declared.key.Key.{Key}
use Rattle.ivp_problem.proofs.KeyOrder.{at_most_true, true_at_most}
use Rattle.ivp_cert.specs.declared.cert.Line.{Line}
use Rattle.ivp_cert.specs.Certificates.{line_of, topmost}
use Rattle.ivp_cert.specs.Walks.{behind_child, behind_each, behind_node, behind_own, is_line_of, or_else}
use Rattle.ivp_cert.proofs.Covering.{Anyhow, Covers, covers_all, covers_join, covers_none, covers_own, covers_skip, From, IsUnder, Under}
use Rattle.ivp_cert.proofs.Leaves.{child_reached, Reached, some_leaf}
use Rattle.ivp_cert.proofs.Parting.{covers_alone, covers_below, covers_last, covers_part, covers_pass}

-- the test on one line
own_line : (problem : WeightedSum) (key : Key) (terms : List Term) (path : List ℕ) (node : Node) (line : Line) → is_line_of problem key path node line ≡ true → IsUnder problem key terms path node line []
own_line problem key terms path node line h =
    let bound = bound_of problem node in
    let one = and_parts (bytes_eq line.path path && line.sum == bound.sum && line.index == bound.index) (is_at_most bound key) h in
    let two = and_parts (bytes_eq line.path path && line.sum == bound.sum) (line.index == bound.index) one.0 in
    let three = and_parts (bytes_eq line.path path) (line.sum == bound.sum) two.0 in
    let same : line.path ≡ path = (bytes_eq-Decides line.path path).0 three.0 in
    record {
      split = same ∙ sym (append-nil path);
      below = node;
      reached = refl;
      sum = eqb-true line.sum (bound.sum) three.1;
      index = eqb-true line.index (bound.index) two.1;
      most = at_most_true bound key one.1;
    }

line_own : (problem : WeightedSum) (key : Key) (terms : List Term) (path : List ℕ) (node : Node) (line : Line) → IsUnder problem key terms path node line [] → is_line_of problem key path node line ≡ true
line_own problem key terms path node line own =
    let same : node ≡ own.below = let e = own.reached in cc in
    let bound = bound_of problem node in
    let is : bound_of problem own.below ≡ bound = ap (bound_of problem) (sym same) in
    let path_is : bytes_eq line.path path ≡ true = (bytes_eq-Decides line.path path).1 (own.split ∙ append-nil path) in
    let sum_is = eq-eqb line.sum (bound.sum) (own.sum ∙ ap (λ (k : Key). k.sum) is) in
    let index_is = eq-eqb line.index (bound.index) (own.index ∙ ap (λ (k : Key). k.index) is) in
    let most_is = true_at_most bound key (subst (λ (k : Key). AtMost k key) is own.most) in
    and_from (bytes_eq line.path path && line.sum == bound.sum && line.index == bound.index) (is_at_most bound key)
    (and_from (bytes_eq line.path path && line.sum == bound.sum) (line.index == bound.index) (and_from (bytes_eq line.path path) (line.sum == bound.sum) path_is sum_is) index_is) most_is

-- a line of a node below isn't this node's
line_below : (problem : WeightedSum) (key : Key) (path : List ℕ) (node : Node) (line : Line) (number : ℕ) (more : List ℕ) → line.path ≡ path ++ number ∷ more → is_line_of problem key path node line ≡ false
line_below problem key path node line number more split =
    false_from_ne_true (is_line_of problem key path node line) (λ e. let own = own_line problem key [] path node line e in longer path (sym split ∙ (own.split ∙ append-nil path)))
  where
    longer : (xs : List ℕ) → xs ++ number ∷ more ≡ xs → ⊥
    longer [] e = absurd (cc)
    longer (x ∷ xs) e = let tail : xs ++ number ∷ more ≡ xs = cc in absurd (omega (arith, ap length tail, simple xs))
      where
        simple : (ys : List ℕ) → length (ys ++ number ∷ more) ≡ length ys + suc (length more)
        simple [] = omega arith
        simple (y ∷ ys) = omega (arith, simple ys)

-- what the walk says of a node, as it is handed to the walk over its children
abbrev Walks : WeightedSum → Key → List Term → List ℕ → Type 0
Walks problem key terms path = (child : Node) (number : ℕ) (lines rest : List Line) → Reached problem terms (path ++ number ∷ []) child → Covers Anyhow problem key terms (path ++ number ∷ []) child lines → behind_node problem key terms (path ++ number ∷ []) child (lines ++ rest) ≡ Some rest

abbrev pub into : WeightedSum → Key → Term → List Term → List ℕ → Node → ℕ → List Line → Option (List Line)
into problem key term terms path node number = behind_child (behind_node problem key terms (path ++ number ∷ [])) (child_in term node number)

each_walk : (problem : WeightedSum) (key : Key) (term : Term) (terms : List Term) (path : List ℕ) (node : Node) → Walks problem key terms path → Reached problem (term ∷ terms) path node → (low count : ℕ) (lines rest : List Line) → low + count ≡ length term.func.pieces → Covers (From low) problem key (term ∷ terms) path node lines → behind_each (into problem key term terms path node) low count (lines ++ rest) ≡ Some rest
each_walk problem key term terms path node walks at low zero lines rest all covers =
    let none = covers_last problem key term terms path node low lines (omega (arith, all)) covers in ap (λ ls. Some (ls ++ rest)) none
each_walk problem key term terms path node walks at low (suc count) lines rest all covers = by (child_in term node low) refl (each_walk problem key term terms path node walks at (suc low) count)
  where
    next : suc low + count ≡ length term.func.pieces
    next = omega (arith, all)

    by : (o : Option Node) → child_in term node low ≡ o → ((ls rs : List Line) → suc low + count ≡ length term.func.pieces → Covers (From (suc low)) problem key (term ∷ terms) path node ls → behind_each (into problem key term terms path node) (suc low) count (ls ++ rs) ≡ Some rs) → option_and_then (behind_each (into problem key term terms path node) (suc low) count) (into problem key term terms path node low (lines ++ rest)) ≡ Some rest
    by None e later = rw e (later lines rest next (covers_pass problem key term terms path node low lines e covers))
    by (Some child) e later =
        let parts = covers_part problem key term terms path node child low lines e covers in
        let first = walks child low parts.firsts (parts.rest ++ rest) (child_reached problem term terms path node child low at e) parts.one in
        let whole : lines ++ rest ≡ parts.firsts ++ (parts.rest ++ rest) = ap (λ ls. ls ++ rest) parts.whole ∙ append_assoc parts.firsts parts.rest rest in
        rw (e, whole, first) (later parts.rest rest next parts.others)

-- lines that cover a node are walked past
pub covers_walk : (problem : WeightedSum) (key : Key) (terms : List Term) (path : List ℕ) (node : Node) (lines rest : List Line) → IsProblem problem → Reached problem terms path node → Covers Anyhow problem key terms path node lines → behind_node problem key terms path node (lines ++ rest) ≡ Some rest
covers_walk problem key terms path node [] rest h at covers =
    let leaf = (some_leaf problem terms path node h at).1 in
    let once = covers.once leaf.path leaf.leaf tt leaf.reached leaf.full in
    absurd (omega (arith, once))
covers_walk problem key [] path node (line ∷ lines) rest h at covers = by covers.under.0
  where
    by : Under Anyhow problem key [] path node line → behind_node problem key [] path node (line ∷ (lines ++ rest)) ≡ Some rest
    by ([], any, own) =
        let alone = covers_alone problem key [] path node line lines h at own covers in
        rw (line_own problem key [] path node line own) (ap (λ ls. Some (ls ++ rest)) alone)
    by (number ∷ more, any, own) = let e = own.reached in absurd (cc)
covers_walk problem key (term ∷ terms) path node (line ∷ lines) rest h at covers =
    by (λ child number ls rs reached of. covers_walk problem key terms (path ++ number ∷ []) child ls rs h reached of) covers.under.0
  where
    by : Walks problem key terms path → Under Anyhow problem key (term ∷ terms) path node line → behind_node problem key (term ∷ terms) path node (line ∷ (lines ++ rest)) ≡ Some rest
    by walks ([], any, own) =
        let alone = covers_alone problem key (term ∷ terms) path node line lines h at own covers in
        rw (line_own problem key (term ∷ terms) path node line own) (ap (λ ls. Some (ls ++ rest)) alone)
    by walks (number ∷ more, any, own) =
        rw (line_below problem key path node line number more own.split)
        (each_walk problem key term terms path node walks at 0 (length term.func.pieces) (line ∷ lines) rest (omega arith) (covers_below problem key (term ∷ terms) path node line lines number more own covers))

-- lines that were walked past cover the node
pub record Past (P : List ℕ → Type 0) (problem : WeightedSum) (key : Key) (terms : List Term) (path : List ℕ) (node : Node) (lines rest : List Line) : Type 0 where
  pub passed : List Line
  pub whole : lines ≡ passed ++ rest
  pub covers : Covers P problem key terms path node passed

own_past : (problem : WeightedSum) (key : Key) (terms : List Term) (path : List ℕ) (node : Node) (lines rest : List Line) → behind_own problem key path node lines ≡ Some rest → Past Anyhow problem key terms path node lines rest
own_past problem key terms path node [] rest e = absurd (cc)
own_past problem key terms path node (line ∷ lines) rest e = by (is_line_of problem key path node line) refl e
  where
    by : (b : Bool) → is_line_of problem key path node line ≡ b → cond b (Some lines) None ≡ Some rest → Past Anyhow problem key terms path node (line ∷ lines) rest
    by true is e = let same : lines ≡ rest = cc in record { passed = line ∷ []; whole = ap (λ ls. line ∷ ls) same; covers = covers_own problem key terms path node line (own_line problem key terms path node line is) }
    by false is e = absurd (cc)

abbrev Finds : WeightedSum → Key → List Term → List ℕ → Type 0
Finds problem key terms path = (child : Node) (number : ℕ) (lines rest : List Line) → behind_node problem key terms (path ++ number ∷ []) child lines ≡ Some rest → Past Anyhow problem key terms (path ++ number ∷ []) child lines rest

each_past : (problem : WeightedSum) (key : Key) (term : Term) (terms : List Term) (path : List ℕ) (node : Node) → Finds problem key terms path → (low count : ℕ) (lines rest : List Line) → low + count ≡ length term.func.pieces → behind_each (into problem key term terms path node) low count lines ≡ Some rest → Past (From low) problem key (term ∷ terms) path node lines rest
each_past problem key term terms path node finds low zero lines rest all e =
    let same : lines ≡ rest = cc in record { passed = []; whole = same; covers = covers_none problem key term terms path node low (omega (arith, all)) }
each_past problem key term terms path node finds low (suc count) lines rest all e =
    by (child_in term node low) refl (each_past problem key term terms path node finds (suc low) count) e
  where
    next : suc low + count ≡ length term.func.pieces
    next = omega (arith, all)

    by : (o : Option Node) → child_in term node low ≡ o → ((ls rs : List Line) → suc low + count ≡ length term.func.pieces → behind_each (into problem key term terms path node) (suc low) count ls ≡ Some rs → Past (From (suc low)) problem key (term ∷ terms) path node ls rs) → option_and_then (behind_each (into problem key term terms path node) (suc low) count) (behind_child (behind_node problem key terms (path ++ low ∷ [])) o lines) ≡ Some rest → Past (From low) problem key (term ∷ terms) path node lines rest
    by None is later e =
        let more = later lines rest next e in
        record { passed = more.passed; whole = more.whole; covers = covers_skip problem key term terms path node low more.passed is more.covers }
    by (Some child) is later e =
        option_and_then_some (behind_each (into problem key term terms path node) (suc low) count) (behind_node problem key terms (path ++ low ∷ []) child lines) rest e
        (λ mid first second.
        let one = finds child low lines mid first in
        let more = later mid rest next second in
        record {
          passed = one.passed ++ more.passed;
          whole = one.whole ∙ (ap (λ ls. one.passed ++ ls) more.whole ∙ sym (append_assoc one.passed more.passed rest));
          covers = covers_join problem key term terms path node child low one.passed more.passed is one.covers more.covers;
        })

pub walk_covers : (problem : WeightedSum) (key : Key) (terms : List Term) (path : List ℕ) (node : Node) (lines rest : List Line) → behind_node problem key terms path node lines ≡ Some rest → Past Anyhow problem key terms path node lines rest
walk_covers problem key [] path node lines rest e = own_past problem key [] path node lines rest e
walk_covers problem key (term ∷ terms) path node lines rest e =
    by (behind_own problem key path node lines) refl e (λ child number ls rs walked. walk_covers problem key terms (path ++ number ∷ []) child ls rs walked)
  where
    by : (o : Option (List Line)) → behind_own problem key path node lines ≡ o → or_else o (behind_each (into problem key term terms path node) 0 (length term.func.pieces) lines) ≡ Some rest → Finds problem key terms path → Past Anyhow problem key (term ∷ terms) path node lines rest
    by (Some own) is e finds = own_past problem key (term ∷ terms) path node lines rest (is ∙ e)
    by None is e finds =
        let past = each_past problem key term terms path node finds 0 (length term.func.pieces) lines rest (omega arith) e in
        record { passed = past.passed; whole = past.whole; covers = covers_all problem key term terms path node past.passed past.covers }

-- the lines of the topmost nodes cover a node
abbrev Attains : WeightedSum → Key → Type 0
Attains problem key = (path : List ℕ) (node : Node) → Reached problem [] path node → AtMost (bound_of problem node) key

top_line : (problem : WeightedSum) (key : Key) (terms : List Term) (path : List ℕ) (node : Node) → AtMost (bound_of problem node) key → Covers Anyhow problem key terms path node (line_of problem path node ∷ [])
top_line problem key terms path node most = covers_own problem key terms path node (line_of problem path node) (record { split = sym (append-nil path); below = node; reached = refl; sum = refl; index = refl; most = most })

abbrev Tops : WeightedSum → Key → List Term → List ℕ → Type 0
Tops problem key terms path = (child : Node) (number : ℕ) → Reached problem terms (path ++ number ∷ []) child → Covers Anyhow problem key terms (path ++ number ∷ []) child (topmost problem key terms (path ++ number ∷ []) child)

abbrev pub below_by : WeightedSum → Key → Term → List Term → List ℕ → Node → ℕ → List Line
below_by problem key term terms path node number = flat_map (topmost problem key terms (path ++ number ∷ [])) (option_to_list (child_in term node number))

each_top : (problem : WeightedSum) (key : Key) (term : Term) (terms : List Term) (path : List ℕ) (node : Node) → Tops problem key terms path → Reached problem (term ∷ terms) path node → (low count : ℕ) → low + count ≡ length term.func.pieces → Covers (From low) problem key (term ∷ terms) path node (flat_map (below_by problem key term terms path node) (numbers_from low count))
each_top problem key term terms path node tops at low zero all = covers_none problem key term terms path node low (omega (arith, all))
each_top problem key term terms path node tops at low (suc count) all = by (child_in term node low) refl (each_top problem key term terms path node tops at (suc low) count (omega (arith, all)))
  where
    others : List Line
    others = flat_map (below_by problem key term terms path node) (numbers_from (suc low) count)

    by : (o : Option Node) → child_in term node low ≡ o → Covers (From (suc low)) problem key (term ∷ terms) path node others → Covers (From low) problem key (term ∷ terms) path node (below_by problem key term terms path node low ++ others)
    by None is more = rw is (covers_skip problem key term terms path node low others is more)
    by (Some child) is more =
        rw (is, append-nil (topmost problem key terms (path ++ low ∷ []) child))
        (covers_join problem key term terms path node child low (topmost problem key terms (path ++ low ∷ []) child) others is (tops child low (child_reached problem term terms path node child low at is)) more)

pub topmost_covers : (problem : WeightedSum) (key : Key) (terms : List Term) (path : List ℕ) (node : Node) → Attains problem key → Reached problem terms path node → Covers Anyhow problem key terms path node (topmost problem key terms path node)
topmost_covers problem key [] path node attains at =
    let most = attains path node at in
    rw (true_at_most (bound_of problem node) key most) (top_line problem key [] path node most)
topmost_covers problem key (term ∷ terms) path node attains at =
    by (is_at_most (bound_of problem node) key) refl (λ child number reached. topmost_covers problem key terms (path ++ number ∷ []) child attains reached)
  where
    by : (b : Bool) → is_at_most (bound_of problem node) key ≡ b → Tops problem key terms path → Covers Anyhow problem key (term ∷ terms) path node (cond b (line_of problem path node ∷ []) (flat_map (below_by problem key term terms path node) (numbers_from 0 (length term.func.pieces))))
    by true is tops = top_line problem key (term ∷ terms) path node (at_most_true (bound_of problem node) key is)
    by false is tops = covers_all problem key term terms path node (flat_map (below_by problem key term terms path node) (numbers_from 0 (length term.func.pieces))) (each_top problem key term terms path node tops at 0 (length term.func.pieces) (omega arith))
