-- Lines that cover a node, parted into those of its children.
use Rattle.std.proofs.Common.{◌≡◌, ℕ, suc, ◌+◌, ◌<◌, ◌≤◌, ◌⊎◌, inl, inr, true, Some, None, List, [], ◌∷◌, ◌++◌, length, drop, refl, sym, ap, subst, ◌∙◌, arith, length-append, length-drop, append-nil}
use Rattle.std.specs.List.{AllByRecursion as Each}
use Rattle.std.proofs.lemmas.Option.{option_and_then_some}
use Rattle.moos_io.proofs.Lists.{each_true, each_weaker}
use Rattle.ivp_func.proofs.Counting.{one_if}
use Rattle.ivp_problem.specs.declared.node.Node.{Node}
use Rattle.ivp_problem.specs.declared.term.Term.{Term}
use Rattle.ivp_problem.specs.Problems.{IsProblem, WeightedSum}
use Rattle.ivp_problem.specs.Trees.{child_in, node_below}
use Rattle.ivp_problem.specs.declared.key.Key.{Key}
use Rattle.ivp_cert.specs.declared.cert.Line.{Line}
use Rattle.ivp_cert.specs.Certificates.{begins, is_before, Rise}
use Rattle.ivp_cert.proofs.Covering.{Anyhow, Covers, From, IsUnder, none_begins, number_is, one_more, past_all, Starts, starts_from, Under}
use Rattle.ivp_cert.proofs.Leaves.{below_append, below_length, below_reached, Reached, some_leaf}
use Rattle.ivp_cert.proofs.Paths.{beginning, beginning_append, beginning_cons, begins_append, before_append, before_less, rise_parts, StandsBefore}

-- a line of the child by this number
abbrev Of : ℕ → WeightedSum → Key → List Term → List ℕ → Node → Line → Type 0
Of low problem key terms path node line = (more : List ℕ) × IsUnder problem key terms path node line (low ∷ more)

-- the lines of the child by a number, and those behind them
record Parted (problem : WeightedSum) (key : Key) (terms : List Term) (path : List ℕ) (node : Node) (low : ℕ) (lines : List Line) : Type 0 where
  pub firsts : List Line
  pub rest : List Line
  pub whole : lines ≡ firsts ++ rest
  pub of : Each (Of low problem key terms path node) firsts
  pub others : Each (Under (From (suc low)) problem key terms path node) rest

later_from : (path more : List ℕ) (low number : ℕ) (line later : Line) (P : List ℕ → Type 0) (problem : WeightedSum) (key : Key) (terms : List Term) (node : Node) → low < number → line.path ≡ path ++ number ∷ more → is_before line.path later.path ≡ true → Under (From low) problem key terms path node later → Under (From (suc low)) problem key terms path node later
later_from path more low number line later P problem key terms node less split before ([], from, own) = absurd from
later_from path more low number line later P problem key terms node less split before (other ∷ rest, from, own) =
    let same = ap (λ q. is_before q later.path) (sym split) in
    let h : is_before (path ++ number ∷ more) (path ++ other ∷ rest) ≡ true = ap (is_before (path ++ number ∷ more)) (sym own.split) ∙ (same ∙ before) in
    let le = before_less path more rest number other h in
    (other ∷ rest, omega arith, own)

all_later : (path more : List ℕ) (low number : ℕ) (line : Line) (problem : WeightedSum) (key : Key) (terms : List Term) (node : Node) (lines : List Line) → low < number → line.path ≡ path ++ number ∷ more → StandsBefore lines line → Each (Under (From low) problem key terms path node) lines → Each (Under (From (suc low)) problem key terms path node) lines
all_later path more low number line problem key terms node [] less split before under = tt
all_later path more low number line problem key terms node (later ∷ lines) less split before under =
    (later_from path more low number line later Anyhow problem key terms node less split before.0 under.0, all_later path more low number line problem key terms node lines less split before.1 under.1)

part_lines : (problem : WeightedSum) (key : Key) (terms : List Term) (path : List ℕ) (node : Node) (low : ℕ) (lines : List Line) → Each (Under (From low) problem key terms path node) lines → Rise lines → Parted problem key terms path node low lines
part_lines problem key terms path node low [] under rise = record { firsts = []; rest = []; whole = refl; of = tt; others = tt }
part_lines problem key terms path node low (line ∷ lines) under rise = by under.0 (part_lines problem key terms path node low lines under.1 rise.1)
  where
    at : (number : ℕ) (more : List ℕ) → IsUnder problem key terms path node line (number ∷ more) → (low < number) ⊎ (number ≡ low) → Parted problem key terms path node low lines → Parted problem key terms path node low (line ∷ lines)
    at number more own (inl later) parted =
        let behind = all_later path more low number line problem key terms node lines later own.split (each_true (λ (l : Line). is_before line.path l.path) lines rise.0) under.1 in
        record { firsts = []; rest = line ∷ lines; whole = refl; of = tt; others = ((number ∷ more, omega arith, own), behind) }
    at number more own (inr here) parted =
        record {
          firsts = line ∷ parted.firsts;
          rest = parted.rest;
          whole = ap (λ ls. line ∷ ls) parted.whole;
          of = ((more, subst (λ n. IsUnder problem key terms path node line (n ∷ more)) here own), parted.of);
          others = parted.others;
        }

    by : Under (From low) problem key terms path node line → Parted problem key terms path node low lines → Parted problem key terms path node low (line ∷ lines)
    by ([], from, own) parted = absurd from
    by (number ∷ more, from, own) parted = at number more own (number_is low number from) parted

-- what covers the children from a number on covers the child by it, and then those behind it
pub record Parts (problem : WeightedSum) (key : Key) (term : Term) (terms : List Term) (path : List ℕ) (node child : Node) (low : ℕ) (lines : List Line) : Type 0 where
  pub firsts : List Line
  pub rest : List Line
  pub whole : lines ≡ firsts ++ rest
  pub one : Covers Anyhow problem key terms (path ++ low ∷ []) child firsts
  pub others : Covers (From (suc low)) problem key (term ∷ terms) path node rest

of_starts : (problem : WeightedSum) (key : Key) (terms : List Term) (path : List ℕ) (node : Node) (low : ℕ) (line : Line) → Of low problem key terms path node line → Starts path (λ number. number ≡ low) line
of_starts problem key terms path node low line of = (low, of.0, refl, of.1.split)

of_child : (problem : WeightedSum) (key : Key) (term : Term) (terms : List Term) (path : List ℕ) (node child : Node) (low : ℕ) → child_in term node low ≡ Some child → (line : Line) → Of low problem key (term ∷ terms) path node line → Under Anyhow problem key terms (path ++ low ∷ []) child line
of_child problem key term terms path node child low is line (more, own) = (
  more,
  tt,
  record {
    split = own.split ∙ sym (one_more path more low);
    below = own.below;
    reached = rw is at own.reached;
    sum = own.sum;
    index = own.index;
    most = own.most;
  },
)

pub covers_part : (problem : WeightedSum) (key : Key) (term : Term) (terms : List Term) (path : List ℕ) (node child : Node) (low : ℕ) (lines : List Line) → child_in term node low ≡ Some child → Covers (From low) problem key (term ∷ terms) path node lines → Parts problem key term terms path node child low lines
covers_part problem key term terms path node child low lines is all =
    record {
      firsts = firsts;
      rest = rest;
      whole = parted.whole;
      one = record {
        under = each_weaker (Of low problem key (term ∷ terms) path node) (Under Anyhow problem key terms (path ++ low ∷ []) child) (of_child problem key term terms path node child low is) firsts parted.of;
        once = in_child;
        rise = rises.0;
      };
      others = record { under = parted.others; once = behind; rise = rises.1 };
    }
  where
    parted : Parted problem key (term ∷ terms) path node low lines
    parted = part_lines problem key (term ∷ terms) path node low lines all.under all.rise

    firsts : List Line
    firsts = parted.firsts

    rest : List Line
    rest = parted.rest

    rises : Rise firsts × Rise rest
    rises = rise_parts firsts rest (subst Rise parted.whole all.rise)

    counted : (path' : List ℕ) → beginning path' lines ≡ 1 → beginning path' firsts + beginning path' rest ≡ 1
    counted path' once = sym (beginning_append path' firsts rest) ∙ (ap (beginning path') (sym parted.whole) ∙ once)

    in_child : (more : List ℕ) (leaf : Node) → Anyhow more → node_below terms more child ≡ Some leaf → length more ≡ length terms → beginning ((path ++ low ∷ []) ++ more) firsts ≡ 1
    in_child more leaf any reached full =
        let none = none_begins path more low (λ n. suc low ≤ n) (λ n p e. omega arith) rest (each_weaker (Under (From (suc low)) problem key (term ∷ terms) path node) (Starts path (λ number. suc low ≤ number)) (starts_from problem key (term ∷ terms) path node (suc low)) rest parted.others) in
        let once = counted (path ++ low ∷ more) (all.once (low ∷ more) leaf (omega arith) (rw is reached) (ap suc full)) in
        ap (λ q. beginning q firsts) (one_more path more low) ∙ omega (arith, none, once)

    behind : (more : List ℕ) (leaf : Node) → From (suc low) more → node_below (term ∷ terms) more node ≡ Some leaf → length more ≡ length (term ∷ terms) → beginning (path ++ more) rest ≡ 1
    behind [] leaf from reached full = absurd from
    behind (number ∷ more) leaf from reached full =
        let none = none_begins path more number (λ n. n ≡ low) (λ n p e. omega (arith, from)) firsts (each_weaker (Of low problem key (term ∷ terms) path node) (Starts path (λ number. number ≡ low)) (of_starts problem key (term ∷ terms) path node low) firsts parted.of) in
        let once = counted (path ++ number ∷ more) (all.once (number ∷ more) leaf (omega (arith, from)) reached full) in
        omega (arith, none, once)

-- a number without a child
pub covers_pass : (problem : WeightedSum) (key : Key) (term : Term) (terms : List Term) (path : List ℕ) (node : Node) (low : ℕ) (lines : List Line) → child_in term node low ≡ None → Covers (From low) problem key (term ∷ terms) path node lines → Covers (From (suc low)) problem key (term ∷ terms) path node lines
covers_pass problem key term terms path node low lines none all =
    record { under = each_weaker (Under (From low) problem key (term ∷ terms) path node) (Under (From (suc low)) problem key (term ∷ terms) path node) past lines all.under; once = once; rise = all.rise }
  where
    at : (line : Line) (number : ℕ) (more : List ℕ) → IsUnder problem key (term ∷ terms) path node line (number ∷ more) → (low < number) ⊎ (number ≡ low) → Under (From (suc low)) problem key (term ∷ terms) path node line
    at line number more own (inl later) = (number ∷ more, omega arith, own)
    at line number more own (inr here) = let bad = rw (here, none) at own.reached in absurd (cc)

    past : (line : Line) → Under (From low) problem key (term ∷ terms) path node line → Under (From (suc low)) problem key (term ∷ terms) path node line
    past line ([], from, own) = absurd from
    past line (number ∷ more, from, own) = at line number more own (number_is low number from)

    once : (more : List ℕ) (leaf : Node) → From (suc low) more → node_below (term ∷ terms) more node ≡ Some leaf → length more ≡ length (term ∷ terms) → beginning (path ++ more) lines ≡ 1
    once [] leaf from reached full = absurd from
    once (number ∷ more) leaf from reached full = all.once (number ∷ more) leaf (omega (arith, from)) reached full

-- behind the last child no line is left
pub covers_last : (problem : WeightedSum) (key : Key) (term : Term) (terms : List Term) (path : List ℕ) (node : Node) (low : ℕ) (lines : List Line) → length term.func.pieces ≤ low → Covers (From low) problem key (term ∷ terms) path node lines → lines ≡ []
covers_last problem key term terms path node low [] past all = refl
covers_last problem key term terms path node low (line ∷ lines) past all = by all.under.0
  where
    by : Under (From low) problem key (term ∷ terms) path node line → line ∷ lines ≡ []
    by ([], from, own) = absurd from
    by (number ∷ more, from, own) =
        option_and_then_some (node_below terms more) (child_in term node number) own.below own.reached
        (λ child first later. let within = past_all term node child number first in absurd (omega (arith, within, from, past)))

-- where the first line isn't the node's own, all lines are of its children
pub covers_below : (problem : WeightedSum) (key : Key) (terms : List Term) (path : List ℕ) (node : Node) (line : Line) (lines : List Line) (number : ℕ) (more : List ℕ) → IsUnder problem key terms path node line (number ∷ more) → Covers Anyhow problem key terms path node (line ∷ lines) → Covers (From 0) problem key terms path node (line ∷ lines)
covers_below problem key terms path node line lines number more own all =
    record { under = ((number ∷ more, omega arith, own), later lines (each_true (λ (l : Line). is_before line.path l.path) lines all.rise.0) all.under.1); once = once; rise = all.rise }
  where
    one : (l : Line) → is_before line.path l.path ≡ true → Under Anyhow problem key terms path node l → Under (From 0) problem key terms path node l
    one l before ([], any, at) =
        let h : is_before (path ++ number ∷ more) (path ++ []) ≡ true = ap (is_before (path ++ number ∷ more)) (sym at.split) ∙ (ap (λ q. is_before q l.path) (sym own.split) ∙ before) in
        let no = sym (before_append path (number ∷ more) []) ∙ h in absurd (cc)
    one l before (n ∷ rest, any, at) = (n ∷ rest, omega arith, at)

    later : (ls : List Line) → StandsBefore ls line → Each (Under Anyhow problem key terms path node) ls → Each (Under (From 0) problem key terms path node) ls
    later [] before under = tt
    later (l ∷ ls) before under = (one l before.0 under.0, later ls before.1 under.1)

    once : (more : List ℕ) (leaf : Node) → From 0 more → node_below terms more node ≡ Some leaf → length more ≡ length terms → beginning (path ++ more) (line ∷ lines) ≡ 1
    once more leaf from reached full = all.once more leaf tt reached full

-- the node's own line stands alone
pub covers_alone : (problem : WeightedSum) (key : Key) (terms : List Term) (path : List ℕ) (node : Node) (line : Line) (lines : List Line) → IsProblem problem → Reached problem terms path node → IsUnder problem key terms path node line [] → Covers Anyhow problem key terms path node (line ∷ lines) → lines ≡ []
covers_alone problem key terms path node line [] h at own all = refl
covers_alone problem key terms path node line (next ∷ lines) h at own all = by all.under.1.0
  where
    by : Under Anyhow problem key terms path node next → next ∷ lines ≡ []
    by (more, any, under) =
        let leaf = (some_leaf problem (drop (length more) terms) (path ++ more) under.below h (below_reached problem terms path more node under.below at under.reached)).1 in
        let reached : node_below terms (more ++ leaf.path) node ≡ Some leaf.leaf = below_append terms more leaf.path node under.below under.reached ∙ leaf.reached in
        let short = below_length terms more node under.below under.reached in
        let full : length (more ++ leaf.path) ≡ length terms = omega (arith, length-append more leaf.path, leaf.full, length-drop (length more) terms, short) in
        let once = all.once (more ++ leaf.path) leaf.leaf tt reached full in
        let target = path ++ (more ++ leaf.path) in
        let first : one_if (begins line.path target) ≡ 1 = ap one_if (ap (λ q. begins q target) own.split ∙ begins_append path [] (more ++ leaf.path)) in
        let second : one_if (begins next.path target) ≡ 1 = ap one_if (ap (λ q. begins q target) under.split ∙ (begins_append path more (more ++ leaf.path) ∙ begin more leaf.path)) in
        absurd (omega (arith, once, first, second, beginning_cons target line (next ∷ lines), beginning_cons target next lines))
      where
        begin : (xs ys : List ℕ) → begins xs (xs ++ ys) ≡ true
        begin xs ys = ap (λ q. begins q (xs ++ ys)) (sym (append-nil xs)) ∙ begins_append xs [] ys
