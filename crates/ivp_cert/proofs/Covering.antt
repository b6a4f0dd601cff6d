-- Which lines cover a node, and how those that cover its children come together and part.
use Rattle.std.proofs.Common.{◌≡◌, ℕ, suc, ◌<◌, ◌≤◌, ◌⊎◌, inl, inr, true, false, Some, None, List, [], ◌∷◌, ◌++◌, length, refl, sym, ap, ◌∙◌, arith, append_assoc}
use Rattle.std.specs.List.{AllByRecursion as Each}
use Rattle.std.proofs.lemmas.Bool.{cases_lt}
use Rattle.std.proofs.lemmas.Option.{option_and_then_some, slice_get_within}
use Rattle.moos_io.proofs.Lists.{each_append, each_weaker}
use Rattle.ivp_problem.specs.declared.node.Node.{Node}
use Rattle.ivp_problem.specs.declared.term.Term.{Term}
use Rattle.ivp_problem.specs.Problems.{WeightedSum}
use Rattle.ivp_problem.specs.Trees.{bound_of, child_in, node_below}
use Rattle.ivp_problem.specs.Keys.{AtMost}
use Rattle.ivp_problem.specs.declared.key.Key.{Key}
use Rattle.ivp_problem.proofs.Nodes.{child_parts}
use Rattle.ivp_cert.specs.declared.cert.Line.{Line}
use Rattle.ivp_cert.specs.Certificates.{begins, is_before, Rise}
use Rattle.ivp_cert.proofs.Paths.{beginning, beginning_append, beginning_none, beginning_one, begins_append, less_before, parted, rise_append, StandsBefore}

-- the line is that of the node which its path reaches from this one
pub record IsUnder (problem : WeightedSum) (key : Key) (terms : List Term) (path : List ℕ) (node : Node) (line : Line) (more : List ℕ) : Type 0 where
  pub split : line.path ≡ path ++ more
  pub below : Node
  pub reached : node_below terms more node ≡ Some below
  pub sum : line.sum ≡ (bound_of problem below).sum
  pub index : line.index ≡ (bound_of problem below).index
  pub most : AtMost (bound_of problem below) key

-- how a path goes on below a node: anyhow, or with a number from this one on
abbrev pub Anyhow : List ℕ → Type 0
Anyhow more = Unit {0}

abbrev pub From : ℕ → List ℕ → Type 0
From low [] = ⊥
From low (number ∷ more) = low ≤ number

abbrev pub Under : (List ℕ → Type 0) → WeightedSum → Key → List Term → List ℕ → Node → Line → Type 0
Under P problem key terms path node line = (more : List ℕ) × P more × IsUnder problem key terms path node line more

-- the lines cover the nodes of full depth that such paths reach, each once
pub record Covers (P : List ℕ → Type 0) (problem : WeightedSum) (key : Key) (terms : List Term) (path : List ℕ) (node : Node) (lines : List Line) : Type 0 where
  pub under : Each (Under P problem key terms path node) lines
  pub once : (more : List ℕ) (leaf : Node) → P more → node_below terms more node ≡ Some leaf → length more ≡ length terms → beginning (path ++ more) lines ≡ 1
  pub rise : Rise lines

pub one_more : (path more : List ℕ) (number : ℕ) → (path ++ number ∷ []) ++ more ≡ path ++ (number ∷ more)
one_more path more number = append_assoc path (number ∷ []) more

-- a line of the node itself
pub covers_own : (problem : WeightedSum) (key : Key) (terms : List Term) (path : List ℕ) (node : Node) (line : Line) → IsUnder problem key terms path node line [] → Covers Anyhow problem key terms path node (line ∷ [])
covers_own problem key terms path node line own =
    record {
      under = (([], tt, own), tt);
      once = λ more leaf any reached full. beginning_one (path ++ more) line (ap (λ q. begins q (path ++ more)) own.split ∙ begins_append path [] more);
      rise = (refl, tt);
    }

pub past_all : (term : Term) (node child : Node) (number : ℕ) → child_in term node number ≡ Some child → number < length term.func.pieces
past_all term node child number e = let of = child_parts term node number child e in slice_get_within term.func.pieces number of.piece of.stands

-- no child is left
pub covers_none : (problem : WeightedSum) (key : Key) (term : Term) (terms : List Term) (path : List ℕ) (node : Node) (low : ℕ) → length term.func.pieces ≤ low → Covers (From low) problem key (term ∷ terms) path node []
covers_none problem key term terms path node low past = record { under = tt; once = once; rise = tt }
  where
    once : (more : List ℕ) (leaf : Node) → From low more → node_below (term ∷ terms) more node ≡ Some leaf → length more ≡ length (term ∷ terms) → beginning (path ++ more) [] ≡ 1
    once [] leaf from reached full = absurd from
    once (number ∷ more) leaf from reached full =
        option_and_then_some (node_below terms more) (child_in term node number) leaf reached
        (λ child first later. let within = past_all term node child number first in absurd (omega (arith, within, from, past)))

-- which of the numbers
pub number_is : (low number : ℕ) → low ≤ number → (low < number) ⊎ (number ≡ low)
number_is low number h = elim (cases_lt low number) [ inl less ↦ inl less | inr past ↦ inr (omega arith) ]

-- lines of a child
child_lines : (problem : WeightedSum) (key : Key) (term : Term) (terms : List Term) (path : List ℕ) (node child : Node) (low : ℕ) → child_in term node low ≡ Some child → (line : Line) → Under Anyhow problem key terms (path ++ low ∷ []) child line → Under (From low) problem key (term ∷ terms) path node line
child_lines problem key term terms path node child low is line (more, any, own) = (
  low ∷ more,
  omega arith,
  record {
    split = own.split ∙ one_more path more low;
    below = own.below;
    reached = rw is own.reached;
    sum = own.sum;
    index = own.index;
    most = own.most;
  },
)

wider : (problem : WeightedSum) (key : Key) (terms : List Term) (path : List ℕ) (node : Node) (low : ℕ) (line : Line) → Under (From (suc low)) problem key terms path node line → Under (From low) problem key terms path node line
wider problem key terms path node low line ([], from, own) = absurd from
wider problem key terms path node low line (number ∷ more, from, own) = (number ∷ more, omega (arith, from), own)

-- lines behind a child's are of other children
abbrev pub Starts : List ℕ → (ℕ → Type 0) → Line → Type 0
Starts path P line = (number : ℕ) × (more : List ℕ) × P number × (line.path ≡ path ++ number ∷ more)

starts_child : (problem : WeightedSum) (key : Key) (terms : List Term) (path : List ℕ) (child : Node) (low : ℕ) (line : Line) → Under Anyhow problem key terms (path ++ low ∷ []) child line → Starts path (λ number. number ≡ low) line
starts_child problem key terms path child low line (more, any, own) = (low, more, refl, own.split ∙ one_more path more low)

pub starts_from : (problem : WeightedSum) (key : Key) (terms : List Term) (path : List ℕ) (node : Node) (low : ℕ) (line : Line) → Under (From low) problem key terms path node line → Starts path (λ number. low ≤ number) line
starts_from problem key terms path node low line ([], from, own) = absurd from
starts_from problem key terms path node low line (number ∷ more, from, own) = (number, more, from, own.split)

pub none_begins : (path more : List ℕ) (number : ℕ) (P : ℕ → Type 0) → ((n : ℕ) → P n → n ≡ number → ⊥) → (lines : List Line) → Each (Starts path P) lines → beginning (path ++ number ∷ more) lines ≡ 0
none_begins path more number P other lines h =
    beginning_none (path ++ number ∷ more) lines
    (each_weaker (Starts path P) (λ (line : Line). begins line.path (path ++ number ∷ more) ≡ false)
    (λ line s. ap (λ q. begins q (path ++ number ∷ more)) s.3 ∙ parted path s.1 more s.0 number (other s.0 s.2)) lines h)

before_all : (path : List ℕ) (low : ℕ) (firsts rest : List Line) → Each (Starts path (λ number. number ≡ low)) firsts → Each (Starts path (λ number. suc low ≤ number)) rest → Each (StandsBefore rest) firsts
before_all path low firsts rest h k =
    each_weaker (Starts path (λ number. number ≡ low)) (StandsBefore rest)
    (λ line s.
    each_weaker (Starts path (λ number. suc low ≤ number)) (λ (later : Line). is_before line.path later.path ≡ true)
    (λ later t. ap (λ q. is_before q later.path) s.3 ∙ (ap (is_before (path ++ s.0 ∷ s.1)) t.3 ∙ less_before path s.1 t.1 s.0 t.0 (omega (arith, s.2, t.2)))) rest k) firsts h

-- the lines of one child, and those of the later ones
pub covers_join : (problem : WeightedSum) (key : Key) (term : Term) (terms : List Term) (path : List ℕ) (node child : Node) (low : ℕ) (firsts rest : List Line) → child_in term node low ≡ Some child → Covers Anyhow problem key terms (path ++ low ∷ []) child firsts → Covers (From (suc low)) problem key (term ∷ terms) path node rest → Covers (From low) problem key (term ∷ terms) path node (firsts ++ rest)
covers_join problem key term terms path node child low firsts rest is one others =
    record {
      under =
          each_append (Under (From low) problem key (term ∷ terms) path node) firsts rest
          (each_weaker (Under Anyhow problem key terms (path ++ low ∷ []) child) (Under (From low) problem key (term ∷ terms) path node) (child_lines problem key term terms path node child low is) firsts one.under)
          (each_weaker (Under (From (suc low)) problem key (term ∷ terms) path node) (Under (From low) problem key (term ∷ terms) path node) (wider problem key (term ∷ terms) path node low) rest others.under);
      once = once;
      rise = rise_append firsts rest one.rise others.rise (before_all path low firsts rest of_child of_others);
    }
  where
    of_child : Each (Starts path (λ number. number ≡ low)) firsts
    of_child = each_weaker (Under Anyhow problem key terms (path ++ low ∷ []) child) (Starts path (λ number. number ≡ low)) (starts_child problem key terms path child low) firsts one.under

    of_others : Each (Starts path (λ number. suc low ≤ number)) rest
    of_others = each_weaker (Under (From (suc low)) problem key (term ∷ terms) path node) (Starts path (λ number. suc low ≤ number)) (starts_from problem key (term ∷ terms) path node (suc low)) rest others.under

    at : (number : ℕ) (more : List ℕ) (leaf : Node) → (low < number) ⊎ (number ≡ low) → node_below (term ∷ terms) (number ∷ more) node ≡ Some leaf → length (number ∷ more) ≡ length (term ∷ terms) → beginning (path ++ number ∷ more) (firsts ++ rest) ≡ 1
    at number more leaf (inl later) reached full =
        let none = none_begins path more number (λ n. n ≡ low) (λ n p e. omega arith) firsts of_child in
        let one = others.once (number ∷ more) leaf (omega arith) reached full in
        omega (arith, beginning_append (path ++ number ∷ more) firsts rest, none, one)
    at number more leaf (inr here) reached full =
        let none = none_begins path more number (λ n. suc low ≤ n) (λ n p e. omega arith) rest of_others in
        let below : node_below terms more child ≡ Some leaf = rw (here, is) at reached in
        let once = one.once more leaf tt below (omega (arith, full)) in
        let moved : beginning (path ++ number ∷ more) firsts ≡ 1 = ap (λ q. beginning q firsts) (ap (λ n. path ++ (n ∷ more)) here ∙ sym (one_more path more low)) ∙ once in
        omega (arith, beginning_append (path ++ number ∷ more) firsts rest, none, moved)

    once : (more : List ℕ) (leaf : Node) → From low more → node_below (term ∷ terms) more node ≡ Some leaf → length more ≡ length (term ∷ terms) → beginning (path ++ more) (firsts ++ rest) ≡ 1
    once [] leaf from reached full = absurd from
    once (number ∷ more) leaf from reached full = at number more leaf (number_is low number from) reached full

-- a number without a child
pub covers_skip : (problem : WeightedSum) (key : Key) (term : Term) (terms : List Term) (path : List ℕ) (node : Node) (low : ℕ) (lines : List Line) → child_in term node low ≡ None → Covers (From (suc low)) problem key (term ∷ terms) path node lines → Covers (From low) problem key (term ∷ terms) path node lines
covers_skip problem key term terms path node low lines none others =
    record {
      under = each_weaker (Under (From (suc low)) problem key (term ∷ terms) path node) (Under (From low) problem key (term ∷ terms) path node) (wider problem key (term ∷ terms) path node low) lines others.under;
      once = once;
      rise = others.rise;
    }
  where
    at : (number : ℕ) (more : List ℕ) (leaf : Node) → (low < number) ⊎ (number ≡ low) → node_below (term ∷ terms) (number ∷ more) node ≡ Some leaf → length (number ∷ more) ≡ length (term ∷ terms) → beginning (path ++ number ∷ more) lines ≡ 1
    at number more leaf (inl later) reached full = others.once (number ∷ more) leaf (omega arith) reached full
    at number more leaf (inr here) reached full = let bad = rw (here, none) at reached in absurd (cc)

    once : (more : List ℕ) (leaf : Node) → From low more → node_below (term ∷ terms) more node ≡ Some leaf → length more ≡ length (term ∷ terms) → beginning (path ++ more) lines ≡ 1
    once [] leaf from reached full = absurd from
    once (number ∷ more) leaf from reached full = at number more leaf (number_is low number from) reached full

-- all children
pub covers_all : (problem : WeightedSum) (key : Key) (term : Term) (terms : List Term) (path : List ℕ) (node : Node) (lines : List Line) → Covers (From 0) problem key (term ∷ terms) path node lines → Covers Anyhow problem key (term ∷ terms) path node lines
covers_all problem key term terms path node lines all =
    record {
      under = each_weaker (Under (From 0) problem key (term ∷ terms) path node) (Under Anyhow problem key (term ∷ terms) path node) (λ line u. (u.0, tt, u.2)) lines all.under;
      once = once;
      rise = all.rise;
    }
  where
    once : (more : List ℕ) (leaf : Node) → Anyhow more → node_below (term ∷ terms) more node ≡ Some leaf → length more ≡ length (term ∷ terms) → beginning (path ++ more) lines ≡ 1
    once [] leaf any reached full = absurd (omega (arith, full))
    once (number ∷ more) leaf any reached full = all.once (number ∷ more) leaf (omega arith) reached full
