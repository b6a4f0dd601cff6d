-- The certificate of a problem has the lines of all topmost nodes whose bound is at most the key, and no others.
use Rattle.std.proofs.Common.{◌≡◌, ℕ, zero, suc, ◌+◌, ◌<◌, ◌≤◌, ◌⊎◌, inl, inr, Bool, true, false, cond, Option, Some, None, List, [], ◌∷◌, ◌++◌, length, refl, sym, ap, subst, ◌∙◌, arith, append-nil}
use Rattle.std.specs.Prelude.{slice_get}
use Rattle.std.specs.List.{AllByRecursion as Each, flat_map}
use Rattle.std.specs.Option.{option_to_list}
use Rattle.std.proofs.lemmas.Option.{option_and_then_some}
use Rattle.moos_io.proofs.Lists.{each_append, each_at, each_weaker}
use Rattle.ivp_domain.specs.Boxes.{numbers_from}
use Rattle.ivp_problem.specs.declared.key.Key.{Key}
use Rattle.ivp_problem.specs.declared.node.Node.{Node}
use Rattle.ivp_problem.specs.declared.term.Term.{Term}
use Rattle.ivp_problem.specs.Keys.{AtMost, is_at_most}
use Rattle.ivp_problem.specs.Problems.{IsProblem, WeightedSum}
use Rattle.ivp_problem.specs.Sums.{best_of, key_at, sum_at}
use Rattle.ivp_problem.specs.Trees.{bound_of, child_in, node_below, root_of}
use Rattle.ivp_problem.proofs.KeyOrder.{at_most_true, true_at_most}
use Rattle.ivp_cert.specs.declared.cert.Line.{Line}
use Rattle.ivp_cert.specs.declared.claim.Claim.{Claim}
use Rattle.ivp_cert.specs.Certificates.{certificate_of, line_of, topmost}
use Rattle.ivp_cert.specs.Topmost.{AreTopmost}
use Rattle.ivp_cert.proofs.Accepting.{certificate_accepted}
use Rattle.ivp_cert.proofs.Covering.{number_is, one_more, past_all}
use Rattle.ivp_cert.proofs.Walking.{below_by}

-- no node on the way from this one to that of the path has a bound that is at most the key
abbrev NoneOnTheWay : WeightedSum → Key → List Term → Node → List ℕ → Type 0
NoneOnTheWay problem key terms node path = (above : List ℕ) (number : ℕ) (more : List ℕ) (passed : Node) → path ≡ above ++ number ∷ more → node_below terms above node ≡ Some passed → AtMost (bound_of problem passed) key → ⊥

-- the way to the line's node, from this one on
abbrev IsFirst : WeightedSum → Key → List Term → List ℕ → Node → Line → Type 0
IsFirst problem key terms path node line = (more : List ℕ) × (line.path ≡ path ++ more) × NoneOnTheWay problem key terms node more

own_first : (problem : WeightedSum) (key : Key) (terms : List Term) (path : List ℕ) (node : Node) → IsFirst problem key terms path node (line_of problem path node)
own_first problem key terms path node = ([], sym (append-nil path), none)
  where
    none : NoneOnTheWay problem key terms node []
    none [] number more passed e reached most = absurd (cc)
    none (n ∷ above) number more passed e reached most = absurd (cc)

-- a node whose bound isn't at most the key stands on the way to those below its child
child_first : (problem : WeightedSum) (key : Key) (term : Term) (terms : List Term) (path : List ℕ) (node child : Node) (number : ℕ) → is_at_most (bound_of problem node) key ≡ false → child_in term node number ≡ Some child → (line : Line) → IsFirst problem key terms (path ++ number ∷ []) child line → IsFirst problem key (term ∷ terms) path node line
child_first problem key term terms path node child number more is line (rest, split, none) = (number ∷ rest, split ∙ one_more path rest number, all)
  where
    all : NoneOnTheWay problem key (term ∷ terms) node (number ∷ rest)
    all [] n later passed e reached most =
        let same : node ≡ passed = cc in
        let told = true_at_most (bound_of problem passed) key most in
        let same_bound = ap (λ (x : Node). is_at_most (bound_of problem x) key) same in
        absurd (cc)
    all (m ∷ above) n later passed e reached most =
        let one : number ≡ m = cc in
        let tail : rest ≡ above ++ n ∷ later = cc in
        let below : node_below terms above child ≡ Some passed = rw (sym one, is) at reached in
        none above n later passed tail below most

each_flat : (P : Line → Type 0) (f : ℕ → List Line) → ((number : ℕ) → Each P (f number)) → (low count : ℕ) → Each P (flat_map f (numbers_from low count))
each_flat P f h low zero = tt
each_flat P f h low (suc count) = each_append P (f low) (flat_map f (numbers_from (suc low) count)) (h low) (each_flat P f h (suc low) count)

tops_first : (problem : WeightedSum) (key : Key) (terms : List Term) (path : List ℕ) (node : Node) → Each (IsFirst problem key terms path node) (topmost problem key terms path node)
tops_first problem key [] path node = by (is_at_most (bound_of problem node) key)
  where
    by : (b : Bool) → Each (IsFirst problem key [] path node) (cond b (line_of problem path node ∷ []) [])
    by true = (own_first problem key [] path node, tt)
    by false = tt
tops_first problem key (term ∷ terms) path node = by (is_at_most (bound_of problem node) key) refl (λ number child. tops_first problem key terms (path ++ number ∷ []) child)
  where
    by : (b : Bool) → is_at_most (bound_of problem node) key ≡ b → ((number : ℕ) (child : Node) → Each (IsFirst problem key terms (path ++ number ∷ []) child) (topmost problem key terms (path ++ number ∷ []) child)) → Each (IsFirst problem key (term ∷ terms) path node) (cond b (line_of problem path node ∷ []) (flat_map (below_by problem key term terms path node) (numbers_from 0 (length term.func.pieces))))
    by true is below = (own_first problem key (term ∷ terms) path node, tt)
    by false is below = each_flat (IsFirst problem key (term ∷ terms) path node) (below_by problem key term terms path node) (λ number. of number (child_in term node number) refl) 0 (length term.func.pieces)
      where
        of : (number : ℕ) (o : Option Node) → child_in term node number ≡ o → Each (IsFirst problem key (term ∷ terms) path node) (flat_map (topmost problem key terms (path ++ number ∷ [])) (option_to_list o))
        of number None e = tt
        of number (Some child) e =
            let lines = topmost problem key terms (path ++ number ∷ []) child in
            each_append (IsFirst problem key (term ∷ terms) path node) lines [] (each_weaker (IsFirst problem key terms (path ++ number ∷ []) child) (IsFirst problem key (term ∷ terms) path node) (child_first problem key term terms path node child number is e) lines (below number child)) tt

-- the line is one of these
abbrev Among : Line → List Line → Type 0
Among line [] = ⊥
Among line (first ∷ lines) = (line ≡ first) ⊎ Among line lines

among_front : (line : Line) (front back : List Line) → Among line front → Among line (front ++ back)
among_front line [] back x = elim x [ ]
among_front line (first ∷ front) back (inl same) = inl same
among_front line (first ∷ front) back (inr later) = inr (among_front line front back later)

among_back : (line : Line) (front back : List Line) → Among line back → Among line (front ++ back)
among_back line [] back h = h
among_back line (first ∷ front) back h = inr (among_back line front back h)

among_flat : (f : ℕ → List Line) (line : Line) (low count number : ℕ) → low ≤ number → number < low + count → Among line (f number) → Among line (flat_map f (numbers_from low count))
among_flat f line low zero number from within h = absurd (omega (arith, from, within))
among_flat f line low (suc count) number from within h =
    elim (number_is low number from) [
      | inl later ↦ among_back line (f low) (flat_map f (numbers_from (suc low) count)) (among_flat f line (suc low) count number (omega (arith, later)) (omega (arith, within)) h)
      | inr here ↦ among_front line (f low) (flat_map f (numbers_from (suc low) count)) (subst (λ (n : ℕ). Among line (f n)) here h)
    ]

among_place : (line : Line) (lines : List Line) → Among line lines → (place : ℕ) × (slice_get lines place ≡ Some line)
among_place line [] x = elim x [ ]
among_place line (first ∷ lines) (inl same) = (0, ap (λ l. Some l) (sym same))
among_place line (first ∷ lines) (inr later) = let found = among_place line lines later in (suc found.0, found.1)

own_among : (problem : WeightedSum) (path : List ℕ) (node below : Node) → node ≡ below → Among (line_of problem (path ++ []) below) (line_of problem path node ∷ [])
own_among problem path node below same = inl (ap (λ p. line_of problem p below) (append-nil path) ∙ ap (line_of problem path) (sym same))

tops_all : (problem : WeightedSum) (key : Key) (terms : List Term) (path : List ℕ) (node : Node) (more : List ℕ) (below : Node) → node_below terms more node ≡ Some below → AtMost (bound_of problem below) key → NoneOnTheWay problem key terms node more → Among (line_of problem (path ++ more) below) (topmost problem key terms path node)
tops_all problem key terms path node [] below reached most none =
    let same : node ≡ below = node_is terms reached in
    own terms (subst (λ (n : Node). AtMost (bound_of problem n) key) (sym same) most) same
  where
    node_is : (ts : List Term) → node_below ts [] node ≡ Some below → node ≡ below
    node_is [] e = cc
    node_is (t ∷ ts) e = cc

    own : (ts : List Term) → AtMost (bound_of problem node) key → node ≡ below → Among (line_of problem (path ++ []) below) (topmost problem key ts path node)
    own [] h same = rw (true_at_most (bound_of problem node) key h) (own_among problem path node below same)
    own (t ∷ ts) h same = rw (true_at_most (bound_of problem node) key h) (own_among problem path node below same)
tops_all problem key [] path node (number ∷ more) below reached most none = absurd (cc)
tops_all problem key (term ∷ terms) path node (number ∷ more) below reached most none =
    let line = line_of problem (path ++ number ∷ more) below in
    option_and_then_some (node_below terms more) (child_in term node number) below reached
    (λ child first later.
    let deeper = tops_all problem key terms (path ++ number ∷ []) child more below later most (λ above n rest passed e there. none (number ∷ above) n rest passed (ap (λ p. number ∷ p) e) (rw first there)) in
    let moved : Among line (topmost problem key terms (path ++ number ∷ []) child) = subst (λ p. Among (line_of problem p below) (topmost problem key terms (path ++ number ∷ []) child)) (one_more path more number) deeper in
    let here : Among line (below_by problem key term terms path node number) = rw first (among_front line (topmost problem key terms (path ++ number ∷ []) child) [] moved) in
    by (is_at_most (bound_of problem node) key) refl (among_flat (below_by problem key term terms path node) line 0 (length term.func.pieces) number (omega arith) (omega (arith, past_all term node child number first)) here))
  where
    by : (b : Bool) → is_at_most (bound_of problem node) key ≡ b → Among (line_of problem (path ++ number ∷ more) below) (flat_map (below_by problem key term terms path node) (numbers_from 0 (length term.func.pieces))) → Among (line_of problem (path ++ number ∷ more) below) (cond b (line_of problem path node ∷ []) (flat_map (below_by problem key term terms path node) (numbers_from 0 (length term.func.pieces))))
    by true is among = absurd (none [] number more node refl refl (at_most_true (bound_of problem node) key is))
    by false is among = among

line_is : (problem : WeightedSum) (line : Line) (node : Node) → line.sum ≡ (bound_of problem node).sum → line.index ≡ (bound_of problem node).index → line_of problem line.path node ≡ line
line_is problem line node sum index = rw (sym sum, sym index) refl

-- so the certificate has just the topmost nodes, in the order of their paths
pub certificate_topmost : (problem : WeightedSum) → IsProblem problem → AreTopmost problem (key_at problem (best_of problem)) (certificate_of problem)
certificate_topmost problem h =
    let key = key_at problem (best_of problem) in
    let best : Claim = record { point = best_of problem; sum = sum_at problem (best_of problem) } in
    let accepted = certificate_accepted problem best h refl refl in
    let first = tops_first problem key problem.terms [] (root_of problem) in
    record {
      each = λ place line at. record {
        bounded = accepted.lines place line at;
        first = let way = each_at (IsFirst problem key problem.terms [] (root_of problem)) (certificate_of problem) place line first at in λ above number more node e. way.2 above number more node (sym way.1 ∙ e);
      };
      all = λ line is.
          let own = line_is problem line is.bounded.node is.bounded.sum is.bounded.index in
          let among = tops_all problem key problem.terms [] (root_of problem) line.path is.bounded.node is.bounded.reached is.bounded.most is.first in
          among_place line (certificate_of problem) (subst (λ (l : Line). Among l (certificate_of problem)) own among);
      rise = accepted.rise;
    }
