-- An accepted certificate is one that the walk goes through to its end, and its point is the best; the certificate of the
-- problem is accepted for the best point.
use Rattle.std.proofs.Common.{◌≡◌, ℕ, suc, ◌<◌, ◌≤◌, Bool, true, false, ◌==◌, Some, List, [], ◌∷◌, ◌++◌, length, drop, refl, sym, ap, subst, ◌∙◌, arith, append-nil}
use Rattle.std.specs.Prelude.{slice_get}
use Rattle.std.proofs.lemmas.Bool.{and_parts, eqb-true}
use Rattle.moos_io.proofs.Lists.{each_at, each_from}
use Rattle.ivp_domain.specs.declared.axis.Axis.{Axis}
use Rattle.ivp_domain.specs.declared.boxes.Point.{Point}
use Rattle.ivp_domain.specs.Domains.{index_of, is_point, points_of}
use Rattle.ivp_problem.specs.declared.node.Node.{Node}
use Rattle.ivp_problem.specs.Problems.{IsProblem, WeightedSum}
use Rattle.ivp_problem.specs.Sums.{best_of, key_at, sum_at}
use Rattle.ivp_problem.specs.Trees.{bound_of, node_below, node_of, root_of}
use Rattle.ivp_problem.proofs.BestPoints.{best_listed}
use Rattle.ivp_problem.proofs.Bounds.{bound_attained, key_bound}
use Rattle.ivp_problem.proofs.Nodes.{node_keeps}
use Rattle.ivp_func.proofs.Counting.{one_if}
use Rattle.ivp_cert.specs.declared.cert.Line.{Line}
use Rattle.ivp_cert.specs.declared.claim.Claim.{Claim}
use Rattle.ivp_cert.specs.Certificates.{Accepts, begins, certificate_of, IsLine}
use Rattle.ivp_cert.specs.Walks.{behind_node}
use Rattle.ivp_cert.proofs.Covering.{Anyhow, Covers, Under}
use Rattle.ivp_cert.proofs.Leaves.{below_depth, below_inside, below_length, below_append, has_leaf, Reached, reached_full, reached_node, root_reached}
use Rattle.ivp_cert.proofs.Paths.{beginning, beginning_cons}
use Rattle.ivp_cert.proofs.Walking.{covers_walk, topmost_covers, walk_covers}
use Rattle.ivp_func.proofs.Facts.{area_point}
use Rattle.ivp_problem.specs.declared.key.Key.{Key}
use Rattle.ivp_problem.specs.Keys.{AtMost, key_of}
use Rattle.ivp_problem.proofs.KeyOrder.{at_most_both, at_most_then, best_most, best_point}

-- from the root, lines cover as an accepted certificate does
under_root : (problem : WeightedSum) (key : Key) (line : Line) → IsLine problem key line → Under Anyhow problem key problem.terms [] (root_of problem) line
under_root problem key line is = (line.path, tt, record { split = refl; below = is.node; reached = is.reached; sum = is.sum; index = is.index; most = is.most })

root_under : (problem : WeightedSum) (key : Key) (line : Line) → Under Anyhow problem key problem.terms [] (root_of problem) line → IsLine problem key line
root_under problem key line (path, any, own) = record { node = own.below; reached = ap (node_of problem) own.split ∙ own.reached; sum = own.sum; index = own.index; most = own.most }

pub accepts_covers : (problem : WeightedSum) (claim : Claim) (cert : List Line) → Accepts problem claim cert → Covers Anyhow problem (key_at problem claim.point) problem.terms [] (root_of problem) cert
accepts_covers problem claim cert is =
    let key = key_at problem claim.point in
    record {
      under = each_from (Under Anyhow problem key problem.terms [] (root_of problem)) cert (λ k line at. under_root problem key line (is.lines k line at));
      once = λ path leaf any reached full. is.once path leaf reached (omega (arith, below_depth problem.terms path (root_of problem) leaf reached, full));
      rise = is.rise;
    }

pub covers_accepts : (problem : WeightedSum) (claim : Claim) (cert : List Line) → claim.sum ≡ sum_at problem claim.point → Covers Anyhow problem (key_at problem claim.point) problem.terms [] (root_of problem) cert → Accepts problem claim cert
covers_accepts problem claim cert sum covers =
    let key = key_at problem claim.point in
    record {
      sum = sum;
      lines = λ k line at. root_under problem key line (each_at (Under Anyhow problem key problem.terms [] (root_of problem)) cert k line covers.under at);
      once = λ path leaf reached full. covers.once path leaf tt reached (deep path leaf reached full);
      rise = covers.rise;
    }
  where
    deep : (path : List ℕ) (leaf : Node) → node_of problem path ≡ Some leaf → length problem.terms ≤ leaf.depth → length path ≡ length problem.terms
    deep path leaf reached full = omega (arith, below_depth problem.terms path (root_of problem) leaf reached, below_length problem.terms path (root_of problem) leaf reached, full)

-- what the walk says of the whole tree
abbrev pub walked : WeightedSum → Key → List Line → Type 0
walked problem key cert = behind_node problem key problem.terms [] (root_of problem) cert ≡ Some []

pub walked_accepts : (problem : WeightedSum) (claim : Claim) (cert : List Line) → claim.sum ≡ sum_at problem claim.point → walked problem (key_at problem claim.point) cert → Accepts problem claim cert
walked_accepts problem claim cert sum walk =
    let past = walk_covers problem (key_at problem claim.point) problem.terms [] (root_of problem) cert [] walk in
    let whole : cert ≡ past.passed = past.whole ∙ append-nil past.passed in
    covers_accepts problem claim cert sum (subst (Covers Anyhow problem (key_at problem claim.point) problem.terms [] (root_of problem)) (sym whole) past.covers)

pub accepts_walked : (problem : WeightedSum) (claim : Claim) (cert : List Line) → IsProblem problem → Accepts problem claim cert → walked problem (key_at problem claim.point) cert
accepts_walked problem claim cert h is =
    ap (behind_node problem (key_at problem claim.point) problem.terms [] (root_of problem)) (sym (append-nil cert))
    ∙ covers_walk problem (key_at problem claim.point) problem.terms [] (root_of problem) cert [] h (root_reached problem) (accepts_covers problem claim cert is)

-- a line whose path begins another one
some_line : (path : List ℕ) (cert : List Line) → 0 < beginning path cert → (k : ℕ) × (line : Line) × (slice_get cert k ≡ Some line) × (begins line.path path ≡ true)
some_line path [] some = absurd (omega (arith, some))
some_line path (line ∷ cert) some = by (begins line.path path) refl (some_line path cert)
  where
    by : (t : Bool) → begins line.path path ≡ t → (0 < beginning path cert → (k : ℕ) × (l : Line) × (slice_get cert k ≡ Some l) × (begins l.path path ≡ true)) → (k : ℕ) × (l : Line) × (slice_get (line ∷ cert) k ≡ Some l) × (begins l.path path ≡ true)
    by true e more = (0, line, refl, e)
    by false e more = let no = ap one_if e in let found = more (omega (arith, some, beginning_cons path line cert, no)) in (suc found.0, found.1, found.2, found.3)

begun : (front path : List ℕ) → begins front path ≡ true → (more : List ℕ) × (path ≡ front ++ more)
begun [] path h = (path, refl)
begun (n ∷ front) [] h = absurd (cc)
begun (n ∷ front) (m ∷ path) h =
    let both = and_parts (n == m) (begins front path) h in
    let same : n ≡ m = eqb-true n m both.0 in
    let more = begun front path both.1 in
    (more.0, ap (λ k. k ∷ path) (sym same) ∙ ap (λ t. n ∷ t) more.1)

-- no key is above that of an accepted claim
pub accepted_most : (problem : WeightedSum) (claim : Claim) (cert : List Line) (p : Point) → IsProblem problem → Accepts problem claim cert → is_point problem.axes p ≡ true → AtMost (key_at problem p) (key_at problem claim.point)
accepted_most problem claim cert p h is inside =
    let leaf = has_leaf problem problem.terms [] (root_of problem) p h (root_reached problem) inside in
    let once = is.once leaf.path leaf.leaf leaf.reached (omega (arith, below_depth problem.terms leaf.path (root_of problem) leaf.leaf leaf.reached, leaf.full)) in
    let found = some_line leaf.path cert (omega (arith, once)) in
    let line = is.lines found.0 found.1 found.2 in
    let front = begun found.1.path leaf.path found.3 in
    let below : node_below (drop (length found.1.path) problem.terms) front.0 line.node ≡ Some leaf.leaf = sym (below_append problem.terms found.1.path front.0 (root_of problem) line.node line.reached) ∙ (ap (node_of problem) (sym front.1) ∙ leaf.reached) in
    let in_line = below_inside (drop (length found.1.path) problem.terms) front.0 line.node leaf.leaf p below leaf.inside in
    let keeps = node_keeps problem line.node h (record { path = found.1.path; reached = line.reached }) in
    let bound = key_bound problem line.node p keeps in_line in
    at_most_then (key_at problem p) (bound_of problem line.node) (key_at problem claim.point) bound line.most

-- so its point is the best
pub accepted_best : (problem : WeightedSum) (claim : Claim) (cert : List Line) → IsProblem problem → Accepts problem claim cert → is_point problem.axes claim.point ≡ true → slice_get (points_of problem.axes) (index_of problem.axes claim.point) ≡ Some claim.point → claim.point ≡ best_of problem
accepted_best problem claim cert h is inside here =
    let best = best_of problem in
    let point = claim.point in
    let below = accepted_most problem claim cert best h is (best_point problem) in
    let above = best_most problem point inside in
    let same = at_most_both (key_at problem point) (key_at problem best) above below in
    let index : index_of problem.axes point ≡ index_of problem.axes best = ap (λ (k : Key). k.index) same in
    let both : Some point ≡ Some best = sym here ∙ (ap (slice_get (points_of problem.axes)) index ∙ best_listed problem h) in
    cc

-- the certificate of a problem is accepted for its best point
attains : (problem : WeightedSum) → IsProblem problem → (path : List ℕ) (node : Node) → Reached problem [] path node → AtMost (bound_of problem node) (key_at problem (best_of problem))
attains problem h path node at =
    let keeps = node_keeps problem node h (reached_node problem [] path node at) in
    let one = bound_attained problem node h keeps (reached_full problem path node at) in
    let most = best_most problem one.0 (area_point problem.axes node.area one.0 keeps.inside one.1) in
    subst (λ (k : Key). AtMost k (key_at problem (best_of problem))) one.2 most

pub certificate_accepted : (problem : WeightedSum) (claim : Claim) → IsProblem problem → claim.point ≡ best_of problem → claim.sum ≡ sum_at problem claim.point → Accepts problem claim (certificate_of problem)
certificate_accepted problem claim h best sum =
    let key = key_at problem (best_of problem) in
    let covers = topmost_covers problem key problem.terms [] (root_of problem) (attains problem h) (root_reached problem) in
    covers_accepts problem claim (certificate_of problem) sum (subst (λ p. Covers Anyhow problem (key_at problem p) problem.terms [] (root_of problem) (certificate_of problem)) (sym best) covers)

-- a point that stands in the list of points, as the code finds it
pub listed_in : (problem : WeightedSum) (axes : List Axis) (index : ℕ) (point : Point) → axes ≡ problem.axes → index ≡ index_of axes point → slice_get (points_of axes) index ≡ Some point → slice_get (points_of problem.axes) (index_of problem.axes point) ≡ Some point
listed_in problem axes index point same at listed =
    subst (λ (a : List Axis). slice_get (points_of a) (index_of a point) ≡ Some point) same (subst (λ n. slice_get (points_of axes) n ≡ Some point) at listed)

-- the key of a claim, as the code finds it
pub claim_key : (problem : WeightedSum) (claim : Claim) (axes : List Axis) (index : ℕ) (key : Key) (sum : ℕ) → axes ≡ problem.axes → index ≡ index_of axes claim.point → claim.sum ≡ sum → sum ≡ sum_at problem claim.point → key ≡ key_of claim.sum index → key ≡ key_at problem claim.point
claim_key problem claim axes index key sum same at equal is made =
    made ∙ (ap (λ s. key_of s index) (equal ∙ is) ∙ ap (key_of (sum_at problem claim.point)) (at ∙ ap (λ (a : List Axis). index_of a claim.point) same))
