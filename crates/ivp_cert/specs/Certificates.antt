-- Certificates: the nodes of a problem's tree that show which point is its best, and when a list of nodes is accepted.
use Rattle.std.specs.Prelude.{◌≡◌, ℕ, ◌≤◌, Bool, true, false, ◌&&◌, ◌||◌, ◌==◌, nat_lt, if◌then◌else◌, IsTrue, Some, List, [], ◌∷◌, ◌++◌, length, slice_get, count_by}
use Rattle.std.specs.List.{flat_map, list_all}
use Rattle.std.specs.Option.{option_to_list}
use Rattle.ivp_domain.specs.Boxes.{numbers_from}
use Rattle.ivp_problem.specs.declared.node.Node.{Node}
use Rattle.ivp_problem.specs.declared.term.Term.{Term}
use Rattle.ivp_problem.specs.Problems.{WeightedSum}
use Rattle.ivp_problem.specs.Sums.{best_of, key_at, sum_at}
use Rattle.ivp_problem.specs.Trees.{bound_of, child_in, node_of, root_of}
use Rattle.ivp_problem.specs.Keys.{AtMost, is_at_most}
use Rattle.ivp_problem.specs.declared.key.Key.{Key}
use Rattle.ivp_cert.specs.declared.cert.Line.{Line}
use Rattle.ivp_cert.specs.declared.claim.Claim.{Claim}
use Rattle.ivp_cert.specs.declared.claim.Decision.{Decision}

-- the line of a node: its path, and the sum and the index of its bound
abbrev pub line_of : WeightedSum → List ℕ → Node → Line
line_of problem path node = record { path = path; sum = (bound_of problem node).sum; index = (bound_of problem node).index }

-- The lines of the topmost nodes, from this node on, whose bound is at most the key: of this node itself, or else of those
-- below its children, in piece order. The terms are those of which the node has chosen no piece.
abbrev pub topmost : WeightedSum → Key → List Term → List ℕ → Node → List Line
topmost problem key [] path node = if is_at_most (bound_of problem node) key then line_of problem path node ∷ [] else []
topmost problem key (term ∷ terms) path node =
    if is_at_most (bound_of problem node) key then line_of problem path node ∷ []
    else flat_map (λ number. flat_map (topmost problem key terms (path ++ number ∷ [])) (option_to_list (child_in term node number)))
    (numbers_from 0 (length term.func.pieces))

-- the certificate of a problem: the topmost nodes of its tree whose bound is at most the key of the best point
abbrev pub certificate_of : WeightedSum → List Line
certificate_of problem = topmost problem (key_at problem (best_of problem)) problem.terms [] (root_of problem)

-- the decision on a problem: its best point, the sum there, and its certificate
abbrev pub best_decision : WeightedSum → Decision
best_decision problem = record { problem = problem; claim = record { point = best_of problem; sum = sum_at problem (best_of problem) }; cert = certificate_of problem }

-- a path is a beginning of another one, or the whole of it
abbrev pub begins : List ℕ → List ℕ → Bool
begins [] path = true
begins (number ∷ rest) [] = false
begins (number ∷ rest) (other ∷ more) = number == other && begins rest more

-- a path is before another one, as their numbers compare one by one: a beginning is before what goes on
abbrev pub is_before : List ℕ → List ℕ → Bool
is_before path [] = false
is_before [] (other ∷ more) = true
is_before (number ∷ rest) (other ∷ more) = nat_lt number other || (number == other && is_before rest more)

-- the paths rise: each is before those of all later lines
abbrev pub Rise : List Line → Type 0
Rise [] = Unit {0}
Rise (line ∷ lines) = IsTrue (list_all (λ later. is_before line.path later.path) lines) × Rise lines

-- the line is that of a node of the tree, whose bound is at most the key
pub record IsLine (problem : WeightedSum) (key : Key) (line : Line) : Type 0 where
  pub node : Node
  pub reached : node_of problem line.path ≡ Some node
  pub sum : line.sum ≡ (bound_of problem node).sum
  pub index : line.index ≡ (bound_of problem node).index
  pub most : AtMost (bound_of problem node) key

-- A certificate is accepted for a claim: the claim's sum is the one at its point; each line is one of a node whose bound is
-- at most the key there; each node of full depth has exactly one line whose path begins its own; and the paths rise.
pub record Accepts (problem : WeightedSum) (claim : Claim) (cert : List Line) : Type 0 where
  pub sum : claim.sum ≡ sum_at problem claim.point
  pub lines : (place : ℕ) (line : Line) → slice_get cert place ≡ Some line → IsLine problem (key_at problem claim.point) line
  pub once : (path : List ℕ) (node : Node) → node_of problem path ≡ Some node → length problem.terms ≤ node.depth → count_by (λ line. begins line.path path) cert ≡ 1
  pub rise : Rise cert
