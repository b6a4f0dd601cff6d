-- The topmost nodes of a problem's tree, as a certificate has them: by their paths, and not by a walk.
use Rattle.std.specs.Prelude.{◌≡◌, ℕ, Some, List, ◌∷◌, ◌++◌, slice_get}
use Rattle.ivp_problem.specs.declared.key.Key.{Key}
use Rattle.ivp_problem.specs.declared.node.Node.{Node}
use Rattle.ivp_problem.specs.Keys.{AtMost}
use Rattle.ivp_problem.specs.Problems.{WeightedSum}
use Rattle.ivp_problem.specs.Trees.{bound_of, node_of}
use Rattle.ivp_cert.specs.Certificates.{IsLine, Rise}
use Rattle.ivp_cert.specs.declared.cert.Line.{Line}

-- no node above that of the path, so of a shorter path which goes on to it, has a bound that is at most the key
abbrev pub NoneAbove : WeightedSum → Key → List ℕ → Type 0
NoneAbove problem key path = (above : List ℕ) (number : ℕ) (more : List ℕ) (node : Node) → path ≡ above ++ number ∷ more → node_of problem above ≡ Some node → AtMost (bound_of problem node) key → ⊥

-- the line is that of a topmost node whose bound is at most the key
pub record IsTopmost (problem : WeightedSum) (key : Key) (line : Line) : Type 0 where
  pub bounded : IsLine problem key line
  pub first : NoneAbove problem key line.path

-- the lines are those of all topmost nodes whose bound is at most the key, in the order of their paths
pub record AreTopmost (problem : WeightedSum) (key : Key) (lines : List Line) : Type 0 where
  pub each : (place : ℕ) (line : Line) → slice_get lines place ≡ Some line → IsTopmost problem key line
  pub all : (line : Line) → IsTopmost problem key line → (place : ℕ) × (slice_get lines place ≡ Some line)
  pub rise : Rise lines
