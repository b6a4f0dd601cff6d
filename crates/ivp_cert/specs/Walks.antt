-- One walk over the tree with a place in the lines. It serves the checker alone: what is accepted is said without it.
use Rattle.std.specs.Prelude.{ℕ, zero, suc, Bool, ◌&&◌, ◌==◌, if◌then◌else◌, Option, Some, None, List, [], ◌∷◌, ◌++◌, length}
use Rattle.std.specs.Option.{option_and_then}
use Rattle.std.specs.Str.{bytes_eq}
use Rattle.ivp_problem.specs.declared.node.Node.{Node}
use Rattle.ivp_problem.specs.declared.term.Term.{Term}
use Rattle.ivp_problem.specs.Problems.{WeightedSum}
use Rattle.ivp_problem.specs.Trees.{bound_of, child_in}
use Rattle.ivp_problem.specs.declared.key.Key.{Key}
use Rattle.ivp_problem.specs.Keys.{is_at_most}
use Rattle.ivp_cert.specs.declared.cert.Line.{Line}

-- the line is this node's, and the node's bound is at most the key
abbrev pub is_line_of : WeightedSum → Key → List ℕ → Node → Line → Bool
is_line_of problem key path node line =
    bytes_eq line.path path && line.sum == (bound_of problem node).sum && line.index == (bound_of problem node).index
    && is_at_most (bound_of problem node) key

-- the lines behind the first one, if that one is this node's
abbrev pub behind_own : WeightedSum → Key → List ℕ → Node → List Line → Option (List Line)
behind_own problem key path node [] = None
behind_own problem key path node (line ∷ lines) = if is_line_of problem key path node line then Some lines else None

-- the lines behind those of a child, if there is one
abbrev pub behind_child : (Node → List Line → Option (List Line)) → Option Node → List Line → Option (List Line)
behind_child behind None lines = Some lines
behind_child behind (Some child) lines = behind child lines

-- the lines behind those of `count` children, from number `low` on, one after the other
abbrev pub behind_each : (ℕ → List Line → Option (List Line)) → ℕ → ℕ → List Line → Option (List Line)
behind_each behind low zero lines = Some lines
behind_each behind low (suc count) lines = option_and_then (behind_each behind (suc low) count) (behind low lines)

-- the one, or else the other
abbrev pub or_else : Option (List Line) → Option (List Line) → Option (List Line)
or_else (Some lines) other = Some lines
or_else None other = other

-- the lines behind those that cover a node: its own line, or else those of its children, in piece order
abbrev pub behind_node : WeightedSum → Key → List Term → List ℕ → Node → List Line → Option (List Line)
behind_node problem key [] path node lines = behind_own problem key path node lines
behind_node problem key (term ∷ terms) path node lines =
    or_else (behind_own problem key path node lines)
    (behind_each (λ number. behind_child (behind_node problem key terms (path ++ number ∷ [])) (child_in term node number)) 0 (length term.func.pieces) lines)
