-- The lines of subtrees: they join in order, and those of a child go behind those of the children before it.
use Rattle.std.proofs.Common.{◌≡◌, List, [], ◌∷◌, ◌++◌, ap, ◌∙◌, append_assoc, append-nil}
use Rattle.std.proofs.lemmas.Grind.{flat_map-append}
use Rattle.ivp_problem.specs.declared.key.Key.{Key}
use Rattle.ivp_problem.specs.Problems.{WeightedSum}
use Rattle.ivp_cert.specs.declared.cert.Line.{Line}
use Rattle.ivp_cert.specs.declared.subtree.Subtree.{Subtree}
use Rattle.ivp_cert.specs.Subtrees.{cut_at, cut_in}

-- one more subtree
pub cuts_more : (problem : WeightedSum) (key : Key) (subtrees : List Subtree) (subtree : Subtree) → cut_in problem key (subtrees ++ subtree ∷ []) ≡ cut_in problem key subtrees ++ cut_at problem key subtree
cuts_more problem key subtrees subtree = flat_map-append (cut_at problem key) subtrees (subtree ∷ []) ∙ ap (λ ls. cut_in problem key subtrees ++ ls) (append-nil (cut_at problem key subtree))

-- the next subtree's lines go behind those so far
pub cuts_next : (problem : WeightedSum) (key : Key) (deeper after left : List Subtree) (subtree : Subtree) (whole : List Line) → cut_in problem key after ≡ cut_in problem key deeper ++ cut_at problem key subtree → cut_in problem key deeper ++ cut_in problem key (subtree ∷ left) ≡ whole → cut_in problem key after ++ cut_in problem key left ≡ whole
cuts_next problem key deeper after left subtree whole added was =
    ap (λ ls. ls ++ cut_in problem key left) added ∙ (append_assoc (cut_in problem key deeper) (cut_at problem key subtree) (cut_in problem key left) ∙ was)
