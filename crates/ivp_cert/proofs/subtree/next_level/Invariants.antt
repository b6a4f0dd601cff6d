use Rattle.std.proofs.Common.{◌≡◌, ◌++◌, length, All}
use Rattle.std.specs.Vec.Iter.{into_iter_items, into_iter_len}
use Rattle.ivp_cert.specs.Subtrees.{IsSubtree, cut_in}
use Rattle.ivp_cert.proofs.subtree.next_level.Given as goal

-- the lines below the next level, with those of what is left, are the whole
abbrev pub invariant-loop-subtree : goal.invariant-loop-subtree
invariant-loop-subtree l = record {
  counted : into_iter_len l.subtree-iterator ≡ length (into_iter_items l.subtree-iterator);
  lines : cut_in l.problem l.key l.deeper.items ++ cut_in l.problem l.key (into_iter_items l.subtree-iterator) ≡ cut_in l.problem l.key l.fn.subtrees.items;
  subtrees : All (IsSubtree l.problem) l.deeper.items;
  rest : All (IsSubtree l.problem) (into_iter_items l.subtree-iterator);
}
