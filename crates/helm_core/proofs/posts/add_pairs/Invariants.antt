use Rattle.std.proofs.Common.{◌≡◌, ◌++◌, take}
use Rattle.helm_core.proofs.posts.add_pairs.Given as goal

abbrev pub invariant-loop-pair : goal.invariant-loop-pair
invariant-loop-pair l = l.posts ≡ l.fn.posts ++ take l.pair-index l.pairs
