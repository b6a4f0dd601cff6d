use Rattle.std.proofs.Common.{arith}
use Rattle.std.proofs.lemmas.Int.{ints}
use Rattle.ivp_problem.proofs.node.chosen.Goals as goal

pub overflow_add-result-3 : goal.overflow_add-result-3
overflow_add-result-3 c = let base = c.requires.node.base in omega (arith, ints)

pub overflow_add-result-4 : goal.overflow_add-result-4
overflow_add-result-4 c = let base = c.requires.node.base in omega (arith, ints)

pub returns : goal.returns
returns c =
    let base = c.requires.node.base in
    rw (← c.rise.ensures.rise, ← c.rise-2.ensures.rise, ← c.rise-3.ensures.rise, ← c.rise-4.ensures.rise) (omega (arith, ints))
