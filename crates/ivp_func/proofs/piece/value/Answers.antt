use Rattle.std.proofs.Common.{arith}
use Rattle.std.proofs.lemmas.Int.{ints}
use Rattle.ivp_func.proofs.Rises.{base_within, small_parts}
use Rattle.ivp_func.proofs.piece.value.Goals as goal

pub overflow_add-result-2 : goal.overflow_add-result-2
overflow_add-result-2 c = let base = base_within c.args.piece.now.base (small_parts c.args.piece.now c.requires).0 in omega (arith, ints)

pub overflow_add-result-3 : goal.overflow_add-result-3
overflow_add-result-3 c = let base = base_within c.args.piece.now.base (small_parts c.args.piece.now c.requires).0 in omega (arith, ints)

pub overflow_add-result-4 : goal.overflow_add-result-4
overflow_add-result-4 c = let base = base_within c.args.piece.now.base (small_parts c.args.piece.now c.requires).0 in omega (arith, ints)

pub returns : goal.returns
returns c =
    let base = base_within c.args.piece.now.base (small_parts c.args.piece.now c.requires).0 in
    rw (← c.rise.ensures.rise, ← c.rise-2.ensures.rise, ← c.rise-3.ensures.rise, ← c.rise-4.ensures.rise) (omega (arith, ints))
