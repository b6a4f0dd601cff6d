use Rattle.std.proofs.Common.{◌≡◌, ◌∙◌, sym, to_z, of_z, w64, arith}
use Rattle.std.proofs.lemmas.Int.{ints}
use Rattle.ivp_func.proofs.Counting.{value_at-here, value_at-later}
use Rattle.ivp_func.proofs.Facts.{piece_at}
use Rattle.ivp_func.proofs.values.value_at.Goals as goal

pub value-requires : goal.value-requires
value-requires c = (piece_at c.args.domain.now c.args.pieces.now c.loop-piece.piece-index c.requires c.loop-piece-test.true).1

pub loop-piece-preserved : goal.loop-piece-preserved
loop-piece-preserved c = sym (value_at-later c.args.pieces.now c.loop-piece.piece-index c.args.point.now c.loop-piece-test.true (sym c.holds.ensures ∙ c.if-holds.false)) ∙ c.loop-piece.invariant

pub returns-then-holds : goal.returns-then-holds
returns-then-holds c =
    let kept : to_z w64 (of_z w64 c.value.result) ≡ c.value.result = omega (arith, ints) in
    kept ∙ (c.value.ensures ∙ (sym (value_at-here c.args.pieces.now c.loop-piece.piece-index c.args.point.now c.loop-piece-test.true (sym c.holds.ensures ∙ c.if-holds.true)) ∙ c.loop-piece.invariant))
