use Rattle.std.proofs.Common.{[]}
use Rattle.moos_io.proofs.Writing.{held_more}
use Rattle.moos_report.proofs.kept.PostLine.joined.Goals as goal

pub loop-piece-preserved : goal.loop-piece-preserved
loop-piece-preserved c = held_more (λ piece. piece.now) c.args.pieces.now c.loop-piece.piece-index _ [] _ _ c.loop-piece-test.true c.loop-piece.invariant c.add.ensures
