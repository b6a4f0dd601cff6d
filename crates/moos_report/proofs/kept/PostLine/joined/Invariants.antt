-- The line is the pieces so far.
use Rattle.std.proofs.Common.{◌≡◌, map, take}
use Rattle.std.specs.List.{concat}
use Rattle.moos_report.proofs.kept.PostLine.joined.Given as goal

abbrev pub invariant-loop-piece : goal.invariant-loop-piece
invariant-loop-piece l = l.line ≡ concat (map (λ piece. piece.now) (take l.piece-index l.pieces))
