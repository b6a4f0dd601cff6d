use Rattle.std.proofs.Common.{◌≡◌, ◌≤◌, ◌++◌, map, drop}
use Rattle.ivp_build.specs.Builders.{piece_over}
use Rattle.ivp_build.specs.Ends.{runs_by}
use Rattle.ivp_build.proofs.along.pieces_by.Given as goal

abbrev pub invariant-loop-end : goal.invariant-loop-end
invariant-loop-end l =
    record {
      low : l.low ≤ l.count;
      made : l.pieces.items ++ map (piece_over l.domain l.axis l.profile) (runs_by l.low (drop l.end-index l.ends))
          ≡ map (piece_over l.domain l.axis l.profile) (runs_by 0 l.ends);
    }
