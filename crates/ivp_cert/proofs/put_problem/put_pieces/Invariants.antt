use Rattle.std.proofs.Common.{flat_map, drop}
use Rattle.moos_io.proofs.BufferedWriting.{Leaves}
use Rattle.ivp_cert.specs.Texts.{piece_text}
use Rattle.ivp_cert.proofs.put_problem.put_pieces.Given as goal

abbrev pub invariant-loop-number : goal.invariant-loop-number
invariant-loop-number g l =
    Leaves g.K.Sink.taken g.K.Sink.faults l.initial.out l.out
    (flat_map (piece_text l.prefix l.axes) (drop l.number l.func.pieces)) (flat_map (piece_text l.prefix l.axes) l.func.pieces)
