use Rattle.std.proofs.Common.{flat_map, length}
use Rattle.moos_io.proofs.BufferedWriting.{Leaves}
use Rattle.ivp_cert.specs.Texts.{line_text}
use Rattle.ivp_cert.proofs.print_by_workers.put_parts.Given as goal

abbrev pub invariant-loop-left : goal.invariant-loop-left
invariant-loop-left g l =
    Leaves g.K.Sink.taken g.K.Sink.faults l.initial.out l.out
    (flat_map (line_text l.prefix) l.left) (flat_map (line_text l.prefix) l.lines)

abbrev pub decreases-loop-left : goal.decreases-loop-left
decreases-loop-left g l = length l.left
