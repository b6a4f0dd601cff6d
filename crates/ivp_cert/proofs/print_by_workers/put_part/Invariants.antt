use Rattle.std.proofs.Common.{◌*◌, flat_map, drop}
use Rattle.moos_io.proofs.BufferedWriting.{Leaves}
use Rattle.ivp_cert.specs.Texts.{line_text}
use Rattle.ivp_cert.proofs.print_by_workers.put_part.Given as goal

abbrev pub invariant-loop-number : goal.invariant-loop-number
invariant-loop-number g l =
    Leaves g.K.Sink.taken g.K.Sink.faults l.initial.out l.out
    (flat_map (line_text l.prefix) (drop (l.number * 16384) l.lines)) (flat_map (line_text l.prefix) l.lines)
