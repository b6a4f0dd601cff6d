use Rattle.std.proofs.Common.{flat_map, drop}
use Rattle.moos_io.proofs.BufferedWriting.{Leaves}
use Rattle.ivp_cert.specs.Texts.{line_text}
use Rattle.ivp_cert.proofs.print.put_lines.Given as goal

abbrev pub invariant-loop-line : goal.invariant-loop-line
invariant-loop-line g l =
    Leaves g.K.Sink.taken g.K.Sink.faults l.initial.out l.out
    (flat_map (line_text l.prefix) (drop l.line-index l.lines)) (flat_map (line_text l.prefix) l.lines)
