use Rattle.std.proofs.Common.{flat_map, drop}
use Rattle.moos_io.proofs.BufferedWriting.{Leaves}
use Rattle.ivp_cert.specs.Texts.{axis_text}
use Rattle.ivp_cert.proofs.put_problem.put_axes.Given as goal

abbrev pub invariant-loop-number : goal.invariant-loop-number
invariant-loop-number g l =
    Leaves g.K.Sink.taken g.K.Sink.faults l.initial.out l.out
    (flat_map (axis_text l.prefix) (drop l.number l.domain)) (flat_map (axis_text l.prefix) l.domain)
