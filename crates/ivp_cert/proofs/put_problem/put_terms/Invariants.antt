use Rattle.std.proofs.Common.{flat_map, drop, length}
use Rattle.moos_io.proofs.BufferedWriting.{Leaves}
use Rattle.ivp_cert.specs.Texts.{term_text}
use Rattle.ivp_cert.proofs.put_problem.put_terms.Given as goal

abbrev pub invariant-loop-number : goal.invariant-loop-number
invariant-loop-number g l =
    Leaves g.K.Sink.taken g.K.Sink.faults l.initial.out l.out
    (flat_map (term_text l.prefix (length l.problem.axes)) (drop l.number l.problem.terms)) (flat_map (term_text l.prefix (length l.problem.axes)) l.problem.terms)
