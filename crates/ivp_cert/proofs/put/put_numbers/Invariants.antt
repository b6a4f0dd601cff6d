use Rattle.std.proofs.Common.{flat_map, drop}
use Rattle.moos_io.proofs.BufferedWriting.{Leaves}
use Rattle.ivp_cert.specs.Texts.{number_word}
use Rattle.ivp_cert.proofs.put.put_numbers.Given as goal

abbrev pub invariant-loop-number : goal.invariant-loop-number
invariant-loop-number g l =
    Leaves g.K.Sink.taken g.K.Sink.faults l.initial.out l.out
    (flat_map number_word (drop l.number-index l.numbers)) (flat_map number_word l.numbers)
