use Rattle.std.proofs.Common.{◌≡◌, ◌+◌, flat_map, drop}
use Rattle.moos_report.specs.Report.{said_text}
use Rattle.moos_io.proofs.BufferedWriting.{Leaves}
use Rattle.moos_report.proofs.posts.put_pairs.Given as goal

abbrev pub invariant-loop-pair : goal.invariant-loop-pair
invariant-loop-pair g l =
    Leaves g.K.Sink.taken g.K.Sink.faults l.initial.out l.out
    (flat_map (λ pair. said_text l.stamp l.source pair.var pair.value) (drop l.pair-index l.pairs)) (flat_map (λ pair. said_text l.stamp l.source pair.var pair.value) l.pairs)
    × (l.number ≡ l.first + l.pair-index)
