use Rattle.std.proofs.Common.{[], length}
use Rattle.moos_io.specs.Writing.{way, Went}
use Rattle.moos_files.proofs.gathering_sink.GatheringSink.finish.Given as goal

-- a piece of what was held was passed on, and the rest is held
abbrev pub invariant-loop-self : goal.invariant-loop-self
invariant-loop-self g l =
    Went (way (g.K.Sink.taken l.initial.self-inside.sink) l.initial.self-inside.held (g.K.Sink.faults l.initial.self-inside.sink))
    (way (g.K.Sink.taken l.self-inside.sink) l.self-inside.held (g.K.Sink.faults l.self-inside.sink)) []

abbrev pub decreases-loop-self : goal.decreases-loop-self
decreases-loop-self g l = length l.self-inside.held
