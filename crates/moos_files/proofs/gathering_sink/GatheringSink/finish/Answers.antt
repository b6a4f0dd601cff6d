use Rattle.std.proofs.Common.{rules, ◌<◌, length, subst}
use Rattle.moos_io.specs.BufferedWriting.{Delivers}
use Rattle.moos_files.proofs.Gathering.{failed, passed_on}
use Rattle.moos_files.proofs.gathering_sink.GatheringSink.finish.Goals as goal

pub returns-in_err-count-clause-told : goal.returns-in_err-count-clause-told
returns-in_err-count-clause-told g c =
    let some : 0 < length c.loop-self.self-inside.held = search rules in
    subst (λ start. Delivers g.K.Sink.taken g.K.Sink.faults start.sink c.put.new.self c.from_residual.result start.held) c.self.view_is
    (failed g.K.Sink.taken g.K.Sink.faults _ _ _ _ _ _ c.loop-self.invariant some c.in_err-count.ensures.none c.in_err-count.ensures.fares c.in_err-count.ensures.rose c.from_residual.ensures.0)

pub loop-self-preserved : goal.loop-self-preserved
loop-self-preserved g c =
    passed_on _ _ _ _ _ _ _ _ c.in_ok-count.count c.loop-self.invariant c.as_slice-in-loop-self.ensures c.in_ok-count.ensures.took c.in_ok-count.ensures.fares c.let_go.ensures
