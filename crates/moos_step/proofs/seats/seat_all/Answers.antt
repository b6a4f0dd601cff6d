use Rattle.moos_step.proofs.Steps.{seated_all, seated_more}
use Rattle.moos_step.proofs.seats.seat_all.Goals as goal

pub loop-client-preserved : goal.loop-client-preserved
loop-client-preserved c =
    seated_more _ _ _ c.loop-client.first c.split-seat.new.pass c.split-seat.result c.meet.new.pass c.loop-client.invariant c.loop-client-test.true c.split-seat.ensures.pass c.split-seat.ensures.new c.meet.ensures.pass

pub returns-clause-gathered : goal.returns-clause-gathered
returns-clause-gathered c = seated_all _ _ _ c.loop-client.first c.loop-client.invariant c.loop-client-test.false c.requires.clients
