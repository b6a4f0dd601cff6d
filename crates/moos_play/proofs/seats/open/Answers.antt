use Rattle.std.proofs.Common.{arith}
use Rattle.moos_play.proofs.Beginning.{opens_alone, opens_posting}
use Rattle.moos_play.proofs.seats.open.Goals as goal

pub returns-in_ok-call_alone-2-clause-opened : goal.returns-in_ok-call_alone-2-clause-opened
returns-in_ok-call_alone-2-clause-opened g c =
    opens_posting c.args.helm_client.now c.count_call.new.helm_client _ _ c.args.first.now.seen c.call_alone.new.first.seen c.call_alone-then-len-gt0.new.first.seen c.count_call.ensures c.in_ok-wants.ensures c.in_ok-pairs.ensures
    (omega (arith, c.len.ensures, c.if-len-gt0.true)) c.in_ok-call_alone.ensures.added c.in_ok-call_alone-2.ensures.added

pub returns-else-len-gt0-clause-opened : goal.returns-else-len-gt0-clause-opened
returns-else-len-gt0-clause-opened g c =
    opens_alone c.args.helm_client.now c.count_call.new.helm_client _ _ c.args.first.now.seen c.call_alone.new.first.seen c.count_call.ensures c.in_ok-wants.ensures c.in_ok-pairs.ensures
    (omega (arith, c.len.ensures, c.if-len-gt0.false)) c.in_ok-call_alone.ensures.added
