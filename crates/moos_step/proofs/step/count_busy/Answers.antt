use Rattle.std.proofs.Common.{◌∙◌, ◌+◌, ap, arith, sym}
use Rattle.moos_step.proofs.Steps.{busy_begin, busy_on}
use Rattle.moos_step.proofs.step.count_busy.Goals as goal

pub loop-client-init : goal.loop-client-init
loop-client-init c =
    let next = c.next_busy-client.ensures in
    record {
      busy = sym (busy_begin c.args.lines.now c.args.clients c.next_busy-client.result next);
      few = omega (arith, next.above);
      here = next.busy;
      within = next.within;
    }

pub loop-client-preserved : goal.loop-client-preserved
loop-client-preserved c =
    let so = c.loop-client.invariant in
    let next = c.next_busy-client-in-loop-client.ensures in
    record {
      busy = ap (λ n. n + 1) so.busy ∙ sym (busy_on c.args.lines.now c.loop-client.client c.args.clients c.next_busy-client-in-loop-client.result (omega (arith, so.few)) (so.here c.loop-client-test.true) next);
      few = omega (arith, so.few, next.above);
      here = next.busy;
      within = next.within;
    }
