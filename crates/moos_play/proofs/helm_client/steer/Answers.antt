use Rattle.std.proofs.Common.{◌≡◌, ◌≤◌, ◌+◌, Ok, arith, rules, subst, sym}
use Rattle.std.specs.declared.alloc.AllocError.{AllocError}
use Rattle.moos_play.specs.Steered.{HasSteered}
use Rattle.moos_step.proofs.Lines.{err_any}
use Rattle.moos_play.proofs.Ticking.{steered_more, steered_none, steers_next}
use Rattle.moos_play.proofs.helm_client.steer.Goals as goal

pub loop-helm_client-init : goal.loop-helm_client-init
loop-helm_client-init g c = record { so_far = steered_none c.args.lock.now c.args.seat.now c.args.helm_client.now c.args.ticks c.args.workers c.requires; within = c.requires.tick.count }

pub tick-requires-clause-steer : goal.tick-requires-clause-steer
tick-requires-clause-steer g c κs lives =
    steers_next c.args.lock.now c.args.seat.now c.loop-helm_client.seat c.args.helm_client.now c.loop-helm_client.helm_client c.args.ticks c.args.workers c.requires c.loop-helm_client.invariant.so_far c.loop-helm_client-test.true

pub loop-helm_client-preserved : goal.loop-helm_client-preserved
loop-helm_client-preserved g c = record {
  so_far = steered_more c.args.lock.now c.args.seat.now c.loop-helm_client.seat c.tick.new.seat c.args.helm_client.now c.loop-helm_client.helm_client c.tick.new.helm_client (c.loop-helm_client.helm_client.ticks + 1) c.tick.new.helm_client.ticks (Ok tt)
      c.loop-helm_client.invariant.so_far c.in_ok-tick.ensures (sym c.in_ok-tick.ensures.reached) (omega (arith, c.in_ok-tick.ensures.reached));
  within = omega (arith, c.in_ok-tick.ensures.reached, c.loop-helm_client-test.true);
}

pub returns-in_err-tick : goal.returns-in_err-tick
returns-in_err-tick g c =
    let most : c.loop-helm_client.helm_client.ticks + 1 ≤ c.args.ticks = omega (arith, c.loop-helm_client-test.true) in
    let so = steered_more c.args.lock.now c.args.seat.now c.loop-helm_client.seat c.tick.new.seat c.args.helm_client.now c.loop-helm_client.helm_client c.tick.new.helm_client (c.loop-helm_client.helm_client.ticks + 1) c.args.ticks _
    c.loop-helm_client.invariant.so_far c.in_err-tick.ensures tt most in
    record { made = so.made; same = so.same; told = search rules; own = search rules; steered = search rules; reached = search rules; stopped = err_any _ so.stopped }

pub returns : goal.returns
returns g c =
    let all : c.loop-helm_client.helm_client.ticks ≡ c.args.ticks = omega (arith, c.loop-helm_client.invariant.within, c.loop-helm_client-test.false) in
    subst (λ n. HasSteered {E = AllocError} c.args.lock.now n c.args.seat.now c.loop-helm_client.seat c.args.helm_client.now c.loop-helm_client.helm_client (Ok tt)) all c.loop-helm_client.invariant.so_far
