use Rattle.std.proofs.Common.{◌*◌, ◌+◌, [], ◌∷◌, ap, arith, inr, length, length-append, refl, rules, subst, sym}
use Rattle.helm_core.specs.Helms.{plan_of}
use Rattle.moos_play.specs.declared.helm_client.HelmClient.{HelmClient}
use Rattle.moos_play.specs.Steered.{HasIterated, HasStopped, helm_setup_of}
use Rattle.moos_play.proofs.Helming.{ticks_once}
use Rattle.moos_step.proofs.Lines.{err_any}
use Rattle.moos_play.proofs.Steering.{called_of, called_own}
use Rattle.moos_play.proofs.Ticking.{calling_makes, fetching_stops, makes_more, telling_stops, ticked_same}
use Rattle.moos_play.proofs.helm_client.tick.Goals as goal

pub returns-in_err-iteration : goal.returns-in_err-iteration
returns-in_err-iteration g c =
    let s = c.args.helm_client.now in
    let may = c.requires.steer in
    let t = c.count_call.new.helm_client in
    let kept = ticked_same s t (record t { helm = c.iterate.new.helm }) c.iterate.new.helm c.count_call.ensures refl (ap plan_of c.in_err-iteration.ensures.same) in
    record {
      made = calling_makes c.args.seat.now c.iterate.new.seat _ _ c.in_err-iteration.ensures.stopped;
      same = kept.0;
      told = search rules;
      own = search rules;
      steered = search rules;
      reached = search rules;
      stopped = err_any _ (subst (λ n. HasStopped c.args.lock.now.base (helm_setup_of s) n (s.ticks + 1) c.iterate.new.seat) (sym kept.2)
          (fetching_stops c.args.lock.now.base s c.args.seat.now c.iterate.new.seat _ may.tick.steered may.number may.own refl c.in_err-iteration.ensures.stopped));
    }

pub returns-in_err-post_iteration : goal.returns-in_err-post_iteration
returns-in_err-post_iteration g c =
    let s = c.args.helm_client.now in
    let may = c.requires.steer in
    let t = c.count_call.new.helm_client in
    let made = c.in_ok-iteration.ensures.iterated in
    let kept = ticked_same s t c.count_call-2.new.helm_client c.iterate.new.helm c.count_call.ensures c.count_call-2.ensures made.ticked.plan in
    record {
      made = makes_more c.args.seat.now c.iterate.new.seat c.post_iteration.new.seat (calling_makes c.args.seat.now c.iterate.new.seat _ _ (inr (called_of c.args.seat.now c.iterate.new.seat _ _ _ made.fetched))) (calling_makes c.iterate.new.seat c.post_iteration.new.seat _ _ c.in_err-post_iteration.ensures.stopped);
      same = kept.0;
      told = search rules;
      own = search rules;
      steered = search rules;
      reached = search rules;
      stopped = err_any _ (subst (λ n. HasStopped c.args.lock.now.base (helm_setup_of s) n (s.ticks + 1) c.post_iteration.new.seat) (sym kept.2)
          (telling_stops c.args.lock.now.base s c.iterate.new.helm c.args.seat.now c.iterate.new.seat c.post_iteration.new.seat _ c.in_ok-iteration.iteration may.tick.steered may.number may.own refl
          (subst (λ helm. HasIterated c.args.lock.now.base c.args.seat.now c.iterate.new.seat helm c.iterate.new.helm (s.ticks * s.period) c.in_ok-iteration.iteration) (ap (λ (s : HelmClient). s.helm) c.count_call.ensures) made)
          c.in_err-post_iteration.ensures.stopped));
    }

pub returns : goal.returns
returns g c =
    let s = c.args.helm_client.now in
    let may = c.requires.steer in
    let t = c.count_call.new.helm_client in
    let made = c.in_ok-iteration.ensures.iterated in
    let kept = ticked_same s t c.count_call-2.new.helm_client c.iterate.new.helm c.count_call.ensures c.count_call-2.ensures made.ticked.plan in
    record {
      made = makes_more c.args.seat.now c.iterate.new.seat c.post_iteration.new.seat (calling_makes c.args.seat.now c.iterate.new.seat _ _ (inr (called_of c.args.seat.now c.iterate.new.seat _ _ _ made.fetched))) (calling_makes c.iterate.new.seat c.post_iteration.new.seat _ _ (inr c.in_ok-post_iteration.ensures.posted));
      same = kept.0;
      told = omega (arith, kept.2, ap length c.in_ok-post_iteration.ensures.kept, length-append c.count_call-2.new.helm_client.iterations (c.in_ok-iteration.iteration ∷ []), ap length kept.1);
      own = called_own c.iterate.new.seat c.post_iteration.new.seat _ _ c.in_ok-post_iteration.ensures.posted;
      steered = ticks_once c.args.lock.now.base s t c.count_call-2.new.helm_client c.iterate.new.helm c.args.seat.now c.iterate.new.seat c.post_iteration.new.seat _ _ c.in_ok-iteration.iteration _ c.post_iteration.new.iterations
          c.count_call.ensures c.count_call-2.ensures c.in_ok-post_iteration.ensures.kept refl may.tick.steered may.number may.own made.fetched made.ticked c.in_ok-post_iteration.ensures.posted refl;
      reached = ap (λ n. n + 1) kept.2;
      stopped = search rules;
    }
