use Rattle.std.proofs.Common.{◌≡◌, ◌∙◌, [], Err, append-nil, ap, arith, length, nat_lt, refl, rules, subst, sym, true}
use Rattle.std.specs.List.{list_all}
use Rattle.moos_post.specs.declared.entry.Entry.{Entry}
use Rattle.moos_play.specs.Steered.{HasLed}
use Rattle.moos_client.specs.Calls.{entries_of, SeatState}
use Rattle.moos_step.specs.Steps.{AreBusy, IsPlayedBeside, times_met}
use Rattle.moos_step.proofs.Beside.{alone_beside, client_absent, client_with, race_led}
use Rattle.moos_step.proofs.Leading.{known_met, led_gathered}
use Rattle.moos_play.proofs.Leading.{has_led}
use Rattle.moos_step.proofs.Played.{ok_part}
use Rattle.moos_play.proofs.Racing.{race_steers}
use Rattle.moos_step.proofs.Lines.{err_any}
use Rattle.moos_step.proofs.Steps.{none_past}
use Rattle.moos_play.proofs.Stopping.{steered_stops}
use Rattle.moos_step.proofs.Taking.{at_ok, ended_apart}
use Rattle.turn_lock.proofs.Fronts.{begins_itself}
use Rattle.turn_lock.proofs.Mets.{is_taken}
use Rattle.turn_lock.specs.Passes.{known_of}
use Rattle.moos_play.proofs.race.race.Goals as goal

pub returns-then-helm_client-eq0 : goal.returns-then-helm_client-eq0
returns-then-helm_client-eq0 g c =
    let led = c.lead.ensures in
    record {
      gathered = led.gathered;
      goes_on = alone_beside c.args.helm_client.now.number c.args.lines.now c.lead.result c.args.first.now.seat c.lead.new.first (λ n. none_past (length c.args.calls.now) n c.args.lines.now c.requires.lines (omega (arith, c.requires.number, c.if-helm_client-eq0.true))) led.goes_on;
      same = led.same;
      told = led.told;
      steered = led.steered;
      reached = led.reached;
      stopped = led.stopped;
    }

pub returns-in_err-players : goal.returns-in_err-players
returns-in_err-players g c =
    let s = c.args.helm_client.now in
    let may = c.requires.lead in
    subst (λ (first : SeatState). HasLed c.args.lock.now (IsPlayedBeside s.number c.args.lines.now c.from_residual.result) c.args.ticks c.args.first.now.seat first s s c.from_residual.result) (sym c.in_err-players.ensures.same) (record {
      gathered = may.gathered;
      goes_on = record {
        later = begins_itself c.args.first.now.seat.seen;
        known = λ n. record { added = []; is = sym (append-nil (known_of c.args.first.now.seat n)); allowed = λ other. record { front = (entries_of n c.args.lines.now, refl); all = search rules } };
        whole = may.whole;
      };
      same = refl;
      told = search rules;
      steered = search rules;
      reached = search rules;
      stopped = err_any _ (steered_stops c.args.lock.now.base s s.ticks c.args.ticks c.args.first.now.seat.seen may.tick.steered (omega arith) may.tick.count);
    })

pub part-seat-requires-clause-first : goal.part-seat-requires-clause-first
part-seat-requires-clause-first g c =
    let may = c.requires.lead in
    let busy = subst (λ n. AreBusy c.args.lines.now n c.in_ok-players.players.items) (sym c.requires.number) c.in_ok-players.ensures.busy in
    let here = client_with c.args.lock.now c.args.lines.now c.args.helm_client.now.number c.args.first.now.seat c.part_busy.new.first c.in_ok-players.players.items may.gathered c.in_ok-players.ensures.parted busy
    (omega (arith, c.if-helm_client-eq0.false)) may.client in
    (ap (λ s. s.number) c.in_ok-players.ensures.parted.same ∙ may.gathered.number, is_taken c.args.helm_client.now.number c.part_busy.new.first.met (omega (arith, here)))

pub steer_beside-steered-requires-clause-steer : goal.steer_beside-steered-requires-clause-steer
steer_beside-steered-requires-clause-steer g c κs lives =
    race_steers c.args.lock.now c.args.lines.now c.args.helm_client.now c.args.ticks c.args.workers c.args.first.now.seat c.part_busy.new.first c.part-seat.result c.in_ok-players.players.items c.requires.lead c.in_ok-players.ensures.parted
    (subst (λ n. AreBusy c.args.lines.now n c.in_ok-players.players.items) (sym c.requires.number) c.in_ok-players.ensures.busy) (omega (arith, c.if-helm_client-eq0.false)) c.part-seat.ensures.part

pub take_in-others-requires-clause-players : goal.take_in-others-requires-clause-players
take_in-others-requires-clause-players g c = ended_apart c.args.lock.now c.args.lines.now _ c.steer_beside-steered.new.players.items c.steer_beside-steered.ensures.players c.in_ok-players.ensures.parted.apart

pub see_all-requires-clause-all : goal.see_all-requires-clause-all
see_all-requires-clause-all g c =
    let gathered = led_gathered c.args.lock.now (IsPlayedBeside c.args.helm_client.now.number c.args.lines.now (Err (record {}))) c.args.first.now.seat c.meet.new.pass
    (race_led c.args.lock.now c.args.lines.now c.args.helm_client.now.number (Err (record {})) _ c.take_in-others.result c.args.first.now.seat c.part_busy.new.first c.part-seat.new.pass c.steer_beside-steered.new.first.seat c.take_in-others.new.first c.meet.new.pass c.part-seat.result c.steer_beside-steered.new.seat c.in_ok-players.players.items c.steer_beside-steered.new.players.items
    c.requires.lead.gathered c.in_ok-players.ensures.parted (subst (λ n. AreBusy c.args.lines.now n c.in_ok-players.players.items) (sym c.requires.number) c.in_ok-players.ensures.busy) (subst (λ n. list_all (λ (line : Entry). nat_lt line.client n) c.args.lines.now ≡ true) (sym c.requires.number) c.requires.lines)
    (omega (arith, c.if-helm_client-eq0.false)) c.requires.lead.client c.part-seat.ensures.pass c.part-seat.ensures.part c.steer_beside-steered.ensures.first c.steer_beside-steered.ensures.players c.steer_beside-steered.ensures.steered.made
    c.take_in-others.ensures.taken c.meet.ensures.pass c.meet.ensures.seen.0 c.take_in-others.ensures.ended tt) in
    record { first = gathered.number; all = gathered.all }

pub returns : goal.returns
returns g c =
    let s = c.args.helm_client.now in
    let seat = c.steer_beside-steered.new.seat in
    let steered = c.steer_beside-steered.ensures.steered in
    let busy = subst (λ n. AreBusy c.args.lines.now n c.in_ok-players.players.items) (sym c.requires.number) c.in_ok-players.ensures.busy in
    let number : seat.number ≡ s.number = ap (λ s. s.number) steered.made.made.same ∙ ap (λ s. s.number) c.part-seat.ensures.part in
    has_led c.args.lock.now (IsPlayedBeside s.number c.args.lines.now c.both-2.result) c.args.ticks c.args.first.now.seat c.meet.new.pass c.see_all.new.first c.part-seat.result seat s c.steer_beside-steered.new.helm_client c.both-2.result c.steer_beside-steered.result
    (race_led c.args.lock.now c.args.lines.now s.number c.both-2.result _ c.take_in-others.result c.args.first.now.seat c.part_busy.new.first c.part-seat.new.pass c.steer_beside-steered.new.first.seat c.take_in-others.new.first c.meet.new.pass c.part-seat.result seat c.in_ok-players.players.items c.steer_beside-steered.new.players.items
    c.requires.lead.gathered c.in_ok-players.ensures.parted busy (subst (λ n. list_all (λ (line : Entry). nat_lt line.client n) c.args.lines.now ≡ true) (sym c.requires.number) c.requires.lines)
    (omega (arith, c.if-helm_client-eq0.false)) c.requires.lead.client c.part-seat.ensures.pass c.part-seat.ensures.part c.steer_beside-steered.ensures.first c.steer_beside-steered.ensures.players steered.made
    c.take_in-others.ensures.taken c.meet.ensures.pass c.meet.ensures.seen.0 c.take_in-others.ensures.ended (ok_part c.both-2.result c.both-2.ensures (λ b. at_ok c.both.result _ b.1 c.both.ensures)))
    steered (ok_part c.both-2.result c.both-2.ensures (λ b. b.0)) number c.meet.ensures.seen.1
    (known_met c.take_in-others.new.first c.meet.new.pass seat c.meet.ensures.pass (ap (λ s. s.met) steered.made.made.same ∙ ap (λ s. s.met) c.part-seat.ensures.part)
    (λ e. omega (arith, e, number, ap (λ s. s.number) c.take_in-others.ensures.taken.same, ap (λ s. s.number) c.steer_beside-steered.ensures.first.made.same, ap (λ s. s.number) c.part-seat.ensures.pass, ap (λ s. s.number) c.in_ok-players.ensures.parted.same, c.requires.lead.gathered.number, c.if-helm_client-eq0.false))
    (subst (λ n. times_met n c.take_in-others.new.first.met ≡ 0) (sym number)
    (client_absent c.args.lines.now s.number c.part_busy.new.first c.part-seat.new.pass c.steer_beside-steered.new.first.seat c.take_in-others.new.first _ c.in_ok-players.players.items c.steer_beside-steered.new.players.items busy c.part-seat.ensures.pass
    c.steer_beside-steered.ensures.first.made c.steer_beside-steered.ensures.players c.take_in-others.ensures.taken)))
    c.see_all.ensures
