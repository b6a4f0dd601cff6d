use Rattle.std.proofs.Common.{◌≡◌, ◌∙◌, ap, arith, refl, subst, sym}
use Rattle.moos_step.specs.Steps.{IsAlone, times_met}
use Rattle.moos_step.proofs.Leading.{IsLed, known_first, known_met, led_gathered}
use Rattle.moos_play.proofs.Leading.{first_steers, led_alone, led_apart, led_here, seat_steers}
use Rattle.turn_lock.proofs.Fronts.{begins_itself}
use Rattle.turn_lock.proofs.Mets.{count_gone, is_taken}
use Rattle.moos_play.proofs.helm_client.lead.Goals as goal
use Rattle.moos_play.proofs.helm_client.lead.Goals.{then-helm_client-eq0, else-helm_client-eq0}

pub steer-answer-requires-after_bounds : goal.steer-answer-requires-after_bounds
steer-answer-requires-after_bounds g c κs lives = first_steers c.args.lock.now c.args.helm_client.now c.args.ticks c.args.workers c.args.first.now c.requires c.if-helm_client-eq0.true

pub part-seat-requires-clause-first : goal.part-seat-requires-clause-first
part-seat-requires-clause-first g c = (c.requires.gathered.number, is_taken c.args.helm_client.now.number c.args.first.now.met (c.requires.gathered.each c.args.helm_client.now.number (omega (arith, c.if-helm_client-eq0.false)) c.requires.client))

pub steer-answer-requires-else-helm_client-eq0-after_bounds : goal.steer-answer-requires-else-helm_client-eq0-after_bounds
steer-answer-requires-else-helm_client-eq0-after_bounds g c κs lives =
    seat_steers c.args.lock.now c.args.helm_client.now c.args.ticks c.args.workers c.args.first.now c.args.first.now c.part-seat.result c.requires (omega (arith, c.if-helm_client-eq0.false)) refl refl c.part-seat.ensures.part

pub see_all-requires-clause-all : goal.see_all-requires-clause-all
see_all-requires-clause-all g c =
    let s = c.args.helm_client.now in
    let led : IsLed c.args.lock.now (IsAlone s.number) c.args.first.now c.if-helm_client-eq0.first = elim c.if-helm_client-eq0.branch [
      | then-helm_client-eq0 w ↦ subst (IsLed c.args.lock.now (IsAlone s.number) c.args.first.now) (sym w.first-is)
          (led_here c.args.lock.now s w.steer-answer.new.helm_client c.args.ticks c.args.workers c.args.first.now w.steer-answer.new.seat c.requires w.if-helm_client-eq0.true w.steer-answer.ensures)
      | else-helm_client-eq0 w ↦ subst (IsLed c.args.lock.now (IsAlone s.number) c.args.first.now) (sym w.first-is)
          (led_apart c.args.lock.now s w.steer-answer-else-helm_client-eq0.new.helm_client c.args.ticks c.args.workers c.args.first.now w.part-seat.new.pass w.part-seat.result w.steer-answer-else-helm_client-eq0.new.seat w.meet.new.pass c.requires
          (omega (arith, w.if-helm_client-eq0.false)) w.part-seat.ensures.pass w.part-seat.ensures.part w.steer-answer-else-helm_client-eq0.ensures w.meet.ensures.pass w.meet.ensures.seen.0)
    ] in
    let gathered = led_gathered c.args.lock.now (IsAlone s.number) c.args.first.now c.if-helm_client-eq0.first led in
    record { first = gathered.number; all = gathered.all }

pub returns : goal.returns
returns g c = elim c.if-helm_client-eq0.branch [
  | then-helm_client-eq0 w ↦
      let s = c.args.helm_client.now in
      let seat = w.steer-answer.new.seat in
      led_alone c.args.lock.now c.args.ticks c.args.first.now c.if-helm_client-eq0.first seat c.see_all.new.first c.args.first.now seat s c.if-helm_client-eq0.helm_client w.steer-answer.new.helm_client c.if-helm_client-eq0.answer w.steer-answer.result
      w.answer-is w.helm_client-is w.first-is
      (led_here c.args.lock.now s w.steer-answer.new.helm_client c.args.ticks c.args.workers c.args.first.now seat c.requires w.if-helm_client-eq0.true w.steer-answer.ensures)
      w.steer-answer.ensures (ap (λ s. s.number) w.steer-answer.ensures.made.made.same ∙ c.requires.gathered.number ∙ sym w.if-helm_client-eq0.true) (begins_itself seat.seen) (known_first seat seat.number refl) c.see_all.ensures
  | else-helm_client-eq0 w ↦
      let s = c.args.helm_client.now in
      let steered = w.steer-answer-else-helm_client-eq0.ensures in
      let seat = w.steer-answer-else-helm_client-eq0.new.seat in
      let number : seat.number ≡ s.number = ap (λ s. s.number) steered.made.made.same ∙ ap (λ s. s.number) w.part-seat.ensures.part in
      led_alone c.args.lock.now c.args.ticks c.args.first.now c.if-helm_client-eq0.first w.meet.new.pass c.see_all.new.first w.part-seat.result seat s c.if-helm_client-eq0.helm_client w.steer-answer-else-helm_client-eq0.new.helm_client
      c.if-helm_client-eq0.answer w.steer-answer-else-helm_client-eq0.result w.answer-is w.helm_client-is w.first-is
      (led_apart c.args.lock.now s w.steer-answer-else-helm_client-eq0.new.helm_client c.args.ticks c.args.workers c.args.first.now w.part-seat.new.pass w.part-seat.result seat w.meet.new.pass c.requires
      (omega (arith, w.if-helm_client-eq0.false)) w.part-seat.ensures.pass w.part-seat.ensures.part steered w.meet.ensures.pass w.meet.ensures.seen.0)
      steered number w.meet.ensures.seen.1
      (known_met w.part-seat.new.pass w.meet.new.pass seat w.meet.ensures.pass (ap (λ s. s.met) steered.made.made.same ∙ ap (λ s. s.met) w.part-seat.ensures.part)
      (λ e. omega (arith, e, number, ap (λ s. s.number) w.part-seat.ensures.pass, c.requires.gathered.number, w.if-helm_client-eq0.false))
      (ap (λ n. times_met n w.part-seat.new.pass.met) number ∙ ap (λ pass. times_met s.number pass.met) w.part-seat.ensures.pass ∙ count_gone s.number c.args.first.now.met))
      c.see_all.ensures
]
