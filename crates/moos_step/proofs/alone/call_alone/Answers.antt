use Rattle.std.proofs.Common.{◌∙◌, ap, arith, refl, sym, subst}
use Rattle.moos_client.specs.Calls.{entry_of, SeatState}
use Rattle.moos_step.specs.Steps.{added_by, IsJust}
use Rattle.moos_step.proofs.Calling.{branch_mail, call_first, call_other, goes_on_just}
use Rattle.moos_step.proofs.Leading.{IsLed, led_gathered, led_on}
use Rattle.moos_step.proofs.Taking.{seen_gathered, seen_whole}
use Rattle.turn_lock.proofs.Fronts.{begins_on}
use Rattle.turn_lock.proofs.Mets.{is_taken}
use Rattle.turn_lock.specs.Passes.{Begins}
use Rattle.moos_step.proofs.alone.call_alone.Goals as goal
use Rattle.moos_step.proofs.alone.call_alone.Goals.{then-client-eq0, else-client-eq0}

pub part-seat-requires-clause-first : goal.part-seat-requires-clause-first
part-seat-requires-clause-first g c = (c.requires.gathered.number, is_taken c.args.client c.args.first.now.met (c.requires.gathered.each c.args.client (omega (arith, c.if-client-eq0.false)) c.requires.client))

pub see_all-requires-clause-all : goal.see_all-requires-clause-all
see_all-requires-clause-all g c =
    let entry = entry_of c.args.client c.args.stamp c.args.call in
    let led : IsLed c.args.lock.now (IsJust (added_by c.if-client-eq0.answer entry)) c.args.first.now c.if-client-eq0.first = elim c.if-client-eq0.branch [
      | then-client-eq0 w ↦
          call_first c.args.lock.now c.args.client c.args.stamp c.args.call c.if-client-eq0.answer w.call_at-answer.result c.args.first.now c.if-client-eq0.first w.call_at-answer.new.seat w.answer-is w.first-is c.requires.gathered
          w.if-client-eq0.true w.call_at-answer.ensures.answered w.call_at-answer.ensures.uncalled
      | else-client-eq0 w ↦
          call_other c.args.lock.now c.args.client c.args.stamp c.args.call c.if-client-eq0.answer w.call_at-answer-else-client-eq0.result c.args.first.now c.if-client-eq0.first w.part-seat.new.pass w.part-seat.result
          w.call_at-answer-else-client-eq0.new.seat w.meet.new.pass w.answer-is w.first-is c.requires.gathered (omega (arith, w.if-client-eq0.false)) c.requires.client w.part-seat.ensures.pass w.part-seat.ensures.part
          w.call_at-answer-else-client-eq0.ensures.answered w.call_at-answer-else-client-eq0.ensures.uncalled w.meet.ensures.pass w.meet.ensures.seen.0
    ] in
    let gathered = led_gathered c.args.lock.now (IsJust (added_by c.if-client-eq0.answer entry)) c.args.first.now c.if-client-eq0.first led in
    record { first = gathered.number; all = gathered.all }

pub returns-clause-gathered : goal.returns-clause-gathered
returns-clause-gathered g c =
    let entry = entry_of c.args.client c.args.stamp c.args.call in
    let led : IsLed c.args.lock.now (IsJust (added_by c.if-client-eq0.answer entry)) c.args.first.now c.if-client-eq0.first = elim c.if-client-eq0.branch [
      | then-client-eq0 w ↦
          call_first c.args.lock.now c.args.client c.args.stamp c.args.call c.if-client-eq0.answer w.call_at-answer.result c.args.first.now c.if-client-eq0.first w.call_at-answer.new.seat w.answer-is w.first-is c.requires.gathered
          w.if-client-eq0.true w.call_at-answer.ensures.answered w.call_at-answer.ensures.uncalled
      | else-client-eq0 w ↦
          call_other c.args.lock.now c.args.client c.args.stamp c.args.call c.if-client-eq0.answer w.call_at-answer-else-client-eq0.result c.args.first.now c.if-client-eq0.first w.part-seat.new.pass w.part-seat.result
          w.call_at-answer-else-client-eq0.new.seat w.meet.new.pass w.answer-is w.first-is c.requires.gathered (omega (arith, w.if-client-eq0.false)) c.requires.client w.part-seat.ensures.pass w.part-seat.ensures.part
          w.call_at-answer-else-client-eq0.ensures.answered w.call_at-answer-else-client-eq0.ensures.uncalled w.meet.ensures.pass w.meet.ensures.seen.0
    ] in
    seen_gathered c.args.lock.now c.if-client-eq0.first c.see_all.new.first c.see_all.ensures (led_gathered c.args.lock.now (IsJust (added_by c.if-client-eq0.answer entry)) c.args.first.now c.if-client-eq0.first led)

pub returns-clause-whole : goal.returns-clause-whole
returns-clause-whole g c = seen_whole c.if-client-eq0.first c.see_all.new.first c.see_all.ensures

pub returns-clause-added : goal.returns-clause-added
returns-clause-added g c =
    let entry = entry_of c.args.client c.args.stamp c.args.call in
    let led : IsLed c.args.lock.now (IsJust (added_by c.if-client-eq0.answer entry)) c.args.first.now c.if-client-eq0.first = elim c.if-client-eq0.branch [
      | then-client-eq0 w ↦
          call_first c.args.lock.now c.args.client c.args.stamp c.args.call c.if-client-eq0.answer w.call_at-answer.result c.args.first.now c.if-client-eq0.first w.call_at-answer.new.seat w.answer-is w.first-is c.requires.gathered
          w.if-client-eq0.true w.call_at-answer.ensures.answered w.call_at-answer.ensures.uncalled
      | else-client-eq0 w ↦
          call_other c.args.lock.now c.args.client c.args.stamp c.args.call c.if-client-eq0.answer w.call_at-answer-else-client-eq0.result c.args.first.now c.if-client-eq0.first w.part-seat.new.pass w.part-seat.result
          w.call_at-answer-else-client-eq0.new.seat w.meet.new.pass w.answer-is w.first-is c.requires.gathered (omega (arith, w.if-client-eq0.false)) c.requires.client w.part-seat.ensures.pass w.part-seat.ensures.part
          w.call_at-answer-else-client-eq0.ensures.answered w.call_at-answer-else-client-eq0.ensures.uncalled w.meet.ensures.pass w.meet.ensures.seen.0
    ] in
    goes_on_just c.if-client-eq0.answer entry c.args.first.now c.see_all.new.first c.requires.whole
    (led_on c.args.lock.now (IsJust (added_by c.if-client-eq0.answer entry)) c.args.first.now c.if-client-eq0.first c.see_all.new.first led c.see_all.ensures)

pub returns-clause-mail : goal.returns-clause-mail
returns-clause-mail g c =
    let entry = entry_of c.args.client c.args.stamp c.args.call in
    let led : IsLed c.args.lock.now (IsJust (added_by c.if-client-eq0.answer entry)) c.args.first.now c.if-client-eq0.first = elim c.if-client-eq0.branch [
      | then-client-eq0 w ↦
          call_first c.args.lock.now c.args.client c.args.stamp c.args.call c.if-client-eq0.answer w.call_at-answer.result c.args.first.now c.if-client-eq0.first w.call_at-answer.new.seat w.answer-is w.first-is c.requires.gathered
          w.if-client-eq0.true w.call_at-answer.ensures.answered w.call_at-answer.ensures.uncalled
      | else-client-eq0 w ↦
          call_other c.args.lock.now c.args.client c.args.stamp c.args.call c.if-client-eq0.answer w.call_at-answer-else-client-eq0.result c.args.first.now c.if-client-eq0.first w.part-seat.new.pass w.part-seat.result
          w.call_at-answer-else-client-eq0.new.seat w.meet.new.pass w.answer-is w.first-is c.requires.gathered (omega (arith, w.if-client-eq0.false)) c.requires.client w.part-seat.ensures.pass w.part-seat.ensures.part
          w.call_at-answer-else-client-eq0.ensures.answered w.call_at-answer-else-client-eq0.ensures.uncalled w.meet.ensures.pass w.meet.ensures.seen.0
    ] in
    let added =
    goes_on_just c.if-client-eq0.answer entry c.args.first.now c.see_all.new.first c.requires.whole
    (led_on c.args.lock.now (IsJust (added_by c.if-client-eq0.answer entry)) c.args.first.now c.if-client-eq0.first c.see_all.new.first led c.see_all.ensures) in
    elim c.if-client-eq0.branch [
      | then-client-eq0 w ↦
          branch_mail c.if-client-eq0.answer w.call_at-answer.result c.args.lock.now.base c.args.client c.args.first.now.seen c.see_all.new.first.seen c.args.first.now w.call_at-answer.new.seat c.args.stamp c.args.call w.answer-is
          (c.requires.gathered.number ∙ sym w.if-client-eq0.true) refl w.call_at-answer.ensures.answered (subst (λ (s : SeatState). Begins c.see_all.new.first.seen s.seen) w.first-is c.see_all.ensures.later) added
      | else-client-eq0 w ↦
          branch_mail c.if-client-eq0.answer w.call_at-answer-else-client-eq0.result c.args.lock.now.base c.args.client c.args.first.now.seen c.see_all.new.first.seen w.part-seat.result w.call_at-answer-else-client-eq0.new.seat c.args.stamp c.args.call w.answer-is
          (ap (λ s. s.number) w.part-seat.ensures.part) (ap (λ s. s.seen) w.part-seat.ensures.part) w.call_at-answer-else-client-eq0.ensures.answered
          (begins_on w.call_at-answer-else-client-eq0.new.seat.seen w.meet.new.pass.seen c.see_all.new.first.seen w.meet.ensures.seen.1 (subst (λ (s : SeatState). Begins c.see_all.new.first.seen s.seen) w.first-is c.see_all.ensures.later)) added
    ]
