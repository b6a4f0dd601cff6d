use Rattle.std.proofs.Common.{◌∙◌, ◌+◌, ◌<◌, [], ◌∷◌, ◌++◌, length, ap, subst, sym, arith, rules}
use Rattle.moos_step.specs.Steps.{AreBusy, AreParted}
use Rattle.moos_step.proofs.Steps.{busier, busy_begin, busy_more, busy_none, busy_on, busy_rises, busy_skip, is_with, parted_more, parted_none}
use Rattle.turn_lock.proofs.Mets.{is_taken}
use Rattle.moos_step.proofs.step.part_busy.Goals as goal

pub loop-client-init : goal.loop-client-init
loop-client-init c =
    let next = c.next_busy-client.ensures in
    let items = c.in_ok-players.ensures.items in
    record {
      parted = subst (AreParted c.args.lock.now c.args.first.now c.args.first.now) (sym items) (parted_none c.args.lock.now c.args.first.now);
      busy = subst (AreBusy c.args.lines.now c.next_busy-client.result) (sym items) (busy_none c.args.lines.now (length c.args.calls.now) c.next_busy-client.result next);
      room = search rules;
      few = search rules ∙ sym (busy_begin c.args.lines.now (length c.args.calls.now) c.next_busy-client.result next);
      here = next.busy;
      above = omega (arith, next.above);
      within = next.within;
    }

pub part-seat-requires-clause-first : goal.part-seat-requires-clause-first
part-seat-requires-clause-first c =
    let so = c.loop-client.invariant in
    let within : c.loop-client.client < length c.args.lock.now.base = omega (arith, c.loop-client-test.true, c.requires.clients) in
    let here = is_with _ c.loop-client.client _ c.loop-client.first _ c.requires.gathered so.parted (so.busy.fresh c.loop-client.client (omega arith)) so.above within in
    (ap (λ s. s.number) so.parted.same ∙ c.requires.gathered.number, is_taken c.loop-client.client c.loop-client.first.met (omega (arith, here)))

pub push_reserved-requires : goal.push_reserved-requires
push_reserved-requires c =
    let so = c.loop-client.invariant in
    omega (
      arith,
      so.few,
      so.room,
      busier c.args.lines.now c.loop-client.client so.above (so.here c.loop-client-test.true),
      busy_rises c.args.lines.now (c.loop-client.client + 1) (length c.args.calls.now) (omega (arith, c.loop-client-test.true)),
    )

pub loop-client-preserved : goal.loop-client-preserved
loop-client-preserved c =
    let so = c.loop-client.invariant in
    let client = c.loop-client.client in
    let next = c.next_busy-client-in-loop-client.ensures in
    let player = c.player_at.result in
    let within : client < length c.args.lock.now.base = omega (arith, c.loop-client-test.true, c.requires.clients) in
    let seat = c.player_at.ensures ∙ c.part-seat.ensures.part in
    let items = c.push_reserved.ensures.items in
    record {
      parted = subst (AreParted c.args.lock.now c.args.first.now c.part-seat.new.pass) (sym items)
          (parted_more c.args.lock.now client c.args.first.now c.loop-client.first c.part-seat.new.pass player.seat c.loop-client.players.items player c.requires.gathered so.parted
          (so.busy.fresh client (omega arith)) so.above within c.part-seat.ensures.pass seat);
      busy = subst (AreBusy c.args.lines.now c.next_busy-client-in-loop-client.result) (sym items)
          (busy_skip c.args.lines.now (client + 1) (length c.args.calls.now) c.next_busy-client-in-loop-client.result (c.loop-client.players.items ++ player ∷ [])
          (busy_more c.args.lines.now client c.loop-client.players.items player so.busy (ap (λ s. s.number) seat)) next);
      room = search rules;
      few = search rules ∙ sym (busy_on c.args.lines.now client (length c.args.calls.now) c.next_busy-client-in-loop-client.result so.above (so.here c.loop-client-test.true) next);
      here = next.busy;
      above = omega (arith, next.above);
      within = next.within;
    }

pub returns-clause-busy : goal.returns-clause-busy
returns-clause-busy c = subst (λ client. AreBusy c.args.lines.now client c.loop-client.players.items) (omega (arith, c.loop-client-test.false, c.loop-client.invariant.within)) c.loop-client.invariant.busy
