use Rattle.std.proofs.Common.{◌∙◌, ◌+◌, ◌<◌, ◌++◌, length, map, ap, subst, sym, arith, rules}
use Rattle.moos_step.specs.declared.player.Player.{Player}
use Rattle.std.specs.Prelude.{List}
use Rattle.moos_step.specs.Steps.{apart_in, AreBusy, AreParted, met_of, times_met}
use Rattle.moos_step.proofs.Steps.{busier, busy_begin, busy_more, busy_none, busy_on, busy_rises, busy_skip, is_with, parted_more, parted_none}
use Rattle.moos_step.proofs.Weights.{busy_joined, parted_joined}
use Rattle.turn_lock.proofs.Mets.{is_taken}
use Rattle.moos_step.proofs.apart.part_by_weight.Goals as goal

pub loop-client-init : goal.loop-client-init
loop-client-init c =
    let next = c.next_busy-client.ensures in
    let none = c.in_ok-players.ensures.none in
    record {
      parted = subst (λ (p : List Player × List Player). AreParted c.args.lock.now c.args.first.now c.args.first.now (p.0 ++ p.1)) (λ i. (sym none.0 i, sym none.1 i)) (parted_none c.args.lock.now c.args.first.now);
      busy = subst (λ (p : List Player × List Player). AreBusy c.args.lines.now c.next_busy-client.result (p.0 ++ p.1)) (λ i. (sym none.0 i, sym none.1 i)) (busy_none c.args.lines.now (length c.args.calls.now) c.next_busy-client.result next);
      heavy_room = search rules;
      light_room = search rules;
      few = search rules ∙ sym (busy_begin c.args.lines.now (length c.args.calls.now) c.next_busy-client.result next);
      here = next.busy;
      above = omega (arith, next.above);
      within = next.within;
    }

pub part-requires-clause-first : goal.part-requires-clause-first
part-requires-clause-first c =
    let so = c.loop-client.invariant in
    let within : c.loop-client.client < length c.args.lock.now.base = omega (arith, c.loop-client-test.true, c.requires.clients) in
    let here = is_with _ c.loop-client.client _ c.loop-client.first _ c.requires.gathered so.parted (so.busy.fresh c.loop-client.client (omega arith)) so.above within in
    (ap (λ s. s.number) so.parted.same ∙ c.requires.gathered.number, is_taken c.loop-client.client c.loop-client.first.met (omega (arith, here)))

pub add_player-requires-clause-heavy : goal.add_player-requires-clause-heavy
add_player-requires-clause-heavy c =
    let so = c.loop-client.invariant in
    omega (
      arith,
      so.few,
      so.heavy_room,
      busier c.args.lines.now c.loop-client.client so.above (so.here c.loop-client-test.true),
      busy_rises c.args.lines.now (c.loop-client.client + 1) (length c.args.calls.now) (omega (arith, c.loop-client-test.true)),
    )

pub add_player-requires-clause-light : goal.add_player-requires-clause-light
add_player-requires-clause-light c =
    let so = c.loop-client.invariant in
    omega (
      arith,
      so.few,
      so.light_room,
      busier c.args.lines.now c.loop-client.client so.above (so.here c.loop-client-test.true),
      busy_rises c.args.lines.now (c.loop-client.client + 1) (length c.args.calls.now) (omega (arith, c.loop-client-test.true)),
    )

pub loop-client-preserved : goal.loop-client-preserved
loop-client-preserved c =
    let so = c.loop-client.invariant in
    let client = c.loop-client.client in
    let next = c.next_busy-client-in-loop-client.ensures in
    let player = c.player_at-player.result in
    let within : client < length c.args.lock.now.base = omega (arith, c.loop-client-test.true, c.requires.clients) in
    let seat = c.player_at-player.ensures ∙ c.part.ensures.part in
    let old = c.loop-client.players in
    let new = c.add_player.new.players in
    let joined = c.add_player.ensures in
    let fresh = so.busy.fresh client (omega arith) in
    record {
      parted = parted_joined c.args.lock.now c.args.first.now c.part.new.pass player old new joined (ap (λ s. times_met s.number (map met_of (apart_in old))) seat ∙ fresh)
          (parted_more c.args.lock.now client c.args.first.now c.loop-client.first c.part.new.pass player.seat (apart_in old) player c.requires.gathered so.parted fresh so.above within c.part.ensures.pass seat);
      busy = busy_skip c.args.lines.now (client + 1) (length c.args.calls.now) c.next_busy-client-in-loop-client.result (apart_in new)
          (busy_joined c.args.lines.now (client + 1) player old new joined (busy_more c.args.lines.now client (apart_in old) player so.busy (ap (λ s. s.number) seat))) next;
      heavy_room = search rules;
      light_room = search rules;
      few = joined.more ∙ ap (λ n. n + 1) so.few ∙ sym (busy_on c.args.lines.now client (length c.args.calls.now) c.next_busy-client-in-loop-client.result so.above (so.here c.loop-client-test.true) next);
      here = next.busy;
      above = omega (arith, next.above);
      within = next.within;
    }

pub returns-clause-busy : goal.returns-clause-busy
returns-clause-busy c = subst (λ client. AreBusy c.args.lines.now client (apart_in c.loop-client.players)) (omega (arith, c.loop-client-test.false, c.loop-client.invariant.within)) c.loop-client.invariant.busy
