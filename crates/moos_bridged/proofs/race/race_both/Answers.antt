use Rattle.std.proofs.Common.{◌≡◌, ◌∙◌, ◌++◌, [], Err, Ok, ap, arith, length, refl, rules, subst, sym}
use Rattle.moos_bridged.proofs.Playing.{counts_kept}
use Rattle.moos_bridged.proofs.RacedFirst.{both_raced, raced_number, raced_own, raced_rests}
use Rattle.moos_bridged.proofs.Racing.{bridge_mine, bridge_with, joined_all, joined_of, sailed_on, split_of}
use Rattle.moos_bridged.proofs.Starting.{may_carry}
use Rattle.moos_client.specs.Calls.{entries_of}
use Rattle.moos_step.proofs.Taking.{ended_apart}
use Rattle.moos_step.specs.Steps.{AreBusy}
use Rattle.moos_bridged.specs.declared.community.Community.{Community}
use Rattle.std.specs.Vec.{with_items}
use Rattle.moos_bridged.proofs.race.race_both.Goals as goal

pub part-to-requires-clause-first : goal.part-to-requires-clause-first
part-to-requires-clause-first g c =
    let two = c.args.two.now in
    bridge_with two c.bridge-number.result c.part_busy.new.first c.in_ok-players.players.items c.requires.ready.second c.bridge-number.ensures (omega (arith, c.bridge-number.ensures, c.requires.second)) c.in_ok-players.ensures.parted
    (subst (λ lines. AreBusy lines (length two.calls.items) c.in_ok-players.players.items) c.all-lines.ensures (subst (λ n. AreBusy c.all-lines.result.now n c.in_ok-players.players.items) (ap length c.deref.ensures.value) c.in_ok-players.ensures.busy))

pub race_beside-requires-clause-ready : goal.race_beside-requires-clause-ready
race_beside-requires-clause-ready g c κs within =
    let two = c.args.two.now in
    let ready = c.requires.ready in
    let number = c.bridge-number.result in
    let split = split_of two number _ c.all-lines.result.now c.part_busy.new.first c.part-to.new.pass c.part-to.result c.in_ok-players.players.items ready.second c.bridge-number.ensures c.requires.second c.all-lines.ensures (ap length c.deref.ensures.value) c.in_ok-players.ensures.parted c.in_ok-players.ensures.busy c.part-to.ensures.pass c.part-to.ensures.part in
    record {
      resting = ready.first;
      clients = c.requires.first;
      unplayed = ready.first_unplayed;
      opened = ready.opened;
      none = ready.none;
      idle = bridge_mine two number c.part_busy.new.first c.part-to.new.pass c.part-to.result c.in_ok-players.players.items split ∙ ap (entries_of number) ready.silent;
    }

pub race_beside-requires-clause-to : goal.race_beside-requires-clause-to
race_beside-requires-clause-to g c κs within =
    let two = c.args.two.now in
    let number = c.bridge-number.result in
    let split = split_of two number _ c.all-lines.result.now c.part_busy.new.first c.part-to.new.pass c.part-to.result c.in_ok-players.players.items c.requires.ready.second c.bridge-number.ensures c.requires.second c.all-lines.ensures (ap length c.deref.ensures.value) c.in_ok-players.ensures.parted c.in_ok-players.ensures.busy c.part-to.ensures.pass c.part-to.ensures.part in
    may_carry two number c.part_busy.new.first c.part-to.new.pass c.part-to.result c.in_ok-players.players.items split

pub take_in-ended-requires-clause-players : goal.take_in-ended-requires-clause-players
take_in-ended-requires-clause-players g c = ended_apart c.args.two.now.lock c.all-lines.result.now _ c.race_beside.new.players.items c.race_beside.ensures.players c.in_ok-players.ensures.parted.apart

pub see_all-requires-clause-all : goal.see_all-requires-clause-all
see_all-requires-clause-all g c =
    let two = c.args.two.now in
    let ready = c.requires.ready in
    let number = c.bridge-number.result in
    let parted = c.part_busy.new.first in
    let apart = c.part-to.new.pass in
    let seat = c.part-to.result in
    let sailed = c.race_beside.new.to in
    let played = c.race_beside.new.first.seat in
    let taken = c.take_in-ended.new.first in
    let joined = c.meet.new.pass in
    let befores = c.in_ok-players.players.items in
    let afters = c.race_beside.new.players.items in
    let split = split_of two number _ c.all-lines.result.now parted apart seat befores ready.second c.bridge-number.ensures c.requires.second c.all-lines.ensures (ap length c.deref.ensures.value) c.in_ok-players.ensures.parted c.in_ok-players.ensures.busy c.part-to.ensures.pass c.part-to.ensures.part in
    let idle : seat.mine ≡ [] = bridge_mine two number parted apart seat befores split ∙ ap (entries_of number) ready.silent in
    joined_all two number (Err (record {})) _ c.take_in-ended.result parted apart played taken joined seat sailed befores afters split
    (joined_of two number c.all-lines.result.now (Err (record {})) _ c.take_in-ended.result apart played taken joined seat sailed befores afters c.all-lines.ensures c.race_beside.ensures.first c.race_beside.ensures.players
    (sailed_on seat sailed sailed.mine c.in_ok-race_beside.ensures.raced.gone (sym (ap (λ mine. mine ++ sailed.mine) idle))) c.take_in-ended.ensures.taken c.meet.ensures.pass c.meet.ensures.seen c.take_in-ended.ensures.ended tt)

pub returns : goal.returns
returns g c =
    let two = c.args.two.now in
    let ready = c.requires.ready in
    let number = c.bridge-number.result in
    let parted = c.part_busy.new.first in
    let apart = c.part-to.new.pass in
    let seat = c.part-to.result in
    let sailed = c.race_beside.new.to in
    let played = c.race_beside.new.first.seat in
    let taken = c.take_in-ended.new.first in
    let joined = c.meet.new.pass in
    let befores = c.in_ok-players.players.items in
    let afters = c.race_beside.new.players.items in
    let bridge = c.args.bridge.now in
    let bridge' = c.race_beside.new.bridge in
    let raced = c.in_ok-race_beside.ensures.raced in
    let split = split_of two number _ c.all-lines.result.now parted apart seat befores ready.second c.bridge-number.ensures c.requires.second c.all-lines.ensures (ap length c.deref.ensures.value) c.in_ok-players.ensures.parted c.in_ok-players.ensures.busy c.part-to.ensures.pass c.part-to.ensures.part in
    let idle : seat.mine ≡ [] = bridge_mine two number parted apart seat befores split ∙ ap (entries_of number) ready.silent in
    let so = joined_of two number c.all-lines.result.now (Ok tt) _ c.take_in-ended.result apart played taken joined seat sailed befores afters c.all-lines.ensures c.race_beside.ensures.first c.race_beside.ensures.players
    (sailed_on seat sailed sailed.mine raced.gone (sym (ap (λ mine. mine ++ sailed.mine) idle))) c.take_in-ended.ensures.taken c.meet.ensures.pass c.meet.ensures.seen c.take_in-ended.ensures.ended c.in_ok-both.ensures in
    let after : Community = record two { first = record { seat = c.see_all.new.first; calls = c.race_beside.new.first.calls; ended = c.race_beside.new.first.ended }; calls = with_items two.calls c.take_in-ended.new.calls; from = length c.all-lines.result.now } in
    record {
      raced = both_raced bridge bridge' c.args.one.now c.race_beside.new.one two after seat sailed ready raced
          (raced_rests bridge bridge' two after number _ c.take_in-ended.result parted apart played taken joined seat sailed befores afters split so c.see_all.ensures refl refl (ap length c.all-lines.ensures)
          (counts_kept two.calls.len two.calls.items c.take_in-ended.new.calls (c.take_in-ended.auto.calls ∙ ap length c.as_mut_slice-calls.ensures.value) (search rules) ∙ (search rules)) ready.second_unplayed)
          refl (ap length c.all-lines.ensures)
          (raced_number bridge bridge' two after number _ c.take_in-ended.result parted apart played taken joined seat sailed befores afters split so c.see_all.ensures refl refl (ap length c.all-lines.ensures)
          (counts_kept two.calls.len two.calls.items c.take_in-ended.new.calls (c.take_in-ended.auto.calls ∙ ap length c.as_mut_slice-calls.ensures.value) (search rules) ∙ (search rules)))
          (raced_own bridge bridge' two after number _ c.take_in-ended.result parted apart played taken joined seat sailed befores afters split so c.see_all.ensures refl refl (ap length c.all-lines.ensures)
          (counts_kept two.calls.len two.calls.items c.take_in-ended.new.calls (c.take_in-ended.auto.calls ∙ ap length c.as_mut_slice-calls.ensures.value) (search rules) ∙ (search rules)));
      rules = raced.rules;
      first = raced.script;
      second = refl;
    }
