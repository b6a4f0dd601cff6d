use Rattle.std.proofs.Common.{◌∙◌, Err, Ok, ap, arith, length, refl, rules, subst}
use Rattle.moos_bridged.proofs.Playing.{counts_kept}
use Rattle.moos_bridged.proofs.RacedFirst.{raced_first}
use Rattle.moos_bridged.proofs.Racing.{bridge_with, joined_all, joined_of, sailed_on, split_of}
use Rattle.moos_bridged.proofs.Starting.{first_start, may_carry}
use Rattle.moos_bridged.specs.Racing.{HasCarriedLines, stamps_of}
use Rattle.moos_share.specs.Carrying.{seated}
use Rattle.moos_step.proofs.Taking.{ended_apart}
use Rattle.moos_step.specs.Steps.{AreBusy}
use Rattle.moos_bridged.proofs.race.race_first.Goals as goal

pub part-from-requires-clause-first : goal.part-from-requires-clause-first
part-from-requires-clause-first g c =
    let one = c.args.one.now in
    let ready = c.requires.ready in
    bridge_with one c.bridge-number.result c.part_busy.new.first c.in_ok-players.players.items ready.resting c.bridge-number.ensures (omega (arith, c.bridge-number.ensures, ready.clients)) c.in_ok-players.ensures.parted
    (subst (λ lines. AreBusy lines (length one.calls.items) c.in_ok-players.players.items) c.all-lines.ensures (subst (λ n. AreBusy c.all-lines.result.now n c.in_ok-players.players.items) (ap length c.deref.ensures.value) c.in_ok-players.ensures.busy))

pub carry_beside-requires-clause-carry : goal.carry_beside-requires-clause-carry
carry_beside-requires-clause-carry g c κs within =
    let one = c.args.one.now in
    let ready = c.requires.ready in
    let number = c.bridge-number.result in
    let parted = c.part_busy.new.first in
    let apart = c.part-from.new.pass in
    let seat = c.part-from.result in
    let players = c.in_ok-players.players.items in
    let split = split_of one number _ c.all-lines.result.now parted apart seat players ready.resting c.bridge-number.ensures ready.clients c.all-lines.ensures (ap length c.deref.ensures.value) c.in_ok-players.ensures.parted c.in_ok-players.ensures.busy c.part-from.ensures.pass c.part-from.ensures.part in
    record {
      from = may_carry one number parted apart seat players split;
      to = c.requires.to;
      start = c.carry_law.ensures.up_to_date_start one.lock.base (seated c.args.bridge.now seat c.args.to.now) (first_start c.args.bridge.now c.args.to.now one number parted apart seat players ready split);
    }

pub take_in-ended-requires-clause-players : goal.take_in-ended-requires-clause-players
take_in-ended-requires-clause-players g c = ended_apart c.args.one.now.lock c.all-lines.result.now _ c.carry_beside.new.players.items c.carry_beside.ensures.players c.in_ok-players.ensures.parted.apart

pub see_all-requires-clause-all : goal.see_all-requires-clause-all
see_all-requires-clause-all g c =
    let one = c.args.one.now in
    let ready = c.requires.ready in
    let number = c.bridge-number.result in
    let parted = c.part_busy.new.first in
    let apart = c.part-from.new.pass in
    let seat = c.part-from.result in
    let sailed = c.carry_beside.new.from in
    let played = c.carry_beside.new.first.seat in
    let taken = c.take_in-ended.new.first in
    let joined = c.meet.new.pass in
    let befores = c.in_ok-players.players.items in
    let afters = c.carry_beside.new.players.items in
    let carried = c.in_ok-carry_beside.ensures.carried in
    let split = split_of one number _ c.all-lines.result.now parted apart seat befores ready.resting c.bridge-number.ensures ready.clients c.all-lines.ensures (ap length c.deref.ensures.value) c.in_ok-players.ensures.parted c.in_ok-players.ensures.busy c.part-from.ensures.pass c.part-from.ensures.part in
    joined_all one number (Err (record {})) _ c.take_in-ended.result parted apart played taken joined seat sailed befores afters split
    (joined_of one number c.all-lines.result.now (Err (record {})) _ c.take_in-ended.result apart played taken joined seat sailed befores afters c.all-lines.ensures c.carry_beside.ensures.first c.carry_beside.ensures.players
    (sailed_on seat sailed _ carried.from carried.up_to_date.fetched) c.take_in-ended.ensures.taken c.meet.ensures.pass c.meet.ensures.seen c.take_in-ended.ensures.ended tt)

pub returns : goal.returns
returns g c =
    let one = c.args.one.now in
    let ready = c.requires.ready in
    let number = c.bridge-number.result in
    let parted = c.part_busy.new.first in
    let apart = c.part-from.new.pass in
    let seat = c.part-from.result in
    let sailed = c.carry_beside.new.from in
    let played = c.carry_beside.new.first.seat in
    let taken = c.take_in-ended.new.first in
    let joined = c.meet.new.pass in
    let befores = c.in_ok-players.players.items in
    let afters = c.carry_beside.new.players.items in
    let carried = c.in_ok-carry_beside.ensures.carried in
    let split = split_of one number _ c.all-lines.result.now parted apart seat befores ready.resting c.bridge-number.ensures ready.clients c.all-lines.ensures (ap length c.deref.ensures.value) c.in_ok-players.ensures.parted c.in_ok-players.ensures.busy c.part-from.ensures.pass c.part-from.ensures.part in
    record {
      raced = raced_first c.args.bridge.now c.carry_beside.new.bridge one _ number _ c.take_in-ended.result parted apart played taken joined seat sailed befores afters split
          (joined_of one number c.all-lines.result.now (Ok tt) _ c.take_in-ended.result apart played taken joined seat sailed befores afters c.all-lines.ensures c.carry_beside.ensures.first c.carry_beside.ensures.players
          (sailed_on seat sailed _ carried.from carried.up_to_date.fetched) c.take_in-ended.ensures.taken c.meet.ensures.pass c.meet.ensures.seen c.take_in-ended.ensures.ended c.in_ok-both.ensures)
          c.see_all.ensures refl refl (ap length c.all-lines.ensures)
          (counts_kept one.calls.len one.calls.items c.take_in-ended.new.calls (c.take_in-ended.auto.calls ∙ ap length c.as_mut_slice-calls.ensures.value) (search rules) ∙ (search rules))
          c.args.to.now c.carry_beside.new.to ready
          (subst (λ lines. HasCarriedLines one.lock.base (stamps_of lines) (seated c.args.bridge.now seat c.args.to.now) (seated c.carry_beside.new.bridge sailed c.carry_beside.new.to)) c.all-lines.ensures carried);
    }
