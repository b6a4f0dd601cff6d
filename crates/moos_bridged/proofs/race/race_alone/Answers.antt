use Rattle.std.proofs.Common.{refl}
use Rattle.moos_bridged.proofs.RacedAlone.{alone_all, alone_may, alone_number, alone_own, alone_ready, alone_rests, gone_all, gone_gathered}
use Rattle.moos_bridged.proofs.RacedFirst.{both_raced}
use Rattle.moos_bridged.specs.declared.community.Community.{Community}
use Rattle.moos_bridged.proofs.race.race_alone.Goals as goal

pub race_first-requires-clause-ready : goal.race_first-requires-clause-ready
race_first-requires-clause-ready g c κs lives = alone_ready c.args.bridge.now c.args.one.now c.args.two.now c.requires.ready c.requires.first

pub race_first-requires-clause-to : goal.race_first-requires-clause-to
race_first-requires-clause-to g c κs lives = alone_may c.args.two.now c.requires.ready.second c.requires.second

pub see_all-requires-clause-first : goal.see_all-requires-clause-first
see_all-requires-clause-first g c =
    let two = c.args.two.now in
    let so = gone_gathered two.lock two.first.seat c.race_first.new.to c.in_ok-race_first.ensures.raced.gone c.requires.ready.second.gathered in
    (so.may.of_lock, so.may.free)

pub see_all-requires-clause-all : goal.see_all-requires-clause-all
see_all-requires-clause-all g c =
    let two = c.args.two.now in gone_all two.lock two.first.seat c.race_first.new.to c.in_ok-race_first.ensures.raced.gone c.requires.ready.second.gathered

pub returns : goal.returns
returns g c =
    let two = c.args.two.now in
    let ready = c.requires.ready in
    let none = c.requires.second in
    let raced = c.in_ok-race_first.ensures.raced in
    let to = c.race_first.new.to in
    let seen = c.see_all.new.first in
    let after : Community = record two { first = record two.first { seat = seen } } in
    record {
      raced = both_raced c.args.bridge.now c.race_first.new.bridge c.args.one.now c.race_first.new.one two after two.first.seat to ready raced
          (alone_rests two to seen ready.second none ready.second_unplayed ready.silent raced.gone c.see_all.ensures) refl
          (alone_all two to seen ready.second none ready.second_unplayed ready.silent raced.gone c.see_all.ensures)
          (alone_number two to seen ready.second none ready.second_unplayed ready.silent raced.gone c.see_all.ensures)
          (alone_own two to seen ready.second none ready.second_unplayed ready.silent raced.gone c.see_all.ensures);
      rules = raced.rules;
      first = raced.script;
      second = refl;
    }
