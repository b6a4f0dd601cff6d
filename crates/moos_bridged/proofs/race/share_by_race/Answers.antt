use Rattle.std.proofs.Common.{◌≡◌, ◌∙◌, max, refl, sym}
use Rattle.moos_bridged.proofs.Ending.{shared_same}
use Rattle.moos_bridged.proofs.Raced.{race_shared}
use Rattle.moos_bridged.specs.Communities.{community_history, community_script}
use Rattle.moos_bridged.specs.declared.community.Community.{Community}
use Rattle.moos_share.specs.Carrying.{BridgeState}
use Rattle.script_reader.specs.declared.script.Order.TheVariants.{Race}
use Rattle.moos_bridged.proofs.race.share_by_race.Goals as goal

pub cross-requires-clause-one : goal.cross-requires-clause-one
cross-requires-clause-one g c = c.in_ok-race.ensures.raced.first

pub cross-requires-clause-two : goal.cross-requires-clause-two
cross-requires-clause-two g c = c.in_ok-race.ensures.raced.second

pub cross-requires-clause-none : goal.cross-requires-clause-none
cross-requires-clause-none g c = c.in_ok-race.ensures.raced.none

pub returns : goal.returns
returns g c =
    let raced = c.in_ok-race.ensures in
    let crossed = c.in_ok-cross.ensures in
    let bridge : BridgeState = c.race.new.bridge in
    let one : Community = c.cross.new.one in
    let two : Community = c.cross.new.two in
    let first : community_script one ≡ community_script c.args.one.now = crossed.crossed.first.script ∙ raced.first in
    let second : community_script two ≡ community_script c.args.two.now = crossed.crossed.second.script ∙ raced.second in
    record {
      first_rests = crossed.one;
      second_rests = crossed.two;
      first = first;
      second = second;
      shared = shared_same Race (community_script one) (community_script c.args.one.now) (community_script two) (community_script c.args.two.now) bridge.rules c.args.bridge.now.rules (community_history one) (community_history one) (community_history two) (community_history two)
          (sym first) (sym second) (sym raced.rules) refl refl
          (race_shared bridge _ c.race.new.one one c.race.new.two two raced.raced (c.max-stop.ensures ∙ (λ i. max (sym raced.first i).stop (sym raced.second i).stop)) crossed.one crossed.two crossed.crossed);
    }
