use Rattle.std.proofs.Common.{◌∙◌, ap, refl, sym}
use Rattle.moos_bridged.proofs.Ending.{shared_same}
use Rattle.moos_bridged.specs.Communities.{community_history, community_script}
use Rattle.moos_share.specs.Bridged.{names_bridged}
use Rattle.moos_bridged.proofs.sharing.share.Goals as goal

pub share_opened-requires-clause-ready : goal.share_opened-requires-clause-ready
share_opened-requires-clause-ready g c κs lives = record {
  first = c.in_ok-one.ensures.resting;
  second = c.in_ok-two.ensures.resting;
  first_unplayed = c.in_ok-one.ensures.from;
  second_unplayed = c.in_ok-two.ensures.from;
  opened = c.in_ok-one.ensures.opened;
  silent = c.in_ok-two.ensures.new;
  none = refl;
}

pub returns-clause-shared : goal.returns-clause-shared
returns-clause-shared g c =
    shared_same c.args.order (community_script c.in_ok-one.one) c.args.first.now (community_script c.in_ok-two.two) c.args.second.now c.args.rules c.args.rules
    (community_history c.share_opened.new.one) c.close.result.history (community_history c.share_opened.new.two) c.close-2.result.history
    (sym c.in_ok-one.ensures.script) (sym c.in_ok-two.ensures.script) refl c.close.ensures.history c.close-2.ensures.history c.in_ok-share_opened.ensures.shared

pub returns-clause-first : goal.returns-clause-first
returns-clause-first g c = c.close.ensures.names ∙ ap names_bridged (c.in_ok-share_opened.ensures.first ∙ c.in_ok-one.ensures.script)

pub returns-clause-second : goal.returns-clause-second
returns-clause-second g c = c.close-2.ensures.names ∙ ap names_bridged (c.in_ok-share_opened.ensures.second ∙ c.in_ok-two.ensures.script)
