use Rattle.std.proofs.Common.{◌≡◌, ◌∙◌, ap, refl, sym}
use Rattle.moos_bridged.proofs.Beginning.{begun_so_far}
use Rattle.moos_bridged.proofs.Ending.{shared_by_stamp, shared_same}
use Rattle.moos_bridged.specs.Communities.{community_history, community_script}
use Rattle.moos_share.specs.Carrying.{BridgeState}
use Rattle.script_reader.specs.declared.script.Order.TheVariants.{Stamp}
use Rattle.moos_bridged.proofs.by_stamp.share_by_stamp.Goals as goal

pub loop-init : goal.loop-init
loop-init g c =
    let ready = c.requires.ready in
    let bridge : BridgeState = c.args.bridge.now in
    record {
      so_far = begun_so_far bridge bridge.rules c.args.one.now c.args.two.now (ap (λ unposted. record { rules = bridge.rules; unposted = unposted }) ready.none) ready.first ready.second ready.first_unplayed ready.second_unplayed ready.opened ready.silent;
      rules = refl;
      first = refl;
      second = refl;
    }

pub loop-preserved : goal.loop-preserved
loop-preserved g c =
    let so = c.loop.invariant in
    let on = c.in_ok-share_next.ensures in
    record { so_far = on.so_far; rules = on.rules ∙ so.rules; first = on.first ∙ so.first; second = on.second ∙ so.second }

pub returns : goal.returns
returns g c =
    let before = c.loop.invariant in
    let so = c.in_ok-share_next.ensures in
    let bridge : BridgeState = c.share_next.new.bridge in
    let one = c.share_next.new.one in
    let two = c.share_next.new.two in
    let first : community_script one ≡ community_script c.args.one.now = so.first ∙ before.first in
    let second : community_script two ≡ community_script c.args.two.now = so.second ∙ before.second in
    record {
      first_rests = so.so_far.first;
      second_rests = so.so_far.second;
      first = first;
      second = second;
      shared = shared_same Stamp (community_script one) (community_script c.args.one.now) (community_script two) (community_script c.args.two.now) bridge.rules c.args.bridge.now.rules (community_history one) (community_history one) (community_history two) (community_history two)
          (sym first) (sym second) (sym (so.rules ∙ before.rules)) refl refl (shared_by_stamp bridge one two so.so_far (so.over c.if-branch.false));
    }
