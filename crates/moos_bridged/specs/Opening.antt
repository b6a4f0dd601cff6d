-- Two communities before their first line, once the bridge has registered.
use Rattle.std.specs.Prelude.{◌≡◌, [], ◌∷◌, None}
use Rattle.moos_bridged.specs.declared.community.Community.{Community}
use Rattle.moos_bridged.specs.Communities.{community_history, community_script, IsResting}
use Rattle.moos_share.specs.Bridged.{bridge_opening}
use Rattle.moos_share.specs.Carrying.{BridgeState}

-- No line is played, and the bridge's registration is the only entry.
pub record AreOpened (bridge : BridgeState) (one two : Community) : Type 0 where
  pub first : IsResting one
  pub second : IsResting two
  pub first_unplayed : one.from ≡ 0
  pub second_unplayed : two.from ≡ 0
  pub opened : community_history one ≡ bridge_opening (community_script one) bridge.rules ∷ []
  pub silent : community_history two ≡ []
  pub none : bridge.unposted ≡ None
