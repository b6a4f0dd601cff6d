-- Two communities behind their last line and the bridge's last carrying.
use Rattle.std.specs.Prelude.{◌≡◌, List}
use Rattle.moos_bridged.specs.declared.community.Community.{Community}
use Rattle.moos_bridged.specs.Communities.{community_history, community_script, IsResting}
use Rattle.moos_share.specs.Bridged.{IsShared}
use Rattle.moos_share.specs.declared.rule.Rule.{Rule}
use Rattle.script_reader.specs.declared.script.Order.{Order}

-- The same communities, between two steps, whose histories are shared by their scripts as the order asks.
pub record HaveShared (order : Order) (rules : List Rule) (one one' two two' : Community) : Type 0 where
  pub first_rests : IsResting one'
  pub second_rests : IsResting two'
  pub first : community_script one' ≡ community_script one
  pub second : community_script two' ≡ community_script two
  pub shared : IsShared order (community_script one) (community_script two) rules (community_history one') (community_history two')
