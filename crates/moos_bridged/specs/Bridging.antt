-- Two histories that are bridged so far.
use Rattle.std.specs.Prelude.{◌≡◌, ℕ, List, ◌∷◌, map}
use Rattle.moos_client.specs.Calls.{entries_of}
use Rattle.moos_post.specs.History.{History}
use Rattle.moos_share.specs.Bridged.{bridge_number, bridge_opening, fetches_on, shared_entry}
use Rattle.moos_share.specs.declared.rule.Rule.{Rule}
use Rattle.moos_share.specs.Fetches.{fetch_entry}
use Rattle.script_reader.specs.declared.script.Script.{Script}

-- Two histories that are bridged so far, whatever an order asks: the first begins with the bridge's opening, its other entries there
-- are fetches with these stamps, and those in the second are one post for each.
pub record IsBridgedSoFar (first second : Script) (rules : List Rule) (stamps : List ℕ) (one two : History) : Type 0 where
  pub rest : History
  pub opened : one ≡ bridge_opening first rules ∷ rest
  pub fetched : entries_of (bridge_number first) rest ≡ map (fetch_entry (bridge_number first)) (fetches_on first one)
  pub posted : entries_of (bridge_number second) two ≡ map (shared_entry first second rules) (fetches_on first one)
  pub stamps_are : map (λ fetch. fetch.stamp) (fetches_on first one) ≡ stamps
