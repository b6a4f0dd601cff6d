-- Two communities with a bridge that are played from one stamp to the next.
use Rattle.std.specs.Prelude.{◌≡◌, ℕ, ◌+◌, ◌||◌, ◌==◌, nat_le, nat_lt, if◌then◌else◌, List, drop, length, Option, None, Some, IsTrue}
use Rattle.std.specs.List.{list_all, list_any}
use Rattle.moos_bridged.specs.declared.community.Community.{Community}
use Rattle.moos_bridged.specs.Bridging.{IsBridgedSoFar}
use Rattle.moos_bridged.specs.Communities.{bridge_in, community_history, community_script, done_lines, IsResting, left_lines}
use Rattle.moos_post.specs.History.{History}
use Rattle.moos_share.specs.Bridged.{are_rising, has_stamp, keeps_moments}
use Rattle.moos_share.specs.Carrying.{BridgeState}

-- the earlier of two stamps, if there is one
abbrev pub earlier : Option ℕ → Option ℕ → Option ℕ
earlier None two = two
earlier (Some one) None = Some one
earlier (Some one) (Some two) = Some (if nat_lt two one then two else one)

-- how many lines are left in both communities
abbrev pub lines_left : Community → Community → ℕ
lines_left one two = length (left_lines one) + length (left_lines two)

-- One of the communities has played all lines below a stamp, and no other. Each of those lines has one of these stamps. In this part of
-- its history no entry follows one of a later moment, and all are below the stamp.
pub record IsPlayedTo (low : ℕ) (stamps : List ℕ) (community : Community) (part : History) : Type 0 where
  pub done : IsTrue (list_all (λ line. list_any (λ stamp. stamp == line.stamp) stamps) (done_lines community))
  pub left : IsTrue (list_all (λ line. nat_le low line.stamp) (left_lines community))
  pub moments : IsTrue (keeps_moments (bridge_in community) 0 part)
  pub early : IsTrue (list_all (λ entry. nat_lt entry.stamp low) part)

-- the stamps of the bridge's fetches so far: they rise, are below a stamp, and each is that of a line of either script
pub record AreStampsTo (low : ℕ) (stamps : List ℕ) (one two : Community) : Type 0 where
  pub rising : IsTrue (are_rising stamps)
  pub below : IsTrue (list_all (λ stamp. nat_lt stamp low) stamps)
  pub each : IsTrue (list_all (λ stamp. has_stamp stamp (community_script one).lines || has_stamp stamp (community_script two).lines) stamps)

-- what follows the bridge's opening in the first history
abbrev pub behind_opening : History → History
behind_opening history = drop 1 history

-- All stamps below one are played in both communities and carried, and no other.
pub record IsSharedSoFar (bridge : BridgeState) (one two : Community) : Type 0 where
  pub none : bridge.unposted ≡ None
  pub first : IsResting one
  pub second : IsResting two
  pub stamps : List ℕ
  pub low : ℕ
  pub bridged : IsBridgedSoFar (community_script one) (community_script two) bridge.rules stamps (community_history one) (community_history two)
  pub taken : AreStampsTo low stamps one two
  pub first_to : IsPlayedTo low stamps one (behind_opening (community_history one))
  pub second_to : IsPlayedTo low stamps two (community_history two)
