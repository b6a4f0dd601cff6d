-- Two communities with a bridge that are played in a race: all clients make all their calls beside each other and beside the bridge.
use Rattle.std.specs.Prelude.{◌≡◌, ℕ, ◌<◌, List, [], ◌∷◌, length, map, None}
use Rattle.moos_bridged.specs.declared.community.Community.{Community}
use Rattle.moos_bridged.specs.Bridging.{IsBridgedSoFar}
use Rattle.moos_bridged.specs.Communities.{bridge_in, community_history, community_script, IsResting}
use Rattle.moos_client.specs.Calls.{entries_of, SeatState}
use Rattle.moos_post.specs.declared.entry.Entry.{Entry}
use Rattle.moos_share.specs.Bridged.{bridge_opening}
use Rattle.moos_share.specs.Carrying.{BridgeState, HasGoneOn, MayCarry, seated, SeatedBridge}
use Rattle.moos_share.specs.Fetches.{IsUpToDate}
use Rattle.turn_lock.specs.Passes.{Begins, LockState}

-- the stamps of these lines
abbrev pub stamps_of : List Entry → List ℕ
stamps_of lines = map (λ line. line.stamp) lines

-- a bridge at two locks that has yet to fetch
pub record MayCarryLines (first second : LockState (List (List ℕ))) (one : SeatedBridge) : Type 0 where
  pub from : MayCarry first one.from
  pub to : MayCarry second one.to
  pub start : IsUpToDate first.base one.from.mine [] one

-- A bridge after one carrying for each of these stamps: it has posted all that it has fetched, and its seats have gone on.
pub record HasCarriedLines (names : List (List ℕ)) (stamps : List ℕ) (before after : SeatedBridge) : Type 0 where
  pub up_to_date : IsUpToDate names before.from.mine stamps after
  pub rules : after.bridge.rules ≡ before.bridge.rules
  pub from : HasGoneOn before.from after.from
  pub to : HasGoneOn before.to after.to

-- The first community before a race: no line is played, and the bridge, whose seat in the second has done nothing, has registered
-- and not fetched.
pub record IsFirstReady (bridge : BridgeState) (one : Community) (to : SeatState) : Type 0 where
  pub resting : IsResting one
  pub clients : 0 < bridge_in one
  pub unplayed : one.from ≡ 0
  pub opened : community_history one ≡ bridge_opening (community_script one) bridge.rules ∷ []
  pub none : bridge.unposted ≡ None
  pub idle : to.mine ≡ []

-- The first community after a race: all lines are played, and the bridge, from its seat there, has carried once for each of them,
-- at its stamp.
pub record HasRacedFirst (bridge bridge' : BridgeState) (one one' : Community) (to to' : SeatState) : Type 0 where
  pub resting : IsResting one'
  pub script : community_script one' ≡ community_script one
  pub lock : one'.lock ≡ one.lock
  pub all : one'.from ≡ length (community_script one).lines
  pub later : Begins (community_history one') (community_history one)
  pub from : SeatState
  pub number : from.number ≡ bridge_in one
  pub seen : Begins (community_history one') from.seen
  pub own : entries_of (bridge_in one) (community_history one') ≡ from.mine
  pub up_to_date : IsUpToDate one.lock.base (bridge_opening (community_script one) bridge.rules ∷ []) (stamps_of (community_script one).lines) (seated bridge' from to')
  pub rules : bridge'.rules ≡ bridge.rules
  pub gone : HasGoneOn to to'

-- Two communities after a race: all lines are played, and the bridge has carried once for each line of the first script, at its
-- stamp.
pub record AreRaced (bridge : BridgeState) (one two : Community) : Type 0 where
  pub first : IsResting one
  pub second : IsResting two
  pub first_all : one.from ≡ length (community_script one).lines
  pub second_all : two.from ≡ length (community_script two).lines
  pub bridged : IsBridgedSoFar (community_script one) (community_script two) bridge.rules (stamps_of (community_script one).lines) (community_history one) (community_history two)
  pub none : bridge.unposted ≡ None

-- The same, by a bridge with the same rules, if the communities play the same scripts as before.
pub record HaveRaced (bridge bridge' : BridgeState) (one one' two two' : Community) : Type 0 where
  pub raced : AreRaced bridge' one' two'
  pub rules : bridge'.rules ≡ bridge.rules
  pub first : community_script one' ≡ community_script one
  pub second : community_script two' ≡ community_script two
