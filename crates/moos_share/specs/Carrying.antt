-- What one call of `carry` does to a bridge and to its seats in two communities, the first and the second.
use Rattle.std.specs.Prelude.{◌≡◌, ◌⊎◌, ℕ, List, [], ◌∷◌, codes, Option, Some, None}
use Rattle.moos_client.specs.Calls.{entries_of, IsCalled, IsFetched, IsUncalled, SeatState}
use Rattle.moos_post.specs.declared.entry.Call.TheVariants.{Post as Posts}
use Rattle.moos_post.specs.History.{name_of}
use Rattle.moos_share.specs.declared.fetching.Fetched.{Fetched}
use Rattle.moos_share.specs.declared.rule.Rule.{Rule}
use Rattle.moos_share.specs.Renaming.{renamed}
use Rattle.turn_lock.specs.Passes.{Begins, IsFree, IsOf, LockState}

-- what a bridge shows: its rules, and what it has fetched and not posted yet
pub record BridgeState : Type 0 where
  pub rules : List Rule
  pub unposted : Option Fetched

-- a bridge, and its seats in the first community and in the second
pub record SeatedBridge : Type 0 where
  pub bridge : BridgeState
  pub from : SeatState
  pub to : SeatState

-- these three
abbrev pub seated : BridgeState → SeatState → SeatState → SeatedBridge
seated bridge from to = record { bridge = bridge; from = from; to = to }

-- the seat is one at the lock, holds no turn, and its number names the bridge there
pub record MayCarry (lock : LockState (List (List ℕ))) (seat : SeatState) : Type 0 where
  pub of_lock : IsOf lock seat
  pub free : IsFree seat
  pub named : name_of lock.base seat.number ≡ codes "pShare"

-- A seat after a call: it has seen at least what it had, and but for what it has seen and its own entries it is as it was.
pub record HasGoneOn (old new : SeatState) : Type 0 where
  pub later : Begins new.seen old.seen
  pub same : new ≡ record old { seen = new.seen; mine = new.mine }

-- What a bridge has in hand, and its first seat then: what it had not posted yet, and the seat as it was; or else the mail of a
-- fetch made now, with the names of the clients there.
abbrev pub HasInHand : List (List ℕ) → ℕ → Option Fetched → SeatState → SeatState → Fetched → Type 0
HasInHand names stamp None before after fetched = (fetched.names ≡ names) × IsFetched before after names stamp fetched.mail
HasInHand names stamp (Some unposted) before after fetched = (fetched ≡ unposted) × (after ≡ before)

-- It has posted the renaming of what it had in hand, and nothing is left.
pub record HasCarried (names : List (List ℕ)) (stamp : ℕ) (before after : SeatedBridge) : Type 0 where
  pub fetched : Fetched
  pub in_hand : HasInHand names stamp before.bridge.unposted before.from after.from fetched
  pub posted : IsCalled before.to after.to stamp (Posts (renamed fetched.names before.bridge.rules fetched.mail))
  pub bridge : after.bridge ≡ record { rules = before.bridge.rules; unposted = None }

-- No memory was left for the fetch: nothing was left of a call before, and the bridge and its second seat are as they were.
pub record HasNotFetched (before after : SeatedBridge) : Type 0 where
  pub none : before.bridge.unposted ≡ None
  pub uncalled : IsUncalled before.from after.from
  pub own : entries_of before.from.number after.from.seen ≡ before.from.mine
  pub to : after.to ≡ before.to
  pub bridge : after.bridge ≡ before.bridge

-- No memory was left for the post: what the bridge had in hand is left to the next call.
pub record HasNotPosted (names : List (List ℕ)) (stamp : ℕ) (before after : SeatedBridge) : Type 0 where
  pub fetched : Fetched
  pub in_hand : HasInHand names stamp before.bridge.unposted before.from after.from fetched
  pub uncalled : IsUncalled before.to after.to
  pub bridge : after.bridge ≡ record { rules = before.bridge.rules; unposted = Some fetched }

-- what is so if no memory was left
abbrev pub HasNotCarried : List (List ℕ) → ℕ → SeatedBridge → SeatedBridge → Type 0
HasNotCarried names stamp before after = HasNotFetched before after ⊎ HasNotPosted names stamp before after

-- one call, whatever came of it
abbrev pub Carries : List (List ℕ) → ℕ → SeatedBridge → SeatedBridge → Type 0
Carries names stamp before after = HasCarried names stamp before after ⊎ HasNotCarried names stamp before after

-- calls at these stamps, one after another, whatever came of each
abbrev pub CarriesAll : List (List ℕ) → List ℕ → SeatedBridge → SeatedBridge → Type 0
CarriesAll names [] one last = last ≡ one
CarriesAll names (stamp ∷ stamps) one last = (next : SeatedBridge) × Carries names stamp one next × CarriesAll names stamps next last
