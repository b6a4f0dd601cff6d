-- One carrying while nobody else calls: what it leaves in both communities.
use Rattle.std.proofs.Common.{◌≡◌, ℕ, List, [], ◌∷◌, None, Ok, refl, sym, ap, ◌∙◌, subst}
use Rattle.moos_bridged.proofs.Alone.{IsAdded}
use Rattle.moos_bridged.proofs.Playing.{rests_on}
use Rattle.moos_bridged.specs.Communities.{bridge_in, community_history, GoesOnBy, HasCrossed, HasCrossedFrom, IsResting}
use Rattle.moos_bridged.specs.declared.community.Community.{Community}
use Rattle.moos_client.specs.Calls.{entry_of, IsCalled, IsFetched, SeatState}
use Rattle.moos_db.specs.declared.mail.Letter.{Letter}
use Rattle.moos_db.specs.Database.{letters_after}
use Rattle.moos_post.specs.declared.entry.Call.{Call}
use Rattle.moos_post.specs.declared.entry.Call.TheVariants.{Fetch, Post as Posts}
use Rattle.moos_post.specs.declared.value.Pair.{Pair}
use Rattle.moos_share.specs.Carrying.{BridgeState, HasCarried, HasGoneOn, HasInHand, seated}
use Rattle.moos_share.specs.declared.rule.Rule.{Rule}
use Rattle.moos_share.specs.Renaming.{renamed}
use Rattle.moos_step.proofs.Calling.{fetch_answered}
use Rattle.moos_step.specs.Steps.{IsAnswered}

-- the community with another first seat
abbrev pub seated_with : Community → SeatState → Community
seated_with community seat = record community { first = record community.first { seat = seat } }

-- the community after the bridge's entry
pub added_rests : (community : Community) (stamp : ℕ) (call : Call) (mail : List Letter) (seen : SeatState) → IsResting community → IsAdded community.lock (bridge_in community) stamp call mail community.first.seat seen → IsResting (seated_with community seen)
added_rests community stamp call mail seen so added = rests_on community (seated_with community seen) (entry_of (bridge_in community) stamp call) so refl refl refl refl refl added.gathered added.whole added.history

pub added_on : (community : Community) (stamp : ℕ) (call : Call) (mail : List Letter) (seen : SeatState) → IsAdded community.lock (bridge_in community) stamp call mail community.first.seat seen → GoesOnBy (entry_of (bridge_in community) stamp call ∷ []) community (seated_with community seen)
added_on community stamp call mail seen added = record { script = refl; lock = refl; history = added.history }

-- a post is a call without mail
pub posted : (names : List (List ℕ)) (stamp : ℕ) (batch : List Pair) (seat made : SeatState) → IsCalled seat made stamp (Posts batch) → IsAnswered names seat made stamp (Posts batch) []
posted names stamp batch seat made called = record { called = called; mail = refl }

-- a fetch with its mail
pub fetched : (names : List (List ℕ)) (stamp : ℕ) (mail : List Letter) (seat made : SeatState) → IsFetched seat made names stamp mail → IsAnswered names seat made stamp Fetch mail
fetched names stamp mail seat made fetch = fetch_answered (Ok mail) names seat made stamp Fetch refl fetch

module _ (names : List (List ℕ)) (stamp : ℕ) (bridge bridge' : BridgeState) (from from' to to' : SeatState) (none : bridge.unposted ≡ None) (carried : HasCarried names stamp (seated bridge from to) (seated bridge' from' to')) where
  hand : HasInHand names stamp None from from' carried.fetched
  hand = subst (λ unposted. HasInHand names stamp unposted from from' carried.fetched) none carried.in_hand

  -- the fetch, and the post of its mail
  pub carried_fetch : IsFetched from from' names stamp carried.fetched.mail
  carried_fetch = hand.1

  pub carried_post : (others : List (List ℕ)) → IsAnswered others to to' stamp (Posts (renamed names bridge.rules carried.fetched.mail)) []
  carried_post others = posted others stamp (renamed names bridge.rules carried.fetched.mail) to to'
      (subst (λ names. IsCalled to to' stamp (Posts (renamed names bridge.rules carried.fetched.mail))) hand.0 carried.posted)

  pub carried_same : bridge' ≡ bridge
  carried_same = carried.bridge ∙ ap (λ unposted. record { rules = bridge.rules; unposted = unposted }) (sym none)

-- the post ends the second history
pub crossed_from : (names : List (List ℕ)) (rules : List Rule) (stamp : ℕ) (mail : List Letter) (from from' : SeatState) (two : Community) (seen : SeatState) → IsFetched from from' names stamp mail → HasGoneOn from from'
    → IsAdded two.lock (bridge_in two) stamp (Posts (renamed names rules mail)) [] two.first.seat seen → HasCrossedFrom names rules stamp from from' two (seated_with two seen)
crossed_from names rules stamp mail from from' two seen fetch on added = record {
  mail = mail;
  fetched = fetch;
  on_from = on;
  second = added_on two stamp (Posts (renamed names rules mail)) [] seen added;
  to = refl;
}

-- and the fetch the first
pub crossed : (rules : List Rule) (stamp : ℕ) (one : Community) (seen from from' : SeatState) (two two' : Community) → IsResting one → (from : HasCrossedFrom one.lock.base rules stamp from from' two two') → IsAdded one.lock (bridge_in one) stamp Fetch from.mail one.first.seat seen
    → HasCrossed rules stamp one (seated_with one seen) two two'
crossed rules stamp one seen from from' two two' so here added = record {
  first = added_on one stamp Fetch here.mail seen added;
  second = subst (λ batch. GoesOnBy (entry_of (bridge_in two) stamp (Posts batch) ∷ []) two two') (ap (renamed one.lock.base rules) added.mail_is ∙ ap (λ names. renamed names rules (letters_after names (bridge_in one) (community_history one))) so.names) here.second;
  from = refl;
  to = here.to;
}
