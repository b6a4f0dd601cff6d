-- The bridge's seats before a race.
use Rattle.std.proofs.Common.{◌≡◌, ℕ, cond, not, eq-eqb, List, [], ◌∷◌, ◌++◌, length, refl, sym, ap, ◌∙◌, subst}
use Rattle.std.specs.List.{list_all}
use Rattle.std.specs.Prelude.{codes}
use Rattle.moos_bridged.proofs.Racing.{bridge_mine, bridge_seen, IsSplit}
use Rattle.moos_bridged.specs.Communities.{bridge_in, community_script}
use Rattle.moos_bridged.specs.Racing.{IsFirstReady}
use Rattle.moos_bridged.specs.declared.community.Community.{Community}
use Rattle.moos_client.specs.Calls.{entries_of, SeatState}
use Rattle.moos_post.specs.declared.entry.Entry.{Entry}
use Rattle.moos_post.specs.Delivery.{is_fetch}
use Rattle.moos_post.specs.History.{name_of}
use Rattle.moos_share.specs.Bridged.{bridge_opening, names_bridged}
use Rattle.moos_share.specs.Carrying.{BridgeState, MayCarry, seated}
use Rattle.moos_share.specs.Fetches.{IsAtStart}
use Rattle.moos_step.specs.declared.player.Player.{Player}
use Rattle.turn_lock.specs.Passes.{beside, events_in}

-- the bridge is named by its number
pub named_last : (names : List (List ℕ)) (name : List ℕ) → name_of (names ++ name ∷ []) (length names) ≡ name
named_last [] name = refl
named_last (one ∷ names) name = named_last names name

-- its seat is one at the lock
pub may_carry : (before : Community) (bridge : ℕ) (parted apart seat : SeatState) (players : List Player) → IsSplit before bridge parted apart seat players → MayCarry before.lock seat
may_carry before bridge parted apart seat players so =
    subst (MayCarry before.lock) (sym (so.seat_is ∙ ap {A = SeatState} (λ p. beside p bridge (events_in parted.met bridge)) so.are.same)) (record {
      of_lock = record { same = so.resting.gathered.may.of_lock.same; live = so.resting.gathered.may.of_lock.live; base = so.resting.gathered.may.of_lock.base };
      free = refl;
      named = ap (λ names. name_of names bridge) so.resting.names ∙ ap (name_of (names_bridged (community_script before))) so.bridge_is ∙ named_last (community_script before).names (codes "pShare");
    })

-- what it has made in the first community is its registration
pub first_mine : (rules : BridgeState) (to : SeatState) (before : Community) (bridge : ℕ) (parted apart seat : SeatState) (players : List Player) → IsFirstReady rules before to → IsSplit before bridge parted apart seat players
    → seat.mine ≡ bridge_opening (community_script before) rules.rules ∷ []
first_mine rules to before bridge parted apart seat players ready so =
    bridge_mine before bridge parted apart seat players so ∙ ap (entries_of bridge) ready.opened
    ∙ ap (λ b. cond b (bridge_opening (community_script before) rules.rules ∷ []) []) (eq-eqb (bridge_in before) bridge (sym so.bridge_is))

-- and it has yet to fetch
pub first_start : (rules : BridgeState) (to : SeatState) (before : Community) (bridge : ℕ) (parted apart seat : SeatState) (players : List Player) → IsFirstReady rules before to → IsSplit before bridge parted apart seat players → IsAtStart (seated rules seat to)
first_start rules to before bridge parted apart seat players ready so = record {
  own = ap (λ n. entries_of n seat.seen) (ap (λ s. s.number) so.seat_is) ∙ ap (entries_of bridge) (bridge_seen before bridge parted apart seat players so) ∙ sym (bridge_mine before bridge parted apart seat players so);
  none = ready.none;
  unfetched = ap (list_all (λ (entry : Entry). not (is_fetch entry.call))) (first_mine rules to before bridge parted apart seat players ready so);
  idle = ready.idle;
}
