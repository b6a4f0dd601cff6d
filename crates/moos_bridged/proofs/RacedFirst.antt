-- The first community after a race, and both.
use Rattle.std.proofs.Common.{◌≡◌, ℕ, length, List, [], ◌∷◌, Ok, Result, sym, ap, ◌∙◌, subst}
use Rattle.std.specs.declared.alloc.AllocError.{AllocError}
use Rattle.moos_bridged.proofs.Raced.{raced_bridged}
use Rattle.moos_bridged.proofs.Racing.{IsJoined, IsSplit, joined_gathered, joined_on, joined_own, joined_seen, rests_raced}
use Rattle.moos_bridged.proofs.Starting.{first_mine}
use Rattle.moos_bridged.specs.Bridging.{IsBridgedSoFar}
use Rattle.moos_bridged.specs.Communities.{bridge_in, community_history, community_script, IsResting}
use Rattle.moos_bridged.specs.declared.community.Community.{Community}
use Rattle.moos_bridged.specs.Racing.{AreRaced, HasCarriedLines, HasRacedFirst, IsFirstReady, stamps_of}
use Rattle.moos_bridged.specs.Opening.{AreOpened}
use Rattle.moos_client.specs.Calls.{entries_of, SeatState}
use Rattle.moos_share.specs.Bridged.{bridge_opening}
use Rattle.moos_share.specs.Carrying.{BridgeState, seated}
use Rattle.moos_share.specs.Fetches.{IsUpToDate}
use Rattle.moos_step.specs.declared.player.Player.{Player}
use Rattle.moos_step.specs.Steps.{HasSeenAll}
use Rattle.script_reader.specs.declared.script.Script.{Script}
use Rattle.turn_lock.proofs.Fronts.{begins_on}

module _ (bridge bridge' : BridgeState) (one one' : Community) (number : ℕ) (ended others : Result (Unit {0}) AllocError) (parted apart played taken joined seat sailed : SeatState) (befores afters : List Player)
    (split : IsSplit one number parted apart seat befores) (so : IsJoined one number (Ok tt) ended others apart played taken joined seat sailed befores afters) (seen : HasSeenAll joined one'.first.seat)
    (script : community_script one' ≡ community_script one) (lock : one'.lock ≡ one.lock) (all : one'.from ≡ length (community_script one).lines) (calls : length one'.calls.items ≡ length one.calls.items) where
  -- it rests, whichever of the two it is
  pub raced_rests : one.from ≡ 0 → IsResting one'
  raced_rests unplayed = rests_raced one one' number split.bridge_is split.resting unplayed script lock all calls
      (joined_gathered one number (Ok tt) ended others parted apart played taken joined seat sailed befores afters split so one'.first.seat seen)
      (joined_on one number (Ok tt) ended others parted apart played taken joined seat sailed befores afters split so one'.first.seat seen)

  pub raced_number : sailed.number ≡ bridge_in one
  raced_number = ap (λ s. s.number) so.sails.made.same ∙ ap (λ s. s.number) split.seat_is ∙ split.bridge_is

  pub raced_own : entries_of (bridge_in one) (community_history one') ≡ sailed.mine
  raced_own = subst (λ n. entries_of n (community_history one') ≡ sailed.mine) split.bridge_is (joined_own one number (Ok tt) ended others parted apart played taken joined seat sailed befores afters split so one'.first.seat seen)

  -- the first of them
  pub raced_first : (to to' : SeatState) → IsFirstReady bridge one to → HasCarriedLines one.lock.base (stamps_of (community_script one).lines) (seated bridge seat to) (seated bridge' sailed to') → HasRacedFirst bridge bridge' one one' to to'
  raced_first to to' ready carried = record {
    resting = raced_rests ready.unplayed;
    script = script;
    lock = lock;
    all = all;
    later = (joined_on one number (Ok tt) ended others parted apart played taken joined seat sailed befores afters split so one'.first.seat seen).later;
    from = sailed;
    number = raced_number;
    seen = joined_seen one number (Ok tt) ended others parted apart played taken joined seat sailed befores afters split so one'.first.seat seen;
    own = raced_own;
    up_to_date = subst (λ mine. IsUpToDate one.lock.base mine (stamps_of (community_script one).lines) (seated bridge' sailed to')) (first_mine bridge to one number parted apart seat befores ready split) carried.up_to_date;
    rules = carried.rules;
    gone = carried.to;
  }

-- both, where the second has just what the bridge's seat there has posted
pub both_raced : (bridge bridge' : BridgeState) (one one' two two' : Community) (to to' : SeatState) → AreOpened bridge one two → HasRacedFirst bridge bridge' one one' to to' → IsResting two' → community_script two' ≡ community_script two
    → two'.from ≡ length (community_script two').lines → to'.number ≡ bridge_in two → entries_of (bridge_in two) (community_history two') ≡ to'.mine → AreRaced bridge' one' two'
both_raced bridge bridge' one one' two two' to to' ready so rests script all number posts = record {
  first = so.resting;
  second = rests;
  first_all = so.all ∙ ap (λ (s : Script). length s.lines) (sym so.script);
  second_all = all;
  bridged =
      subst (λ s. IsBridgedSoFar s (community_script two') bridge'.rules (stamps_of s.lines) (community_history one') (community_history two')) (sym so.script)
      (subst (λ s. IsBridgedSoFar (community_script one) s bridge'.rules (stamps_of (community_script one).lines) (community_history one') (community_history two')) (sym script)
      (subst (λ rules. IsBridgedSoFar (community_script one) (community_script two) rules (stamps_of (community_script one).lines) (community_history one') (community_history two')) (sym so.rules)
      (raced_bridged (community_script one) (community_script two) bridge.rules (stamps_of (community_script one).lines) (community_history one') (community_history two') bridge' so.from to' so.number number so.rules
      (begins_on (bridge_opening (community_script one) bridge.rules ∷ []) (community_history one) (community_history one') ([], ready.opened) so.later) so.seen so.own posts
      (subst (λ names. IsUpToDate names (bridge_opening (community_script one) bridge.rules ∷ []) (stamps_of (community_script one).lines) (seated bridge' so.from to')) ready.first.names so.up_to_date))));
  none = so.up_to_date.none;
}
