-- Two communities after a race, and after the last carrying.
use Rattle.std.proofs.Common.{◌≡◌, ℕ, max, cond, eq-eqb, length, length-drop, List, [], ◌∷◌, ◌++◌, map, refl, sym, ap, ◌∙◌, subst, arith}
use Rattle.moos_bridged.proofs.Bridging.{bridged_next, fetch_at, post_at}
use Rattle.moos_bridged.proofs.Ending.{own_lines}
use Rattle.moos_share.proofs.NextFetches.{fetches_next, fetches_same, none_more}
use Rattle.moos_bridged.specs.Bridging.{IsBridgedSoFar}
use Rattle.moos_bridged.specs.Communities.{community_history, community_script, HasCrossed, IsResting, left_lines}
use Rattle.moos_bridged.specs.declared.community.Community.{Community}
use Rattle.moos_bridged.specs.Racing.{AreRaced, stamps_of}
use Rattle.moos_client.proofs.Histories.{own_rest}
use Rattle.moos_client.specs.Calls.{entries_of, SeatState}
use Rattle.moos_db.specs.Database.{letters_after}
use Rattle.moos_post.specs.declared.entry.Entry.{Entry}
use Rattle.moos_post.specs.History.{History}
use Rattle.moos_share.specs.Bridged.{bridge_number, bridge_opening, fetches_on, IsBridged, IsShared, names_bridged}
use Rattle.moos_share.specs.Carrying.{BridgeState, seated}
use Rattle.moos_share.specs.declared.rule.Rule.{Rule}
use Rattle.moos_share.specs.Fetches.{fetch_entry, fetches_by, fetches_of, IsUpToDate, MailedFetch, post_entry}
use Rattle.script_reader.specs.declared.script.Order.TheVariants.{Race}
use Rattle.script_reader.specs.declared.script.Script.{Script}
use Rattle.turn_lock.specs.Passes.{Begins}

-- a bridge that has posted all that it has fetched, in two histories that have just its entries
pub raced_bridged : (first second : Script) (rules : List Rule) (stamps : List ℕ) (one two : History) (bridge : BridgeState) (from to : SeatState) → from.number ≡ bridge_number first → to.number ≡ bridge_number second → bridge.rules ≡ rules
    → Begins one (bridge_opening first rules ∷ []) → Begins one from.seen → entries_of (bridge_number first) one ≡ from.mine → entries_of (bridge_number second) two ≡ to.mine
    → IsUpToDate (names_bridged first) (bridge_opening first rules ∷ []) stamps (seated bridge from to) → IsBridgedSoFar first second rules stamps one two
raced_bridged first second rules stamps one two bridge from to from_is to_is rules_is opened seen own posts so = record {
  rest = opened.0;
  opened = opened.1;
  fetched = own_rest (opening ∷ []) opened.0 n (map (fetch_entry n) (fetches_on first one))
      (ap (entries_of n) (sym opened.1) ∙ own ∙ so.fetched ∙ ap (λ fetches. opening ∷ map (fetch_entry from.number) fetches) (sym same) ∙ ap (λ k. opening ∷ map (fetch_entry k) (fetches_on first one)) from_is
      ∙ ap (λ b. cond b (opening ∷ []) [] ++ map (fetch_entry n) (fetches_on first one)) (sym (eq-eqb n n refl)));
  posted = posts ∙ so.posted ∙ ap (λ fetches. map (post_entry names bridge.rules to.number) fetches) (sym same) ∙ ap (λ rules. map (post_entry names rules to.number) (fetches_on first one)) rules_is
      ∙ ap (λ k. map (post_entry names rules k) (fetches_on first one)) to_is;
  stamps_are = ap (map (λ (fetch : MailedFetch). fetch.stamp)) same ∙ so.stamps_are;
}
  where
    n : ℕ
    n = bridge_number first

    names : List (List ℕ)
    names = names_bridged first

    opening : Entry
    opening = bridge_opening first rules

    here : entries_of n from.seen ≡ from.mine
    here = subst (λ k. entries_of k from.seen ≡ from.mine) from_is so.own

    same : fetches_on first one ≡ fetches_by names (seated bridge from to)
    same =
        ap (fetches_of names n) seen.1 ∙ fetches_same names n from.seen seen.0 (none_more n from.seen seen.0 from.mine here (subst (λ history. entries_of n history ≡ from.mine) seen.1 own))
        ∙ ap (λ k. fetches_of names k from.seen) (sym from_is)

-- the last carrying ends both histories
last_bridged : (first second : Script) (rules : List Rule) (stop : ℕ) (one two : History) → stop ≡ max first.stop second.stop → IsBridgedSoFar first second rules (stamps_of first.lines) one two
    → IsBridged Race first second rules (one ++ fetch_at first stop ∷ []) (two ++ post_at first second rules stop one ∷ [])
last_bridged first second rules stop one two is so = record {
  rest = next.rest;
  opened = next.opened;
  fetched = next.fetched;
  posted = next.posted;
  ordered = record {
    stamps = next.stamps_are ∙ ap (λ stop. stamps_of first.lines ++ stop ∷ []) is;
    ended = record {
      before = fetches_on first one;
      last = record { stamp = stop; mail = letters_after (names_bridged first) (bridge_number first) one };
      fetches = fetches_next (names_bridged first) (bridge_number first) stop one;
      fetch = (one, refl);
      post = (two, refl);
    };
  };
}
  where
    next : IsBridgedSoFar first second rules (stamps_of first.lines ++ stop ∷ []) (one ++ fetch_at first stop ∷ []) (two ++ post_at first second rules stop one ∷ [])
    next = bridged_next first second rules (stamps_of first.lines) stop one two so

-- no line is left
none_left : (community : Community) (from : ℕ) → from ≡ length (community_script community).lines → community.from ≡ from → length (left_lines community) ≡ 0
none_left community from all is = omega (arith, all, is, length-drop community.from (community_script community).lines)

pub race_shared : (bridge : BridgeState) (stop : ℕ) (one one' two two' : Community) → AreRaced bridge one two → stop ≡ max (community_script one).stop (community_script two).stop → IsResting one' → IsResting two' → HasCrossed bridge.rules stop one one' two two'
    → IsShared Race (community_script one') (community_script two') bridge.rules (community_history one') (community_history two')
race_shared bridge stop one one' two two' so is first second crossed = record {
  bridged =
      subst (λ s. IsBridged Race s (community_script two') bridge.rules (community_history one') (community_history two')) (sym crossed.first.script)
      (subst (λ s. IsBridged Race (community_script one) s bridge.rules (community_history one') (community_history two')) (sym crossed.second.script)
      (subst (λ h. IsBridged Race (community_script one) (community_script two) bridge.rules h (community_history two')) (sym crossed.first.history)
      (subst (λ h. IsBridged Race (community_script one) (community_script two) bridge.rules (community_history one ++ fetch_at (community_script one) stop ∷ []) h) (sym crossed.second.history)
      (last_bridged (community_script one) (community_script two) bridge.rules stop (community_history one) (community_history two) is so.bridged))));
  first_lines = own_lines one' first (none_left one' one.from (so.first_all ∙ ap (λ (s : Script). length s.lines) (sym crossed.first.script)) crossed.from);
  second_lines = own_lines two' second (none_left two' two.from (so.second_all ∙ ap (λ (s : Script). length s.lines) (sym crossed.second.script)) crossed.to);
}
