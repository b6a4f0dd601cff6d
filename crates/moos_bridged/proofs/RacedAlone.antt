-- A race where one of the scripts has no clients: it has no lines, and the bridge has the first seat there.
use Rattle.std.proofs.Common.{◌≡◌, ◌≢◌, ℕ, ◌<◌, ◌==◌, cond, eq-eqb, ne_eqb, true, false, List, [], ◌∷◌, ◌++◌, append-nil, length, nat_lt, refl, sym, ap, ◌∙◌, subst, take, arith}
use Rattle.std.specs.List.{list_all}
use Rattle.std.specs.Prelude.{codes}
use Rattle.std.proofs.lemmas.Bool.{and_parts}
use Rattle.std.proofs.lemmas.Bool.Decides.{nat_tests}
use Rattle.moos_bridged.proofs.Beginning.{begun_bridged}
use Rattle.moos_bridged.proofs.Bridging.{bridged_on}
use Rattle.moos_bridged.proofs.Lines.{all_left, lines_below}
use Rattle.moos_step.proofs.Steps.{none_past}
use Rattle.moos_bridged.proofs.Starting.{named_last}
use Rattle.moos_bridged.specs.Bridging.{IsBridgedSoFar}
use Rattle.moos_bridged.specs.Communities.{bridge_in, community_history, community_script, HasPlayedLines, IsResting, left_lines}
use Rattle.moos_bridged.specs.declared.community.Community.{Community}
use Rattle.moos_bridged.specs.Racing.{AreRaced, IsFirstReady, stamps_of}
use Rattle.moos_bridged.specs.Opening.{AreOpened}
use Rattle.moos_client.specs.Calls.{entries_of, SeatState}
use Rattle.moos_post.specs.declared.entry.Entry.{Entry}
use Rattle.moos_post.specs.History.{name_of}
use Rattle.moos_share.specs.Bridged.{names_bridged}
use Rattle.moos_share.specs.Carrying.{BridgeState, HasGoneOn, MayCarry}
use Rattle.moos_step.proofs.Taking.{seen_gathered, seen_whole}
use Rattle.moos_step.specs.Steps.{CommunityLock, HasSeenAll, IsGathered}
use Rattle.script_reader.specs.declared.script.Script.{Script}
use Rattle.turn_lock.specs.Passes.{events_in, HasAll, known_of}

-- without clients there are no lines
no_lines : (lines : List Entry) → list_all (λ line. nat_lt line.client 0) lines ≡ true → lines ≡ []
no_lines [] all = refl
no_lines (line ∷ lines) all =
    let here = (and_parts (nat_lt line.client 0) (list_all (λ line. nat_lt line.client 0) lines) all).0 in
    absurd (grind (arith, nat_tests, here))

pub unpeopled : (community : Community) → IsResting community → bridge_in community ≡ 0 → (community_script community).lines ≡ []
unpeopled community so none =
    no_lines (community_script community).lines
    (subst (λ n. list_all (λ (line : Entry). nat_lt line.client n) (community_script community).lines ≡ true) none
    (lines_below (bridge_in community) 0 (community_script community).stop (community_script community).lines so.valid.lines))

-- the bridge is the first client there, which has made what the history has of it
first_own : (community : Community) → IsResting community → community_history community ≡ [] → community.first.seat.mine ≡ []
first_own community so silent =
    let first : SeatState = community.first.seat in
    sym (so.whole 0 ∙ ap (λ b. cond b first.mine (events_in first.met 0)) (eq-eqb first.number 0 so.gathered.number)) ∙ ap (entries_of 0) silent

pub alone_may : (community : Community) → IsResting community → bridge_in community ≡ 0 → MayCarry community.lock community.first.seat
alone_may community so none = record {
  of_lock = so.gathered.may.of_lock;
  free = so.gathered.may.free;
  named = ap (λ names. name_of names community.first.seat.number) so.names ∙ ap (name_of (names_bridged (community_script community))) (so.gathered.number ∙ sym none)
      ∙ named_last (community_script community).names (codes "pShare");
}

pub alone_ready : (bridge : BridgeState) (one two : Community) → AreOpened bridge one two → 0 < bridge_in one → IsFirstReady bridge one two.first.seat
alone_ready bridge one two ready above = record {
  resting = ready.first;
  clients = above;
  unplayed = ready.first_unplayed;
  opened = ready.opened;
  none = ready.none;
  idle = first_own two ready.second ready.silent;
}

-- the first seat goes on with all others
pub gone_gathered : (lock : CommunityLock) (before after : SeatState) → HasGoneOn before after → IsGathered lock before → IsGathered lock after
gone_gathered lock before after gone gathered = subst (IsGathered lock) (sym gone.same) (record {
  may = record {
    of_lock = record { same = gathered.may.of_lock.same; live = gathered.may.of_lock.live; base = gathered.may.of_lock.base };
    free = gathered.may.free;
  };
  number = gathered.number;
  all = gathered.all;
  each = gathered.each;
  once = gathered.once;
})

pub gone_all : (lock : CommunityLock) (before after : SeatState) → HasGoneOn before after → IsGathered lock before → HasAll after
gone_all lock before after gone gathered = let so = gone_gathered lock before after gone gathered in record { first = so.number; all = so.all }

-- nothing is known of the other clients
others_silent : (community : Community) (to : SeatState) (client : ℕ) → IsResting community → bridge_in community ≡ 0 → community_history community ≡ [] → HasGoneOn community.first.seat to → client ≢ bridge_in community → known_of to client ≡ []
others_silent community to client so none silent gone other =
    let first : SeatState = community.first.seat in
    let apart : first.number == client ≡ false = ne_eqb first.number client (λ e. other (sym e ∙ so.gathered.number ∙ sym none)) in
    ap (λ s. known_of s client) gone.same ∙ ap (λ b. cond b to.mine (events_in first.met client)) apart
    ∙ sym (so.whole client ∙ ap (λ b. cond b first.mine (events_in first.met client)) apart) ∙ ap (entries_of client) silent

module _ (two : Community) (to seen : SeatState) (so : IsResting two) (none : bridge_in two ≡ 0) (unplayed : two.from ≡ 0) (silent : community_history two ≡ []) (gone : HasGoneOn two.first.seat to) (all : HasSeenAll to seen) where
  abbrev after : Community
  after = record two { first = record two.first { seat = seen } }

  pub alone_rests : IsResting after
  alone_rests = record {
    valid = so.valid;
    names = so.names;
    gathered = seen_gathered two.lock to seen all (gone_gathered two.lock two.first.seat to gone so.gathered);
    whole = seen_whole to seen all;
    within = so.within;
    calls = so.calls;
    own = λ client other. all.whole client ∙ others_silent two to client so none silent gone other ∙ ap (λ n. entries_of client (take n (community_script two).lines)) (sym unplayed);
  }

  pub alone_all : two.from ≡ length (community_script two).lines
  alone_all = unplayed ∙ sym (ap length (unpeopled two so none))

  pub alone_number : to.number ≡ bridge_in two
  alone_number = ap (λ s. s.number) gone.same ∙ so.gathered.number ∙ sym none

  pub alone_own : entries_of (bridge_in two) seen.seen ≡ to.mine
  alone_own = all.whole (bridge_in two) ∙ ap (λ b. cond b to.mine (events_in to.met (bridge_in two))) (eq-eqb to.number (bridge_in two) alone_number)

-- the first has no clients, and those of the second play all their lines
pub second_raced : (bridge : BridgeState) (one two two' : Community) → AreOpened bridge one two → bridge_in one ≡ 0 → IsResting two' → HasPlayedLines (left_lines two) two two' → two'.from ≡ length (community_script two).lines → AreRaced bridge one two'
second_raced bridge one two two' ready none rests played all = record {
  first = ready.first;
  second = rests;
  first_all = ready.first_unplayed ∙ sym (ap length lines);
  second_all = all ∙ ap (λ (s : Script). length s.lines) (sym played.on.script);
  bridged =
      subst (λ s. IsBridgedSoFar (community_script one) s bridge.rules (stamps_of (community_script one).lines) (community_history one) (community_history two')) (sym played.on.script)
      (subst (λ stamps. IsBridgedSoFar (community_script one) (community_script two) bridge.rules stamps (community_history one) (community_history two')) (sym (ap stamps_of lines))
      (subst (λ h. IsBridgedSoFar (community_script one) (community_script two) bridge.rules [] h (community_history two')) (append-nil (community_history one))
      (subst (λ h. IsBridgedSoFar (community_script one) (community_script two) bridge.rules [] (community_history one ++ []) h) (sym played.on.history)
      (bridged_on (community_script one) (community_script two) bridge.rules [] (community_history one) (community_history two) [] played.added
      (begun_bridged bridge bridge.rules one two refl ready.opened ready.silent) refl
      (played.own (bridge_in two)
      ∙ none_past (bridge_in two) (bridge_in two) (left_lines two) (all_left (λ line. nat_lt line.client (bridge_in two)) (community_script two).lines two.from
      (lines_below (bridge_in two) 0 (community_script two).stop (community_script two).lines ready.second.valid.lines)) (omega arith))))));
  none = ready.none;
}
  where
    lines : (community_script one).lines ≡ []
    lines = unpeopled one ready.first none
