-- A community whose clients play all their lines beside the bridge: it rests again, and has of the bridge just what its seat has made.
use Rattle.std.proofs.Common.{◌≡◌, ℕ, ◌<◌, ◌==◌, cond, ne_eqb, true, List, [], ◌∷◌, ◌++◌, map, take, length, Ok, OnOk, Result, sym, ap, ◌∙◌, subst, arith, nat_lt}
use Rattle.std.specs.List.{All, AllZip, list_all}
use Rattle.std.specs.declared.alloc.AllocError.{AllocError}
use Rattle.std.proofs.lemmas.List.{take_all}
use Rattle.std.proofs.lemmas.List.Elements.{filter-append}
use Rattle.moos_step.proofs.Beside.{client_absent, client_with, race_step}
use Rattle.moos_bridged.proofs.Lines.{lines_below}
use Rattle.moos_bridged.proofs.Playing.{bridge_last}
use Rattle.moos_bridged.specs.Communities.{bridge_in, community_history, community_script, IsResting}
use Rattle.moos_bridged.specs.declared.community.Community.{Community}
use Rattle.moos_client.specs.Calls.{entries_of, SeatState}
use Rattle.moos_post.specs.declared.entry.Entry.{Entry}
use Rattle.moos_share.specs.Bridged.{bridge_number, names_bridged}
use Rattle.moos_share.specs.Carrying.{HasGoneOn}
use Rattle.moos_step.proofs.Growing.{grown}
use Rattle.moos_step.proofs.Leading.{known_met, player_of}
use Rattle.moos_step.proofs.Taking.{IsStep, seen_gathered, step_gathered, step_goes_on}
use Rattle.moos_step.specs.declared.player.Player.{Player}
use Rattle.moos_step.specs.Steps.{Anything, AreBusy, AreParted, CommunityLock, GoesOn, HasEnded, HasSeenAll, HasTaken, IsGathered, IsPlayed, IsPlayedBeside, Makes, met_of, times_met}
use Rattle.script_reader.specs.declared.script.Script.{Script}
use Rattle.script_reader.specs.Validity.{IsValid}
use Rattle.turn_lock.proofs.Fronts.{begins_on}
use Rattle.turn_lock.proofs.Mets.{events_front, is_taken}
use Rattle.turn_lock.specs.Passes.{Begins, beside, events_in, has_number, HasAll, known_of, met_with, without_number}
use Rattle.std.specs.List.{list_any}

abbrev all_lines : Community → List Entry
all_lines community = (community_script community).lines

-- The seats of the clients with lines are parted from the first, and then the bridge's.
pub record IsSplit (before : Community) (bridge : ℕ) (parted apart seat : SeatState) (players : List Player) : Type 0 where
  pub resting : IsResting before
  pub bridge_is : bridge ≡ bridge_in before
  pub above : 0 < bridge
  pub are : AreParted before.lock before.first.seat parted players
  pub busy : AreBusy (all_lines before) (length before.calls.items) players
  pub apart_is : apart ≡ record parted { met = without_number bridge parted.met }
  pub seat_is : seat ≡ beside parted bridge (events_in parted.met bridge)

-- All play, and the first takes the clients in and then the bridge.
pub record IsJoined (before : Community) (bridge : ℕ) (result ended others : Result (Unit {0}) AllocError) (apart played taken joined seat sailed : SeatState) (befores afters : List Player) : Type 0 where
  pub makes : Makes (IsPlayed (all_lines before) ended) apart played
  pub zip : AllZip (HasEnded (all_lines before)) befores afters
  pub sails : Makes Anything seat sailed
  pub taken_is : HasTaken played taken afters
  pub joined_is : joined ≡ met_with taken sailed
  pub later : Begins joined.seen taken.seen × Begins joined.seen sailed.seen
  pub ok : OnOk others (All (λ player. player.ended ≡ Ok tt) afters)
  pub both : OnOk result ((ended ≡ Ok tt) × (others ≡ Ok tt))

-- the bridge has a place among the clients
bridge_below : (community : Community) (bridge : ℕ) → IsResting community → bridge ≡ bridge_in community → bridge < length community.lock.base
bridge_below community bridge resting is = omega (arith, is, bridge_last community resting)

busy_bridge : (community : Community) (bridge : ℕ) (players : List Player) → IsResting community → bridge ≡ bridge_in community → AreBusy (all_lines community) (length community.calls.items) players → AreBusy (all_lines community) bridge players
busy_bridge community bridge players resting is busy = subst (λ n. AreBusy (all_lines community) n players) (resting.calls ∙ sym is) busy

-- the bridge is with the first seat once the clients with lines are parted
pub bridge_with : (before : Community) (bridge : ℕ) (parted : SeatState) (players : List Player) → IsResting before → bridge ≡ bridge_in before → 0 < bridge → AreParted before.lock before.first.seat parted players
    → AreBusy (all_lines before) (length before.calls.items) players → (parted.number ≡ 0) × (list_any (has_number bridge) parted.met ≡ true)
bridge_with before bridge parted players resting is above are busy =
    let here = client_with before.lock (all_lines before) bridge before.first.seat parted players resting.gathered are (busy_bridge before bridge players resting is busy) above (bridge_below before bridge resting is) in
    (ap (λ s. s.number) are.same ∙ resting.gathered.number, is_taken bridge parted.met (omega (arith, here)))

-- and its seat has made what the history has of it
pub bridge_mine : (before : Community) (bridge : ℕ) (parted apart seat : SeatState) (players : List Player) → IsSplit before bridge parted apart seat players → seat.mine ≡ entries_of bridge (community_history before)
bridge_mine before bridge parted apart seat players so =
    ap (λ s. s.mine) so.seat_is
    ∙ sym (so.resting.whole bridge ∙ ap (λ b. cond b first.mine (events_in first.met bridge)) (ne_eqb first.number bridge (λ e. omega (arith, e, so.resting.gathered.number, so.above)))
    ∙ sym (so.are.known bridge) ∙ events_front parted.met (map met_of players) bridge (omega (arith, here)))
  where
    first : SeatState
    first = before.first.seat

    here : times_met bridge parted.met ≡ 1
    here = client_with before.lock (all_lines before) bridge before.first.seat parted players so.resting.gathered so.are (busy_bridge before bridge players so.resting so.bridge_is so.busy) so.above (bridge_below before bridge so.resting so.bridge_is)

-- and has seen as much as the first
pub bridge_seen : (before : Community) (bridge : ℕ) (parted apart seat : SeatState) (players : List Player) → IsSplit before bridge parted apart seat players → seat.seen ≡ community_history before
bridge_seen before bridge parted apart seat players so = ap (λ s. s.seen) so.seat_is ∙ ap (λ s. s.seen) so.are.same

module _ (before : Community) (bridge : ℕ) (result ended others : Result (Unit {0}) AllocError) (parted apart played taken joined seat sailed : SeatState) (befores afters : List Player) (split : IsSplit before bridge parted apart seat befores)
    (so : IsJoined before bridge result ended others apart played taken joined seat sailed befores afters) where
  busy : AreBusy (all_lines before) bridge befores
  busy = busy_bridge before bridge befores split.resting split.bridge_is split.busy

  below : list_all (λ line. nat_lt line.client bridge) (all_lines before) ≡ true
  below = subst (λ n. list_all (λ (line : Entry). nat_lt line.client n) (all_lines before) ≡ true) (sym split.bridge_is) (lines_below (bridge_in before) 0 (community_script before).stop (all_lines before) split.resting.valid.lines)

  step : IsStep before.lock (IsPlayedBeside bridge (all_lines before) result) before.first.seat apart played joined (befores ++ player_of seat ∷ []) (afters ++ player_of sailed ∷ [])
  step = race_step before.lock (all_lines before) bridge result ended others before.first.seat parted apart played taken joined seat sailed befores afters split.resting.gathered split.are busy below split.above
      (bridge_below before bridge split.resting split.bridge_is) split.apart_is split.seat_is so.makes so.zip so.sails so.taken_is so.joined_is so.later.0 so.ok so.both

  -- the first seat has all again
  pub joined_all : HasAll joined
  joined_all = let gathered = step_gathered before.lock (IsPlayedBeside bridge (all_lines before) result) before.first.seat apart played joined (befores ++ player_of seat ∷ []) (afters ++ player_of sailed ∷ []) step in record { first = gathered.number; all = gathered.all }

  pub joined_gathered : (after : SeatState) → HasSeenAll joined after → IsGathered before.lock after
  joined_gathered after seen = seen_gathered before.lock joined after seen (step_gathered before.lock (IsPlayedBeside bridge (all_lines before) result) before.first.seat apart played joined (befores ++ player_of seat ∷ []) (afters ++ player_of sailed ∷ []) step)

  -- its history goes on by the clients' lines, and by what the bridge made
  pub joined_on : (after : SeatState) → HasSeenAll joined after → GoesOn (IsPlayedBeside bridge (all_lines before) result) before.first.seat after
  joined_on after seen = step_goes_on before.lock (IsPlayedBeside bridge (all_lines before) result) before.first.seat apart played joined after (befores ++ player_of seat ∷ []) (afters ++ player_of sailed ∷ []) step seen

  number : sailed.number ≡ bridge
  number = ap (λ s. s.number) so.sails.made.same ∙ ap (λ s. s.number) split.seat_is

  -- of the bridge it has just what its seat has made
  pub joined_own : (after : SeatState) → HasSeenAll joined after → entries_of bridge after.seen ≡ sailed.mine
  joined_own after seen =
      seen.whole bridge ∙ subst (λ n. known_of joined n ≡ sailed.mine) number
      (known_met taken joined sailed so.joined_is (ap (λ s. s.met) so.sails.made.same ∙ ap (λ s. s.met) split.seat_is)
      (λ e. omega (arith, e, number, ap (λ s. s.number) so.taken_is.same, ap (λ s. s.number) so.makes.made.same, ap (λ s. s.number) split.apart_is, ap (λ s. s.number) split.are.same, split.resting.gathered.number, split.above))
      (subst (λ n. times_met n taken.met ≡ 0) (sym number) (client_absent (all_lines before) bridge parted apart played taken so.makes.added befores afters busy split.apart_is so.makes.made so.zip so.taken_is)))

  pub joined_seen : (after : SeatState) → HasSeenAll joined after → Begins after.seen sailed.seen
  joined_seen after seen = begins_on sailed.seen joined.seen after.seen so.later.1 seen.later

-- the same community after a race
pub rests_raced : (before after : Community) (bridge : ℕ) → bridge ≡ bridge_in before → IsResting before → before.from ≡ 0 → community_script after ≡ community_script before → after.lock ≡ before.lock → after.from ≡ length (all_lines before)
    → length after.calls.items ≡ length before.calls.items → IsGathered before.lock after.first.seat → GoesOn (IsPlayedBeside {E = AllocError} bridge (all_lines before) (Ok tt)) before.first.seat after.first.seat → IsResting after
rests_raced before after bridge bridge_is so none script lock all calls gathered on = record {
  valid = subst IsValid (sym script) so.valid;
  names = ap (λ (l : CommunityLock). l.base) lock ∙ so.names ∙ ap names_bridged (sym script);
  gathered = subst (λ lock. IsGathered lock after.first.seat) (sym lock) gathered;
  whole = on.whole;
  within = omega (arith, all, ap (λ (s : Script). length s.lines) script);
  calls = calls ∙ so.calls ∙ ap (λ (s : Script). length s.names) (sym script);
  own = λ client other.
      ap (entries_of client) on.later.1
      ∙ filter-append (λ entry. entry.client == client) before.first.seat.seen on.later.0
      ∙ ap (λ front. front ++ entries_of client on.later.0) (so.own client (λ e. other (e ∙ ap bridge_number (sym script))) ∙ ap (λ n. entries_of client (take n (all_lines before))) none)
      ∙ (grown (IsPlayedBeside {E = AllocError} bridge (all_lines before) (Ok tt)) before.first.seat after.first.seat so.whole on client (λ e. other (e ∙ bridge_is ∙ ap bridge_number (sym script)))).all
      ∙ ap (entries_of client) (sym (take_all after.from (all_lines before) (omega (arith, all))))
      ∙ ap (λ (s : Script). entries_of client (take after.from s.lines)) (sym script);
}

-- what a seat makes that goes on with entries of its own
pub sailed_on : (seat sailed : SeatState) (added : List Entry) → HasGoneOn seat sailed → sailed.mine ≡ seat.mine ++ added → Makes Anything seat sailed
sailed_on seat sailed added gone mine = record {
  added = added;
  made = record { later = gone.later; same = gone.same ∙ ap (λ mine. record seat { seen = sailed.seen; mine = mine }) mine };
  allowed = tt;
}

-- the same from what the steps of a race give, whatever its lines are called
pub split_of : (before : Community) (bridge count : ℕ) (lines : List Entry) (parted apart seat : SeatState) (players : List Player) → IsResting before → bridge ≡ bridge_in before → 0 < bridge_in before → lines ≡ all_lines before → count ≡ length before.calls.items
    → AreParted before.lock before.first.seat parted players → AreBusy lines count players → apart ≡ record parted { met = without_number bridge parted.met } → seat ≡ beside parted bridge (events_in parted.met bridge) → IsSplit before bridge parted apart seat players
split_of before bridge count lines parted apart seat players resting is above lines_are counts are busy apart_is seat_is = record {
  resting = resting;
  bridge_is = is;
  above = omega (arith, is, above);
  are = are;
  busy = subst (λ lines. AreBusy lines (length before.calls.items) players) lines_are (subst (λ n. AreBusy lines n players) counts busy);
  apart_is = apart_is;
  seat_is = seat_is;
}

pub joined_of : (before : Community) (bridge : ℕ) (lines : List Entry) (result ended others : Result (Unit {0}) AllocError) (apart played taken joined seat sailed : SeatState) (befores afters : List Player) → lines ≡ all_lines before
    → Makes (IsPlayed lines ended) apart played → AllZip (HasEnded lines) befores afters → Makes Anything seat sailed → HasTaken played taken afters → joined ≡ met_with taken sailed → Begins joined.seen taken.seen × Begins joined.seen sailed.seen
    → OnOk others (All (λ player. player.ended ≡ Ok tt) afters) → OnOk result ((ended ≡ Ok tt) × (others ≡ Ok tt)) → IsJoined before bridge result ended others apart played taken joined seat sailed befores afters
joined_of before bridge lines result ended others apart played taken joined seat sailed befores afters are makes zip sails taken_is joined_is later ok both = record {
  makes = subst (λ lines. Makes (IsPlayed lines ended) apart played) are makes;
  zip = subst (λ lines. AllZip (HasEnded lines) befores afters) are zip;
  sails = sails;
  taken_is = taken_is;
  joined_is = joined_is;
  later = later;
  ok = ok;
  both = both;
}
