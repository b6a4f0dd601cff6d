-- One client more that plays beside those that have lines.
use Rattle.std.proofs.Common.{◌≡◌, ℕ, ◌<◌, true, List, [], ◌∷◌, ◌++◌, length, map, Ok, OnOk, Result, refl, sym, ap, ◌∙◌, subst, arith, nat_lt}
use Rattle.std.specs.List.{All, AllZip, list_all}
use Rattle.std.specs.declared.alloc.AllocError.{AllocError}
use Rattle.moos_client.specs.Calls.{entries_of, SeatState}
use Rattle.moos_post.specs.declared.entry.Entry.{Entry}
use Rattle.moos_step.specs.declared.player.Player.{Player}
use Rattle.moos_step.specs.Steps.{Anything, AreBusy, AreParted, CommunityLock, GoesOn, HasEnded, HasMade, HasTaken, IsAlone, IsGathered, IsPlayed, IsPlayedBeside, Makes, met_of, times_met}
use Rattle.moos_step.proofs.Leading.{IsLed, player_of}
use Rattle.moos_step.proofs.Played.{all_make, idle_lines, makes_with, nothing_played, ok_part}
use Rattle.moos_step.proofs.Steps.{is_with, parted_more}
use Rattle.moos_step.proofs.Taking.{at_ok, HaveMade, made_times, taken_more, IsStep}
use Rattle.turn_lock.proofs.Mets.{count_gone, count_more}
use Rattle.turn_lock.specs.Passes.{Begins, beside, events_in, met_with, without_number}
use Rattle.std.proofs.lemmas.List.{map-append}

-- what a client may make beside one whose seat is apart
makes_beside : {E : Type 0} (client : ℕ) (lines : List Entry) (result : Result (Unit {0}) E) (before after : SeatState) → Makes (IsPlayed lines result) before after → Makes (IsPlayedBeside client lines result) before after
makes_beside client lines result before after makes = record { added = makes.added; made = makes.made; allowed = λ other. makes.allowed }

all_beside : {E : Type 0} (client : ℕ) (lines : List Entry) (result : Result (Unit {0}) E) (befores afters : List Player) → HaveMade (IsPlayed lines result) befores afters → HaveMade (IsPlayedBeside client lines result) befores afters
all_beside client lines result [] [] zip = tt
all_beside client lines result [] (q ∷ qs) zip = absurd zip
all_beside client lines result (p ∷ ps) [] zip = absurd zip
all_beside client lines result (p ∷ ps) (q ∷ qs) zip = (makes_beside client lines result p.seat q.seat zip.0, all_beside client lines result ps qs zip.1)

any_made : (lines : List Entry) (befores afters : List Player) → AllZip (HasEnded lines) befores afters → HaveMade Anything befores afters
any_made lines [] [] zip = tt
any_made lines [] (q ∷ qs) zip = absurd zip
any_made lines (p ∷ ps) [] zip = absurd zip
any_made lines (p ∷ ps) (q ∷ qs) zip = (record { added = zip.0.added; made = zip.0.made; allowed = tt }, any_made lines ps qs zip.1)

-- one more at the end
all_more : (may : ℕ → List Entry → Type 0) (befores afters : List Player) (before after : Player) → HaveMade may befores afters → Makes may before.seat after.seat → HaveMade may (befores ++ before ∷ []) (afters ++ after ∷ [])
all_more may [] [] before after zip makes = (makes, tt)
all_more may [] (q ∷ qs) before after zip makes = absurd zip
all_more may (p ∷ ps) [] before after zip makes = absurd zip
all_more may (p ∷ ps) (q ∷ qs) before after zip makes = (zip.0, all_more may ps qs before after zip.1 makes)

-- The clients with lines and then one more are parted from the first seat, all play, and it takes the clients in and then
-- that one.
pub race_step : (lock : CommunityLock) (lines : List Entry) (client : ℕ) (result ended others : Result (Unit {0}) AllocError) (before parted apart played taken after seat sailed : SeatState) (befores afters : List Player)
    → IsGathered lock before → AreParted lock before parted befores → AreBusy lines client befores → list_all (λ line. nat_lt line.client client) lines ≡ true → 0 < client → client < length lock.base
    → apart ≡ record parted { met = without_number client parted.met } → seat ≡ beside parted client (events_in parted.met client)
    → Makes (IsPlayed lines ended) apart played → AllZip (HasEnded lines) befores afters → Makes Anything seat sailed → HasTaken played taken afters → after ≡ met_with taken sailed → Begins after.seen taken.seen
    → OnOk others (All (λ player. player.ended ≡ Ok tt) afters) → OnOk result ((ended ≡ Ok tt) × (others ≡ Ok tt))
    → IsStep lock (IsPlayedBeside client lines result) before apart played after (befores ++ player_of seat ∷ []) (afters ++ player_of sailed ∷ [])
race_step lock lines client result ended others before parted apart played taken after seat sailed befores afters gathered are busy all above below apart_is seat_is makes zip sails taken' after_is later ok both = record {
  gathered = gathered;
  apart = parted_more lock client before parted apart seat befores (player_of seat) gathered are (busy.fresh client (omega arith)) above below apart_is seat_is;
  first = makes_beside client lines result apart played (makes_with lines result ended apart played (ok_part result both (λ b. b.0)) makes);
  others = all_more (IsPlayedBeside client lines result) befores afters (player_of seat) (player_of sailed)
      (all_beside client lines result befores afters (all_make lines result befores afters (ok_part result both (λ b. at_ok others (All (λ player. player.ended ≡ Ok tt) afters) b.1 ok)) zip))
      (record { added = sails.added; made = sails.made; allowed = λ other. absurd (other (ap (λ s. s.number) seat_is)) });
  taken = taken_more played taken after sailed afters (player_of sailed) taken' refl (ap (λ s. s.met) sails.made.same ∙ ap (λ s. s.met) seat_is) after_is later;
  idle = λ n zero' absent other. nothing_played lines result n (idle_lines lines client befores busy all n zero' (fewer n absent));
}
  where
    fewer : (n : ℕ) → times_met n (map met_of (befores ++ player_of seat ∷ [])) ≡ 0 → times_met n (map met_of befores) ≡ 0
    fewer n absent = omega (arith, absent, ap (times_met n) (map-append met_of befores (player_of seat ∷ [])), count_more n (map met_of befores) (map met_of (player_of seat ∷ [])))

-- so the whole is a step
pub race_led : (lock : CommunityLock) (lines : List Entry) (client : ℕ) (result ended others : Result (Unit {0}) AllocError) (before parted apart played taken after seat sailed : SeatState) (befores afters : List Player)
    → IsGathered lock before → AreParted lock before parted befores → AreBusy lines client befores → list_all (λ line. nat_lt line.client client) lines ≡ true → 0 < client → client < length lock.base
    → apart ≡ record parted { met = without_number client parted.met } → seat ≡ beside parted client (events_in parted.met client)
    → Makes (IsPlayed lines ended) apart played → AllZip (HasEnded lines) befores afters → Makes Anything seat sailed → HasTaken played taken afters → after ≡ met_with taken sailed → Begins after.seen taken.seen
    → OnOk others (All (λ player. player.ended ≡ Ok tt) afters) → OnOk result ((ended ≡ Ok tt) × (others ≡ Ok tt)) → IsLed lock (IsPlayedBeside client lines result) before after
race_led lock lines client result ended others before parted apart played taken after seat sailed befores afters gathered are busy all above below apart_is seat_is makes zip sails taken' after_is later ok both = record {
  parted = apart;
  played = played;
  players = befores ++ player_of seat ∷ [];
  ended = afters ++ player_of sailed ∷ [];
  step = race_step lock lines client result ended others before parted apart played taken after seat sailed befores afters gathered are busy all above below apart_is seat_is makes zip sails taken' after_is later ok both;
}

-- that one is with the first seat, once, after the clients with lines are parted
pub client_with : (lock : CommunityLock) (lines : List Entry) (client : ℕ) (before parted : SeatState) (players : List Player) → IsGathered lock before → AreParted lock before parted players → AreBusy lines client players → 0 < client → client < length lock.base
    → times_met client parted.met ≡ 1
client_with lock lines client before parted players gathered are busy above below = is_with lock client before parted players gathered are (busy.fresh client (omega arith)) above below

-- it is not among those that the first seat has when it takes it in
pub client_absent : (lines : List Entry) (client : ℕ) (parted apart played taken : SeatState) (added : List Entry) (befores afters : List Player) → AreBusy lines client befores → apart ≡ record parted { met = without_number client parted.met }
    → HasMade added apart played → AllZip (HasEnded lines) befores afters → HasTaken played taken afters → times_met client taken.met ≡ 0
client_absent lines client parted apart played taken added befores afters busy apart_is made zip taken' =
    omega (
      arith,
      ap (λ (s : SeatState). times_met client s.met) taken'.same,
      count_more client played.met (map met_of afters),
      ap (λ (s : SeatState). times_met client s.met) made.same,
      ap (λ (s : SeatState). times_met client s.met) apart_is,
      count_gone client parted.met,
      made_times Anything client befores afters (any_made lines befores afters zip),
      busy.fresh client (omega arith),
    )

-- that one alone, beside clients without lines
pub alone_beside : {E : Type 0} (client : ℕ) (lines : List Entry) (result : Result (Unit {0}) E) (before after : SeatState) → ((n : ℕ) → entries_of n lines ≡ []) → GoesOn (IsAlone client) before after → GoesOn (IsPlayedBeside client lines result) before after
alone_beside client lines result before after none on = record {
  later = on.later;
  known = λ n. let grows = on.known n in record { added = grows.added; is = grows.is; allowed = λ other. subst (IsPlayed lines result n) (sym (grows.allowed other)) (nothing_played lines result n (none n)) };
  whole = on.whole;
}
