-- What all clients have played of their lines, where it is known of each.
use Rattle.std.proofs.Common.{◌≡◌, ℕ, ◌<◌, Bool, true, false, List, [], ◌∷◌, map, Ok, Err, OnOk, Result, refl, sym, arith, nat_lt}
use Rattle.std.specs.List.{All, AllZip, list_all}
use Rattle.std.specs.declared.alloc.AllocError.{AllocError}
use Rattle.std.proofs.lemmas.Bool.Decides.{nat_tests}
use Rattle.std.proofs.lemmas.List.Elements.{All-head, All-tail}
use Rattle.moos_client.specs.Calls.{SeatState, entries_of}
use Rattle.moos_post.specs.declared.entry.Entry.{Entry}
use Rattle.moos_step.specs.declared.player.Player.{Player}
use Rattle.moos_step.specs.Steps.{AreBusy, AreParted, CommunityLock, HasEnded, HasTaken, IsGathered, IsPlayed, Makes, met_of, times_met}
use Rattle.moos_step.proofs.Lines.{on_any}
use Rattle.moos_step.proofs.Steps.{none_past}
use Rattle.moos_step.proofs.Taking.{at_ok, HaveMade, IsStep}

-- who has no lines has played them
pub nothing_played : {E : Type 0} (lines : List Entry) (result : Result (Unit {0}) E) (n : ℕ) → entries_of n lines ≡ [] → IsPlayed lines result n []
nothing_played lines result n none = record { front = (entries_of n lines, refl); all = on_any result (sym none) }

-- what is said with one answer is said with another that is Ok where the first is
played_with : (lines : List Entry) (result ended : Result (Unit {0}) AllocError) (n : ℕ) (added : List Entry) → OnOk result (ended ≡ Ok tt) → IsPlayed lines ended n added → IsPlayed lines result n added
played_with lines (Ok _) ended n added ok so = record { front = so.front; all = at_ok ended (added ≡ entries_of n lines) ok so.all }
played_with lines (Err _) ended n added ok so = record { front = so.front; all = tt }

pub makes_with : (lines : List Entry) (result ended : Result (Unit {0}) AllocError) (before after : SeatState) → OnOk result (ended ≡ Ok tt) → Makes (IsPlayed lines ended) before after → Makes (IsPlayed lines result) before after
makes_with lines result ended before after ok so = record { added = so.added; made = so.made; allowed = played_with lines result ended before.number so.added ok so.allowed }

-- an answer that is Ok only where something holds
pub ok_part : {P Q : Type 0} (result : Result (Unit {0}) AllocError) → OnOk result P → (P → Q) → OnOk result Q
ok_part (Ok _) h f = f h
ok_part (Err _) h f = tt

-- the same of all players
pub all_make : (lines : List Entry) (result : Result (Unit {0}) AllocError) (befores afters : List Player) → OnOk result (All (λ player. player.ended ≡ Ok tt) afters) → AllZip (HasEnded lines) befores afters
    → HaveMade (IsPlayed lines result) befores afters
all_make lines result [] [] ok zip = tt
all_make lines result [] (q ∷ qs) ok zip = absurd zip
all_make lines result (p ∷ ps) [] ok zip = absurd zip
all_make lines result (p ∷ ps) (q ∷ qs) ok zip = (
  makes_with lines result q.ended p.seat q.seat (ok_part result ok (All-head (λ player. player.ended ≡ Ok tt) q qs)) zip.0,
  all_make lines result ps qs (ok_part result ok (All-tail (λ player. player.ended ≡ Ok tt) q qs)) zip.1,
)

-- who isn't parted has no lines
pub idle_lines : (lines : List Entry) (clients : ℕ) (players : List Player) → AreBusy lines clients players → list_all (λ line. nat_lt line.client clients) lines ≡ true
    → (n : ℕ) → 0 < n → times_met n (map met_of players) ≡ 0 → entries_of n lines ≡ []
idle_lines lines clients players busy all n above absent = by (nat_lt n clients) refl
  where
    by : (b : Bool) → nat_lt n clients ≡ b → entries_of n lines ≡ []
    by true e = busy.busy n above (grind (arith, nat_tests)) absent
    by false e = none_past clients n lines all (grind (arith, nat_tests))

-- a step of lines
pub step_played : (lock : CommunityLock) (lines : List Entry) (clients : ℕ) (result ended others : Result (Unit {0}) AllocError) (before parted played after : SeatState) (befores afters : List Player)
    → IsGathered lock before → AreParted lock before parted befores → AreBusy lines clients befores → list_all (λ line. nat_lt line.client clients) lines ≡ true
    → Makes (IsPlayed lines ended) parted played → AllZip (HasEnded lines) befores afters → HasTaken played after afters
    → OnOk others (All (λ player. player.ended ≡ Ok tt) afters) → OnOk result ((ended ≡ Ok tt) × (others ≡ Ok tt)) → IsStep lock (IsPlayed lines result) before parted played after befores afters
step_played lock lines clients result ended others before parted played after befores afters gathered apart busy all first zip taken ok both = record {
  gathered = gathered;
  apart = apart;
  first = makes_with lines result ended parted played (ok_part result both (λ b. b.0)) first;
  others = all_make lines result befores afters (ok_part result both (λ b. at_ok others (All (λ player. player.ended ≡ Ok tt) afters) b.1 ok)) zip;
  taken = taken;
  idle = λ n above absent. nothing_played lines result n (idle_lines lines clients befores busy all n above absent);
}
