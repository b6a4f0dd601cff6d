-- Calls that clients make one after another, each at a seat that is parted from the first for it.
use Rattle.std.proofs.Common.{◌≡◌, ℕ, ◌<◌, ◌==◌, cond, List, [], ◌∷◌, ◌++◌, length, take, drop, Ok, Err, OnOk, Result, refl, sym, ap, ◌∙◌, append-nil, eq-eqb}
use Rattle.std.specs.Prelude.{OnErr}
use Rattle.std.specs.declared.alloc.AllocError.{AllocError}
use Rattle.std.proofs.lemmas.List.{take-append-drop}
use Rattle.std.proofs.lemmas.List.Elements.{filter-append}
use Rattle.moos_client.specs.Calls.{entries_of, SeatState}
use Rattle.moos_post.specs.declared.entry.Entry.{Entry}
use Rattle.moos_step.proofs.Calling.{just_idle}
use Rattle.moos_step.proofs.Leading.{IsLed, led_first, led_other}
use Rattle.moos_step.proofs.Taking.{step_grown}
use Rattle.moos_step.specs.Steps.{added_by, CommunityLock, HasGrown, HasMade, IsGathered, IsJust, IsPlayed, Makes}
use Rattle.turn_lock.proofs.Fronts.{begins_on}
use Rattle.turn_lock.specs.Passes.{Begins, beside, events_in, known_of, met_with, without_number}

-- the call of a line makes its entry, or none
line_makes : (result : Result (Unit {0}) AllocError) (line : Entry) (seat after : SeatState) → line.client ≡ seat.number → OnOk result (HasMade (line ∷ []) seat after) → OnErr result (HasMade [] seat after) → Makes (IsJust (added_by result line)) seat after
line_makes (Ok _) line seat after own made none = record { added = line ∷ []; made = made; allowed = sym (ap (λ b. cond b (line ∷ []) []) (eq-eqb line.client seat.number own)) }
line_makes (Err _) line seat after own made none = record { added = []; made = none; allowed = refl }

-- at the first seat
pub line_first : (lock : CommunityLock) (result : Result (Unit {0}) AllocError) (line : Entry) (before after : SeatState) → IsGathered lock before → line.client ≡ 0
    → OnOk result (HasMade (line ∷ []) before after) → OnErr result (HasMade [] before after) → IsLed lock (IsJust (added_by result line)) before after
line_first lock result line before after gathered is made none =
    led_first lock (IsJust (added_by result line)) line.client before after gathered is (just_idle result line) (line_makes result line before after (is ∙ sym gathered.number) made none)

-- at a seat that is parted from it
pub line_other : (lock : CommunityLock) (result : Result (Unit {0}) AllocError) (line : Entry) (before parted seat made after : SeatState) → IsGathered lock before → 0 < line.client → line.client < length lock.base
    → parted ≡ record before { met = without_number line.client before.met } → seat ≡ beside before line.client (events_in before.met line.client)
    → OnOk result (HasMade (line ∷ []) seat made) → OnErr result (HasMade [] seat made) → after ≡ met_with parted made → Begins after.seen parted.seen → IsLed lock (IsJust (added_by result line)) before after
line_other lock result line before parted seat made after gathered above below parted_is seat_is has_made none after_is later =
    led_other lock (IsJust (added_by result line)) line.client before parted seat made after gathered above below parted_is seat_is (just_idle result line)
    (line_makes result line seat made (sym (ap (λ s. s.number) seat_is)) has_made none) after_is later

-- so the first seat knows that entry more, or none
pub led_grown : (lock : CommunityLock) (may : ℕ → List Entry → Type 0) (before after : SeatState) → IsLed lock may before after → HasGrown may before after
led_grown lock may before after led = step_grown lock may before led.parted led.played after led.players led.ended led.step

-- The calls of the lines up to one place are a front of each client's, where the next one found no memory.
pub grown_front : {E : Type 0} (lines : List Entry) (i : ℕ) (result : Result (Unit {0}) E) (a b c : SeatState) → HasGrown (IsJust (take i lines)) a b → HasGrown (IsJust []) b c → OnOk result (take i lines ≡ lines) → HasGrown (IsPlayed lines result) a c
grown_front lines i result a b c grown none all = record {
  later = begins_on a.seen b.seen c.seen grown.later none.later;
  known = λ n.
      let so = grown.known n in
      record {
        added = so.added;
        is = (none.known n).is ∙ ap (λ more. known_of b n ++ more) (none.known n).allowed ∙ append-nil (known_of b n) ∙ so.is;
        allowed = record {
          front = (entries_of n (drop i lines), ap (entries_of n) (sym (take-append-drop i lines)) ∙ filter-append (λ entry. entry.client == n) (take i lines) (drop i lines) ∙ ap (λ front. front ++ entries_of n (drop i lines)) (sym so.allowed));
          all = whole result n so.added so.allowed all;
        };
      };
}
  where
    whole : {E : Type 0} (result : Result (Unit {0}) E) (n : ℕ) (added : List Entry) → added ≡ entries_of n (take i lines) → OnOk result (take i lines ≡ lines) → OnOk result (added ≡ entries_of n lines)
    whole (Ok _) n added is all = is ∙ ap (entries_of n) all
    whole (Err _) n added is all = tt
