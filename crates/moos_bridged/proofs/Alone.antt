-- One call of the bridge while nobody else calls, at the first seat or at a seat parted from it.
use Rattle.std.proofs.Common.{◌≡◌, ℕ, ◌<◌, true, List, [], ◌∷◌, ◌++◌, length, Ok, Result, refl, sym, ap, ◌∙◌, arith}
use Rattle.std.specs.declared.alloc.AllocError.{AllocError}
use Rattle.moos_bridged.proofs.Playing.{bridge_last}
use Rattle.moos_bridged.specs.Communities.{bridge_in, IsResting}
use Rattle.moos_bridged.specs.declared.community.Community.{Community}
use Rattle.moos_client.specs.Calls.{entry_of, SeatState}
use Rattle.moos_db.specs.declared.mail.Letter.{Letter}
use Rattle.moos_post.specs.declared.entry.Call.{Call}
use Rattle.moos_post.specs.declared.entry.Entry.{Entry}
use Rattle.moos_step.proofs.Calling.{branch_mail, call_first, call_other, goes_on_just}
use Rattle.moos_step.proofs.Leading.{IsLed, led_gathered, led_on}
use Rattle.moos_step.proofs.Taking.{seen_gathered, seen_whole}
use Rattle.moos_step.specs.Steps.{CommunityLock, HasSeenAll, IsAnswered, IsGathered, IsJust, IsWhole, mail_of_call}
use Rattle.turn_lock.proofs.Fronts.{begins_itself, begins_on}
use Rattle.turn_lock.proofs.Mets.{is_taken}
use Rattle.turn_lock.specs.Passes.{Begins, beside, events_in, has_number, HasAll, met_with, without_number}
use Rattle.std.specs.List.{list_any}

-- the first seat has taken the bridge's in
pub has_bridge : (community : Community) → IsResting community → 0 < bridge_in community → list_any (has_number (bridge_in community)) community.first.seat.met ≡ true
has_bridge community so above = is_taken (bridge_in community) community.first.seat.met (so.gathered.each (bridge_in community) above (omega (arith, bridge_last community so)))

-- a call that adds its entry to the history, and its mail
pub record IsAdded (lock : CommunityLock) (client stamp : ℕ) (call : Call) (mail : List Letter) (before after : SeatState) : Type 0 where
  pub gathered : IsGathered lock after
  pub whole : IsWhole after
  pub history : after.seen ≡ before.seen ++ entry_of client stamp call ∷ []
  pub mail_is : mail ≡ mail_of_call lock.base before.seen client call

module _ (lock : CommunityLock) (client stamp : ℕ) (call : Call) (mail : List Letter) where
  abbrev answer : Result (List Letter) AllocError
  answer = Ok mail

  abbrev may : ℕ → List Entry → Type 0
  may = IsJust (entry_of client stamp call ∷ [])

  added : (before seat made joined after : SeatState) → IsWhole before → IsLed lock may before joined → seat.number ≡ client → seat.seen ≡ before.seen → IsAnswered lock.base seat made stamp call mail → Begins joined.seen made.seen → HasSeenAll joined after → IsAdded lock client stamp call mail before after
  added before seat made joined after whole led number seen answered later all = record {
    gathered = seen_gathered lock joined after all (led_gathered lock may before joined led);
    whole = seen_whole joined after all;
    history = on;
    mail_is = branch_mail answer answer lock.base client before.seen after.seen seat made stamp call refl number seen answered (begins_on made.seen joined.seen after.seen later all.later) on;
  }
    where
      on : after.seen ≡ before.seen ++ entry_of client stamp call ∷ []
      on = goes_on_just answer (entry_of client stamp call) before after whole (led_on lock may before joined after led all)

  -- at the first seat
  led_at_first : (before made : SeatState) → IsGathered lock before → client ≡ 0 → IsAnswered lock.base before made stamp call mail → IsLed lock may before made
  led_at_first before made gathered none answered = call_first lock client stamp call answer answer before made made refl refl gathered none answered tt

  pub first_all : (before made : SeatState) → IsGathered lock before → client ≡ 0 → IsAnswered lock.base before made stamp call mail → HasAll made
  first_all before made gathered none answered = let so = led_gathered lock may before made (led_at_first before made gathered none answered) in record { first = so.number; all = so.all }

  pub first_added : (before made after : SeatState) → IsGathered lock before → IsWhole before → client ≡ 0 → IsAnswered lock.base before made stamp call mail → HasSeenAll made after → IsAdded lock client stamp call mail before after
  first_added before made after gathered whole none answered all =
      added before before made made after whole (led_at_first before made gathered none answered) (gathered.number ∙ sym none) refl answered (begins_itself made.seen) all

  -- at a seat parted from the first, which takes it in again
  led_at_other : (before parted seat made joined : SeatState) → IsGathered lock before → 0 < client → client < length lock.base → parted ≡ record before { met = without_number client before.met } → seat ≡ beside before client (events_in before.met client)
      → IsAnswered lock.base seat made stamp call mail → joined ≡ met_with parted made → Begins joined.seen parted.seen → IsLed lock may before joined
  led_at_other before parted seat made joined gathered above below parted_is seat_is answered joined_is later =
      call_other lock client stamp call answer answer before joined parted seat made joined refl refl gathered above below parted_is seat_is answered tt joined_is later

  pub other_all : (before parted seat made joined : SeatState) → IsGathered lock before → 0 < client → client < length lock.base → parted ≡ record before { met = without_number client before.met } → seat ≡ beside before client (events_in before.met client)
      → IsAnswered lock.base seat made stamp call mail → joined ≡ met_with parted made → Begins joined.seen parted.seen → HasAll joined
  other_all before parted seat made joined gathered above below parted_is seat_is answered joined_is later =
      let so = led_gathered lock may before joined (led_at_other before parted seat made joined gathered above below parted_is seat_is answered joined_is later) in record { first = so.number; all = so.all }

  pub other_added : (before parted seat made joined after : SeatState) → IsGathered lock before → IsWhole before → 0 < client → client < length lock.base → parted ≡ record before { met = without_number client before.met } → seat ≡ beside before client (events_in before.met client)
      → IsAnswered lock.base seat made stamp call mail → joined ≡ met_with parted made → Begins joined.seen parted.seen × Begins joined.seen made.seen → HasSeenAll joined after → IsAdded lock client stamp call mail before after
  other_added before parted seat made joined after gathered whole above below parted_is seat_is answered joined_is later all =
      added before seat made joined after whole (led_at_other before parted seat made joined gathered above below parted_is seat_is answered joined_is later.0) (ap (λ s. s.number) seat_is) (ap (λ s. s.seen) seat_is) answered later.1 all
