-- The helm once the first seat has seen all that it made.
use Rattle.std.proofs.Common.{◌≡◌, ℕ, ◌<◌, ◌==◌, cond, ne_eqb, List, [], Some, Ok, Err, OnOk, Result, refl, sym, ap, ◌∙◌, subst, arith, append-nil}
use Rattle.std.specs.Prelude.{OnErr}
use Rattle.std.proofs.lemmas.List.{append_cancel_left}
use Rattle.std.proofs.lemmas.List.Elements.{filter-append}
use Rattle.std.specs.declared.alloc.AllocError.{AllocError}
use Rattle.moos_client.specs.Calls.{SeatState, entries_of}
use Rattle.moos_post.specs.declared.entry.Entry.{Entry}
use Rattle.moos_play.proofs.Steering.{steered_on}
use Rattle.moos_play.proofs.Stopping.{all_stops, stops_whole}
use Rattle.moos_step.proofs.Leading.{alone_idle, alone_made, IsLed, known_first, led_first, led_gathered, led_on, led_other}
use Rattle.moos_step.proofs.Taking.{at_ok, seen_gathered, seen_whole}
use Rattle.moos_step.specs.Steps.{CommunityLock, HasSeenAll, IsAlone, IsWhole}
use Rattle.moos_play.specs.Lawful.{HelmSetup}
use Rattle.moos_play.specs.Steered.{HasLed, HasOwn, HasSteered, HasStopped, IsStopped, KeepsEach, MayLead, MaySteer, helm_setup_of, Steers}
use Rattle.moos_play.specs.declared.helm_client.HelmClient.{HelmClient}
use Rattle.turn_lock.proofs.Fronts.{begins_on}
use Rattle.turn_lock.specs.Passes.{Begins, beside, events_in, known_of, met_with, without_number}

-- the helm may steer at its seat once that is parted
pub seat_steers : (lock : CommunityLock) (s : HelmClient) (ticks workers : ℕ) (before parted seat : SeatState) → MayLead lock before s ticks workers → 0 < s.number → parted ≡ record before { met = parted.met } → events_in before.met s.number ≡ events_in parted.met s.number
    → seat ≡ beside parted s.number (events_in parted.met s.number) → MaySteer lock seat s ticks workers
seat_steers lock s ticks workers before parted seat may above same events seat_is =
    subst (λ seat. MaySteer lock seat s ticks workers) (sym (seat_is ∙ ap {A = SeatState} (λ p. beside p s.number (events_in parted.met s.number)) same)) (record {
      may = record { of_lock = record { same = may.gathered.may.of_lock.same; live = may.gathered.may.of_lock.live; base = may.gathered.may.of_lock.base }; free = refl; client = may.client };
      number = refl;
      own = may.whole s.number ∙ ap (λ b. cond b before.mine (events_in before.met s.number)) (ne_eqb before.number s.number (λ e. omega (arith, e, may.gathered.number, above))) ∙ events;
      tick = may.tick;
    })

-- and at the first, where that is its seat
pub first_steers : (lock : CommunityLock) (s : HelmClient) (ticks workers : ℕ) (first : SeatState) → MayLead lock first s ticks workers → s.number ≡ 0 → MaySteer lock first s ticks workers
first_steers lock s ticks workers first may is = record {
  may = record { of_lock = may.gathered.may.of_lock; free = may.gathered.may.free; client = omega (arith, may.client, may.gathered.number, is) };
  number = may.gathered.number ∙ sym is;
  own = may.whole first.number ∙ known_first first first.number refl;
  tick = may.tick;
}

-- it steers at the first seat, or at its own, which is parted and taken in again
pub led_here : {E : Type 0} {result : Result (Unit {0}) E} (lock : CommunityLock) (s t : HelmClient) (ticks workers : ℕ) (before after : SeatState) → MayLead lock before s ticks workers → s.number ≡ 0 → HasSteered lock ticks before after s t result → IsLed lock (IsAlone s.number) before after
led_here lock s t ticks workers before after may is so = led_first lock (IsAlone s.number) s.number before after may.gathered is (alone_idle s.number) (alone_made (may.gathered.number ∙ sym is) so.made)

pub led_apart : {E : Type 0} {result : Result (Unit {0}) E} (lock : CommunityLock) (s t : HelmClient) (ticks workers : ℕ) (before parted seat played after : SeatState) → MayLead lock before s ticks workers → 0 < s.number → parted ≡ record before { met = without_number s.number before.met }
    → seat ≡ beside before s.number (events_in before.met s.number) → HasSteered lock ticks seat played s t result → after ≡ met_with parted played → Begins after.seen parted.seen → IsLed lock (IsAlone s.number) before after
led_apart lock s t ticks workers before parted seat played after may above parted_is seat_is so after_is later =
    led_other lock (IsAlone s.number) s.number before parted seat played after may.gathered above may.client parted_is seat_is (alone_idle s.number) (alone_made (ap (λ s. s.number) seat_is) so.made) after_is later

-- a history that has no more of the helm than its seat has made
pub steers_on : (names : List (List ℕ)) (s : HelmClient) (seat after : SeatState) → Steers names s seat.seen → HasOwn seat → seat.number ≡ s.number → Begins after.seen seat.seen → known_of after seat.number ≡ seat.mine
    → IsWhole after → Steers names s after.seen
steers_on names s seat after so own number begins known whole =
    subst (Steers names s) (sym begins.1) (steered_on names s seat.seen begins.0 so (subst (λ n. entries_of n begins.0 ≡ []) number none))
  where
    none : entries_of seat.number begins.0 ≡ []
    none = append_cancel_left (entries_of seat.number seat.seen) (entries_of seat.number begins.0) []
        (sym (filter-append (λ entry. entry.client == seat.number) seat.seen begins.0) ∙ ap (entries_of seat.number) (sym begins.1) ∙ whole seat.number ∙ known ∙ sym own ∙ sym (append-nil (entries_of seat.number seat.seen)))

-- So the helm has led once the first seat has seen the whole history. Where the answer is Ok the helm's is, and where it isn't
-- another client may have found no memory.
pub has_led : (lock : CommunityLock) (may : ℕ → List Entry → Type 0) (ticks : ℕ) (before first final seat played : SeatState) (old new : HelmClient) (answer result : Result (Unit {0}) AllocError) → IsLed lock may before first → HasSteered lock ticks seat played old new result
    → OnOk answer (result ≡ Ok tt) → played.number ≡ old.number → Begins first.seen played.seen → known_of first played.number ≡ played.mine → HasSeenAll first final → HasLed lock may ticks before final old new answer
has_led lock may ticks before first final seat played old new answer result led so ok number begins known seen = record {
  gathered = seen_gathered lock first final seen (led_gathered lock may before first led);
  goes_on = led_on lock may before first final led seen;
  same = so.same;
  told = told answer ok;
  steered = steered answer ok;
  reached = reached answer ok;
  stopped = stopped answer;
}
  where
    later : Begins final.seen played.seen
    later = begins_on played.seen first.seen final.seen begins seen.later

    all : known_of final played.number ≡ played.mine
    all = ap (λ s. known_of s played.number) seen.same ∙ known

    whole : IsWhole final
    whole = seen_whole first final seen

    steered : (a : Result (Unit {0}) AllocError) → OnOk a (result ≡ Ok tt) → OnOk a (Steers lock.base new final.seen)
    steered (Ok _) ok = steers_on lock.base new played final (at_ok result (Steers lock.base new played.seen) ok so.steered) (at_ok result (HasOwn played) ok so.own) (number ∙ ap (λ (helm : HelmSetup). helm.client) (sym so.same)) later all whole
    steered (Err _) ok = tt

    reached : (a : Result (Unit {0}) AllocError) → OnOk a (result ≡ Ok tt) → OnOk a (new.ticks ≡ ticks)
    reached (Ok _) ok = at_ok result (new.ticks ≡ ticks) ok so.reached
    reached (Err _) ok = tt

    told : (a : Result (Unit {0}) AllocError) → OnOk a (result ≡ Ok tt) → OnOk a (KeepsEach (Some old) (Some new))
    told (Ok _) ok = at_ok result (KeepsEach (Some old) (Some new)) ok so.told
    told (Err _) ok = tt

    here : (r : Result (Unit {0}) AllocError) → OnOk r (HasOwn played) → OnOk r (Steers lock.base new played.seen) → OnOk r (new.ticks ≡ ticks) → OnErr r (HasStopped lock.base (helm_setup_of old) new.ticks ticks played) → HasStopped lock.base (helm_setup_of old) new.ticks ticks played
    here (Ok _) own steers reached stopped = all_stops lock.base (helm_setup_of old) new ticks played so.same own steers reached
    here (Err _) own steers reached stopped = stopped

    stopped : (a : Result (Unit {0}) AllocError) → OnErr a (IsStopped lock.base (helm_setup_of old) new.ticks ticks final.seen)
    stopped (Ok _) = tt
    stopped (Err _) = stops_whole lock.base (helm_setup_of old) new.ticks ticks played final (here result so.own so.steered so.reached so.stopped) number later all whole

-- the same alone, where what comes of it has other names
pub led_alone : (lock : CommunityLock) (ticks : ℕ) (before first taken final seat played : SeatState) (old s new : HelmClient) (answer result : Result (Unit {0}) AllocError) → answer ≡ result → s ≡ new → first ≡ taken → IsLed lock (IsAlone old.number) before taken
    → HasSteered lock ticks seat played old new result → played.number ≡ old.number → Begins taken.seen played.seen → known_of taken played.number ≡ played.mine → HasSeenAll first final → HasLed lock (IsAlone old.number) ticks before final old s answer
led_alone lock ticks before first taken final seat played old s new answer result answer_is s_is first_is led so number begins known seen =
    subst (λ s. HasLed lock (IsAlone old.number) ticks before final old s answer) (sym s_is)
    (has_led lock (IsAlone old.number) ticks before taken final seat played old new answer result led so (same answer answer_is) number begins known (subst (λ first. HasSeenAll first final) first_is seen))
  where
    same : (a : Result (Unit {0}) AllocError) → a ≡ result → OnOk a (result ≡ Ok tt)
    same (Ok _) is = sym is
    same (Err _) is = tt
