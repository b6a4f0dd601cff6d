-- The players of a step by how many lines they have: the order of those that are apart from the first seat says nothing.
use Rattle.std.proofs.Common.{◌≡◌, ℕ, ◌+◌, ◌==◌, cond, ◌⊎◌, inl, inr, List, [], ◌∷◌, ◌++◌, length-append, map, Ok, OnOk, Result, sym, ap, ◌∙◌, subst, arith, append_assoc, eq-eqb, ne_eqb}
use Rattle.std.specs.List.{All}
use Rattle.std.specs.declared.alloc.AllocError.{AllocError}
use Rattle.std.proofs.lemmas.List.{map-append}
use Rattle.std.proofs.lemmas.List.Elements.{All-append}
use native.Mathlib.Decide.{ℕ_discrete}
use Rattle.moos_client.specs.Calls.{SeatState}
use Rattle.moos_post.specs.declared.entry.Entry.{Entry}
use Rattle.moos_step.proofs.Few.{all_back, all_front}
use Rattle.moos_step.proofs.Played.{ok_part}
use Rattle.moos_step.proofs.Taking.{at_ok}
use Rattle.moos_step.specs.declared.apart.Apart.{Apart}
use Rattle.moos_step.specs.declared.player.Player.{Player}
use Rattle.moos_step.specs.Steps.{apart_in, AreBusy, AreParted, CommunityLock, HasJoined, HasTaken, IsApart, met_of, times_met}
use Rattle.turn_lock.specs.declared.view.Met.{Met}
use Rattle.turn_lock.specs.Passes.{events_in}
use Rattle.turn_lock.proofs.Fronts.{begins_on}
use Rattle.turn_lock.proofs.Mets.{count_more, count_one, events_back, events_other}

-- one that comes before others in place of behind them, if its number isn't among these
moved_events : (front back : List (Met Entry)) (one : Met Entry) (n : ℕ) → times_met one.number back ≡ 0 → events_in (front ++ one ∷ back) n ≡ events_in (front ++ (back ++ one ∷ [])) n
moved_events [] back one n none = by (ℕ_discrete one.number n)
  where
    by : Dec (one.number ≡ n) → events_in (one ∷ back) n ≡ events_in (back ++ one ∷ []) n
    by (yes e) =
        ap (λ b. cond b one.events (events_in back n)) (eq-eqb one.number n e)
        ∙ sym (ap (λ b. cond b one.events []) (eq-eqb one.number n e))
        ∙ sym (events_back back (one ∷ []) n (subst (λ k. times_met k back ≡ 0) e none))
    by (no ne) = ap (λ b. cond b one.events (events_in back n)) (ne_eqb one.number n ne) ∙ sym (events_other back one n ne)
moved_events (m ∷ front) back one n none = ap (λ (events : List Entry). cond (m.number == n) m.events events) (moved_events front back one n none)

moved_times : (front back : List (Met Entry)) (one : Met Entry) (n : ℕ) → times_met n (front ++ one ∷ back) ≡ times_met n (front ++ (back ++ one ∷ []))
moved_times front back one n =
    omega (arith, count_more n front (one ∷ back), count_one n one back, count_more n front (back ++ one ∷ []), count_more n back (one ∷ []), count_one n one [])

mets : (heavy light : List Player) (player : Player) → map met_of ((heavy ++ player ∷ []) ++ light) ≡ map met_of heavy ++ met_of player ∷ map met_of light
mets heavy light player =
    ap (map met_of) (append_assoc heavy (player ∷ []) light) ∙ map-append met_of heavy (player ∷ light)

behind : (heavy light : List Player) (player : Player) → map met_of ((heavy ++ light) ++ player ∷ []) ≡ map met_of heavy ++ (map met_of light ++ met_of player ∷ [])
behind heavy light player =
    ap (map met_of) (append_assoc heavy light (player ∷ [])) ∙ map-append met_of heavy (light ++ player ∷ []) ∙ ap (λ rest. map met_of heavy ++ rest) (map-append met_of light (player ∷ []))

times_moved : (heavy light : List Player) (player : Player) (n : ℕ) → times_met n (map met_of ((heavy ++ player ∷ []) ++ light)) ≡ times_met n (map met_of ((heavy ++ light) ++ player ∷ []))
times_moved heavy light player n =
    ap (times_met n) (mets heavy light player) ∙ moved_times (map met_of heavy) (map met_of light) (met_of player) n ∙ sym (ap (times_met n) (behind heavy light player))

-- the players that are apart, where one is put between those of two weights
parted_moved : (lock : CommunityLock) (before first : SeatState) (heavy light : List Player) (player : Player) → times_met player.seat.number (map met_of light) ≡ 0
    → AreParted lock before first ((heavy ++ light) ++ player ∷ []) → AreParted lock before first ((heavy ++ player ∷ []) ++ light)
parted_moved lock before first heavy light player none so = record {
  same = so.same;
  apart = All-append P (heavy ++ player ∷ []) light
      (All-append P heavy (player ∷ []) (all_front P heavy light (all_front P (heavy ++ light) (player ∷ []) so.apart)) (all_back P (heavy ++ light) (player ∷ []) so.apart))
      (all_back P heavy light (all_front P (heavy ++ light) (player ∷ []) so.apart));
  all = omega (arith, so.all, length-append (heavy ++ light) (player ∷ []), length-append heavy light, length-append (heavy ++ player ∷ []) light, length-append heavy (player ∷ []));
  each = λ n. ap (λ k. times_met n first.met + k) (times_moved heavy light player n) ∙ so.each n;
  known = λ n.
      ap (λ met. events_in (first.met ++ met) n) (mets heavy light player)
      ∙ ap (λ met. events_in met n) (sym (append_assoc first.met (map met_of heavy) (met_of player ∷ map met_of light)))
      ∙ moved_events (first.met ++ map met_of heavy) (map met_of light) (met_of player) n none
      ∙ ap (λ met. events_in met n) (append_assoc first.met (map met_of heavy) (map met_of light ++ met_of player ∷ []))
      ∙ ap (λ met. events_in (first.met ++ met) n) (sym (behind heavy light player))
      ∙ so.known n;
}
  where
    P : Player → Type 0
    P player = IsApart lock player.seat

busy_moved : (lines : List Entry) (client : ℕ) (heavy light : List Player) (player : Player) → AreBusy lines client ((heavy ++ light) ++ player ∷ []) → AreBusy lines client ((heavy ++ player ∷ []) ++ light)
busy_moved lines client heavy light player so = record {
  busy = λ n above below absent. so.busy n above below (sym (times_moved heavy light player n) ∙ absent);
  fresh = λ n past. times_moved heavy light player n ∙ so.fresh n past;
}

-- so it doesn't matter among which a player joined
pub parted_joined : (lock : CommunityLock) (before first : SeatState) (player : Player) (old new : Apart) → HasJoined player old new → times_met player.seat.number (map met_of (apart_in old)) ≡ 0
    → AreParted lock before first (apart_in old ++ player ∷ []) → AreParted lock before first (apart_in new)
parted_joined lock before first player old new joined fresh so = by joined.items
  where
    none : times_met player.seat.number (map met_of old.light.items) ≡ 0
    none = omega (arith, fresh, ap (times_met player.seat.number) (map-append met_of old.heavy.items old.light.items), count_more player.seat.number (map met_of old.heavy.items) (map met_of old.light.items))

    by : ((new.heavy.items ≡ old.heavy.items ++ player ∷ []) × (new.light.items ≡ old.light.items)) ⊎ ((new.heavy.items ≡ old.heavy.items) × (new.light.items ≡ old.light.items ++ player ∷ [])) → AreParted lock before first (apart_in new)
    by (inl items) =
        subst (λ (p : List Player × List Player). AreParted lock before first (p.0 ++ p.1)) (λ i. (sym items.0 i, sym items.1 i)) (parted_moved lock before first old.heavy.items old.light.items player none so)
    by (inr items) =
        subst (λ (p : List Player × List Player). AreParted lock before first (p.0 ++ p.1)) (λ i. (sym items.0 i, sym items.1 i)) (subst (AreParted lock before first) (append_assoc old.heavy.items old.light.items (player ∷ [])) so)

pub busy_joined : (lines : List Entry) (client : ℕ) (player : Player) (old new : Apart) → HasJoined player old new → AreBusy lines client (apart_in old ++ player ∷ []) → AreBusy lines client (apart_in new)
busy_joined lines client player old new joined so = by joined.items
  where
    by : ((new.heavy.items ≡ old.heavy.items ++ player ∷ []) × (new.light.items ≡ old.light.items)) ⊎ ((new.heavy.items ≡ old.heavy.items) × (new.light.items ≡ old.light.items ++ player ∷ [])) → AreBusy lines client (apart_in new)
    by (inl items) =
        subst (λ (p : List Player × List Player). AreBusy lines client (p.0 ++ p.1)) (λ i. (sym items.0 i, sym items.1 i)) (busy_moved lines client old.heavy.items old.light.items player so)
    by (inr items) =
        subst (λ (p : List Player × List Player). AreBusy lines client (p.0 ++ p.1)) (λ i. (sym items.0 i, sym items.1 i)) (subst (AreBusy lines client) (append_assoc old.heavy.items old.light.items (player ∷ [])) so)

-- all players of both weights are taken in
pub taken_both : (a b c : SeatState) (some more : List Player) → HasTaken a b some → HasTaken b c more → HasTaken a c (some ++ more)
taken_both a b c some more one two = record {
  later = begins_on a.seen b.seen c.seen one.later two.later;
  same = two.same
      ∙ ap {A = SeatState} (λ s. record s { seen = c.seen; met = s.met ++ map met_of more }) one.same
      ∙ ap (λ met. record a { seen = c.seen; met = met }) (append_assoc a.met (map met_of some) (map met_of more) ∙ ap (λ met. a.met ++ met) (sym (map-append met_of some more)));
}

-- and all found memory, if both lists did
pub both_ended : (result one two : Result (Unit {0}) AllocError) (some more : List Player) → OnOk result ((one ≡ Ok tt) × (two ≡ Ok tt)) → OnOk one (All (λ player. player.ended ≡ Ok tt) some) → OnOk two (All (λ player. player.ended ≡ Ok tt) more)
    → OnOk result (All (λ player. player.ended ≡ Ok tt) (some ++ more))
both_ended result one two some more both first second =
    ok_part result both (λ b. All-append (λ player. player.ended ≡ Ok tt) some more (at_ok one (All (λ player. player.ended ≡ Ok tt) some) b.0 first) (at_ok two (All (λ player. player.ended ≡ Ok tt) more) b.1 second))
