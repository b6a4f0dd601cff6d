-- The first seat and the players from one step of a step to the next.
use Rattle.std.proofs.Common.{◌≡◌, ◌≢◌, ℕ, zero, suc, ◌+◌, ◌-◌, ◌<◌, ◌≤◌, ◌==◌, Bool, true, false, cond, ◌&&◌, ◌||◌, ◌⊎◌, inl, inr, List, [], ◌∷◌, ◌++◌, map, take, drop, length, length-append, append-nil, refl, sym, ap, ◌∙◌, subst, arith, eq-eqb, ne_eqb, nat_lt}
use Rattle.std.specs.List.{list_all}
use Rattle.std.proofs.lemmas.Bool.{and_from, and_parts, cases_lt, false≢true}
use Rattle.std.proofs.lemmas.Bool.Decides.{nat_tests}
use Rattle.std.proofs.lemmas.List.{map-append, take-append-drop}
use Rattle.std.proofs.lemmas.List.Elements.{All-nil, All-push}
use Rattle.std.proofs.lemmas.List.Folds.{list_any-append}
use native.Mathlib.Decide.{ℕ_discrete}
use Rattle.moos_client.specs.Calls.{SeatState, entries_of}
use Rattle.moos_post.specs.declared.entry.Entry.{Entry}
use Rattle.moos_step.specs.declared.player.Player.{Player}
use Rattle.moos_step.specs.Steps.{AreBusy, AreParted, busy_below, CommunityLock, has_line, IsApart, IsGathered, IsIdle, IsNextBusy, met_of, times_met}
use Rattle.moos_step.proofs.Mets.{moved_of, moves_each, moves_known}
use Rattle.turn_lock.specs.declared.view.Met.{Met}
use Rattle.turn_lock.specs.Passes.{beside, events_in, first_pass, has_number, met_with, without_number}
use Rattle.turn_lock.proofs.Mets.{count_more, count_one, length_without}

-- The seats of the clients below this one are split off and taken in, with nothing seen and no calls.
pub record AreSeated (lock : CommunityLock) (clients client : ℕ) (first : SeatState) : Type 0 where
  pub same : first ≡ record (first_pass lock clients) { left = first.left; made = first.made; met = first.met }
  pub left : first.left + client ≡ clients
  pub made : first.made + 1 ≡ client
  pub all : length first.met ≡ first.made
  pub each : (n : ℕ) → 0 < n → n < client → 0 < times_met n first.met
  pub once : (n : ℕ) → times_met n first.met ≤ 1
  pub later : (n : ℕ) → client ≤ n → times_met n first.met ≡ 0
  pub known : (n : ℕ) → events_in first.met n ≡ []

-- a number without events at the end
none_more : (met : List (Met Entry)) (number n : ℕ) → events_in met n ≡ [] → events_in (met ++ record { number = number; events = [] } ∷ []) n ≡ []
none_more [] number n h = by (number == n)
  where
    by : (b : Bool) → cond {A = List Entry} b [] [] ≡ []
    by true = refl
    by false = refl
none_more (one ∷ met) number n h = by (none_more met number n) (has_number n one) h
  where
    by : (events_in met n ≡ [] → events_in (met ++ record { number = number; events = [] } ∷ []) n ≡ []) → (b : Bool) → cond b one.events (events_in met n) ≡ [] → cond b one.events (events_in (met ++ record { number = number; events = [] } ∷ []) n) ≡ []
    by rest true k = k
    by rest false k = rest k

-- how often a number is among others and one at the end
pub times_here : (met : List (Met Entry)) (one : Met Entry) (n : ℕ) → one.number ≡ n → times_met n (met ++ one ∷ []) ≡ times_met n met + 1
times_here met one n e =
    let single : ℕ = 1 in
    let here : cond (one.number == n) single 0 ≡ single = ap (λ b. cond b single 0) (eq-eqb one.number n e) in
    omega (arith, here, count_more n met (one ∷ []), count_one n one [])

times_other : (met : List (Met Entry)) (one : Met Entry) (n : ℕ) → one.number ≢ n → times_met n (met ++ one ∷ []) ≡ times_met n met
times_other met one n ne =
    let nought : ℕ = 0 in
    let other : cond (one.number == n) 1 nought ≡ nought = ap (λ b. cond b 1 nought) (ne_eqb one.number n ne) in
    omega (arith, other, count_more n met (one ∷ []), count_one n one [])

-- one seat more is split off and taken in
seated_on : (lock : CommunityLock) (clients client : ℕ) (left made : ℕ) (met : List (Met Entry)) → AreSeated lock clients client (record (first_pass lock clients) { left = left; made = made; met = met }) → client < clients
    → AreSeated lock clients (client + 1) (record (first_pass lock clients) { left = left - 1; made = made + 1; met = met ++ record { number = made + 1; events = [] } ∷ [] })
seated_on lock clients client left made met so below = record {
  same = refl;
  left = omega (arith, so.left, below);
  made = omega (arith, so.made);
  all = omega (arith, so.all, length-append met (one ∷ []));
  each = λ n above below. each n above below (ℕ_discrete (made + 1) n);
  once = λ n. once n (ℕ_discrete (made + 1) n);
  later = λ n past. times_other met one n (λ e. omega (arith, e, past, so.made)) ∙ so.later n (omega (arith, past));
  known = λ n. none_more met (made + 1) n (so.known n);
}
  where
    one : Met Entry
    one = record { number = made + 1; events = [] }

    each : (n : ℕ) → 0 < n → n < client + 1 → Dec (made + 1 ≡ n) → 0 < times_met n (met ++ one ∷ [])
    each n above below' (yes e) = omega (arith, times_here met one n e)
    each n above below' (no ne) = omega (arith, times_other met one n ne, so.each n above (omega (arith, below', ne, so.made)))

    once : (n : ℕ) → Dec (made + 1 ≡ n) → times_met n (met ++ one ∷ []) ≤ 1
    once n (yes e) = omega (arith, times_here met one n e, so.later n (omega (arith, e, so.made)))
    once n (no ne) = omega (arith, times_other met one n ne, so.once n)

pub seated_more : (lock : CommunityLock) (clients client : ℕ) (first split new after : SeatState) → AreSeated lock clients client first → client < clients
    → split ≡ record first { left = first.left - 1; made = first.made + 1 } → new ≡ beside first (first.made + 1) [] → after ≡ met_with split new → AreSeated lock clients (client + 1) after
seated_more lock clients client first split new after so below split_is new_is after_is =
    let step : SeatState → SeatState = λ s. met_with (record s { left = s.left - 1; made = s.made + 1 }) (beside s (s.made + 1) []) in
    let shape : after ≡ step first = after_is ∙ ap (λ s. met_with s new) split_is ∙ ap (λ s. met_with (record first { left = first.left - 1; made = first.made + 1 }) s) new_is in
    let full : after ≡ step (record (first_pass lock clients) { left = first.left; made = first.made; met = first.met }) = shape ∙ ap step so.same in
    subst (AreSeated lock clients (client + 1)) (sym full)
    (seated_on lock clients client first.left first.made first.met (subst (AreSeated lock clients client) so.same so) below)

pub seated_all : (lock : CommunityLock) (clients client : ℕ) (first : SeatState) → AreSeated lock clients client first → clients ≤ client → length lock.base ≤ clients → IsGathered lock first
seated_all lock clients client first so past all = record {
  may = subst (IsIdle lock) (sym so.same) (record { of_lock = record { same = refl; live = refl; base = refl }; free = refl });
  number = ap (λ s. s.number) so.same;
  all = so.all;
  each = λ n above below. so.each n above (omega (arith, below, past, all));
  once = so.once;
}

-- no client that isn't among the lines has one
pub none_among : (client : ℕ) (lines : List Entry) → has_line client lines ≡ false → entries_of client lines ≡ []
none_among client [] h = refl
none_among client (line ∷ lines) h = by (none_among client lines) (line.client == client) h
  where
    by : (has_line client lines ≡ false → entries_of client lines ≡ []) → (b : Bool) → (b || has_line client lines) ≡ false → cond b (line ∷ entries_of client lines) (entries_of client lines) ≡ []
    by rest true k = absurd (false≢true (sym k))
    by rest false k = rest k

-- nor has one whose number is past the clients
pub none_past : (clients client : ℕ) (lines : List Entry) → list_all (λ line. nat_lt line.client clients) lines ≡ true → clients ≤ client → entries_of client lines ≡ []
none_past clients client [] h past = refl
none_past clients client (line ∷ lines) h past =
    let tests = and_parts (nat_lt line.client clients) (list_all (λ line. nat_lt line.client clients) lines) h in
    let other : line.client ≢ client = λ e. grind (arith, nat_tests, tests.0, e, past) in
    ap (λ b. cond b (line ∷ entries_of client lines) (entries_of client lines)) (ne_eqb line.client client other)
    ∙ none_past clients client lines tests.1 past

-- the clients stay among whom none has lines
pub busy_skip : (lines : List Entry) (from limit next : ℕ) (players : List Player) → AreBusy lines from players → IsNextBusy lines from limit next → AreBusy lines next players
busy_skip lines from limit next players so found = record {
  busy = λ n above below absent. by n above below absent (cases_lt n from);
  fresh = λ n past. so.fresh n (omega (arith, past, found.above));
}
  where
    by : (n : ℕ) → 0 < n → n < next → times_met n (map met_of players) ≡ 0 → (n < from) ⊎ (from ≤ n) → entries_of n lines ≡ []
    by n above below absent (inl before) = so.busy n above before absent
    by n above below absent (inr past) = none_among n lines (found.idle n past below)

-- and nobody is parted where the first one that has lines is still to come
pub busy_none : (lines : List Entry) (limit next : ℕ) → IsNextBusy lines 1 limit next → AreBusy lines next []
busy_none lines limit next found =
    busy_skip lines 1 limit next [] (record { busy = λ n above below absent. absurd (omega (arith, above, below)); fresh = λ n past. refl }) found

-- one more that is parted
pub busy_more : (lines : List Entry) (client : ℕ) (players : List Player) (player : Player) → AreBusy lines client players → player.seat.number ≡ client → AreBusy lines (client + 1) (players ++ player ∷ [])
busy_more lines client players player so is = record {
  busy = λ n above below absent. busy n above below (subst (λ met. times_met n met ≡ 0) mets absent) (ℕ_discrete client n);
  fresh = λ n past. ap (times_met n) mets ∙ times_other (map met_of players) (met_of player) n (λ e. omega (arith, e, past, is)) ∙ so.fresh n (omega (arith, past));
}
  where
    mets : map met_of (players ++ player ∷ []) ≡ map met_of players ++ met_of player ∷ []
    mets = map-append met_of players (player ∷ [])

    busy : (n : ℕ) → 0 < n → n < client + 1 → times_met n (map met_of players ++ met_of player ∷ []) ≡ 0 → Dec (client ≡ n) → entries_of n lines ≡ []
    busy n above below absent (yes e) = absurd (omega (arith, absent, times_here (map met_of players) (met_of player) n (is ∙ e)))
    busy n above below absent (no ne) = so.busy n above (omega (arith, below, ne)) (omega (arith, absent, times_other (map met_of players) (met_of player) n (λ e. ne (sym is ∙ e))))

-- a client that isn't parted yet is with the first seat, once
pub is_with : (lock : CommunityLock) (client : ℕ) (before first : SeatState) (players : List Player) → IsGathered lock before → AreParted lock before first players → times_met client (map met_of players) ≡ 0
    → 0 < client → client < length lock.base → times_met client first.met ≡ 1
is_with lock client before first players gathered so fresh above below =
    omega (arith, so.each client, fresh, gathered.each client above below, gathered.once client)

-- one client more that has lines, and one that has none
pub busier : (lines : List Entry) (client : ℕ) → 0 < client → has_line client lines ≡ true → busy_below lines (client + 1) ≡ busy_below lines client + 1
busier lines client above some =
    let here : nat_lt 0 client ≡ true = grind (arith, nat_tests, above) in
    let count : client + 1 ≡ suc client = omega arith in
    ap (busy_below lines) count ∙ ap (λ b. cond b (suc (busy_below lines client)) (busy_below lines client)) (and_from (nat_lt 0 client) (has_line client lines) here some) ∙ omega arith

as_busy : (lines : List Entry) (client : ℕ) → has_line client lines ≡ false → busy_below lines (suc client) ≡ busy_below lines client
as_busy lines client none =
    ap (λ b. cond (nat_lt 0 client && b) (suc (busy_below lines client)) (busy_below lines client)) none ∙ by (nat_lt 0 client)
  where
    by : (b : Bool) → cond (b && false) (suc (busy_below lines client)) (busy_below lines client) ≡ busy_below lines client
    by true = refl
    by false = refl

-- over clients among whom none has lines the count stays
busy_over : (lines : List Entry) (low high : ℕ) → low ≤ high → ((n : ℕ) → low ≤ n → n < high → has_line n lines ≡ false) → busy_below lines high ≡ busy_below lines low
busy_over lines low zero more idle = let none : low ≡ 0 = omega (arith, more) in rw none refl
busy_over lines low (suc high) more idle = by (ℕ_discrete low (suc high)) (busy_over lines low high)
  where
    by : Dec (low ≡ suc high) → (low ≤ high → ((n : ℕ) → low ≤ n → n < high → has_line n lines ≡ false) → busy_below lines high ≡ busy_below lines low) → busy_below lines (suc high) ≡ busy_below lines low
    by (yes e) before = rw e refl
    by (no ne) before =
        as_busy lines high (idle high (omega (arith, more, ne)) (omega arith))
        ∙ before (omega (arith, more, ne)) (λ n above below. idle n above (omega (arith, below)))

-- none is counted before the first one that has lines, and just one from one such client to the next
pub busy_begin : (lines : List Entry) (limit next : ℕ) → IsNextBusy lines 1 limit next → busy_below lines next ≡ 0
busy_begin lines limit next found = busy_over lines 1 next found.above found.idle

pub busy_on : (lines : List Entry) (client limit next : ℕ) → 0 < client → has_line client lines ≡ true → IsNextBusy lines (client + 1) limit next → busy_below lines next ≡ busy_below lines client + 1
busy_on lines client limit next above some found = busy_over lines (client + 1) next found.above found.idle ∙ busier lines client above some

-- who has one of the first lines has one of all
has_still : (client i : ℕ) (lines : List Entry) → has_line client (take i lines) ≡ true → has_line client lines ≡ true
has_still client i lines some =
    ap (has_line client) (sym (take-append-drop i lines))
    ∙ list_any-append (λ (line : Entry). line.client == client) (take i lines) (drop i lines)
    ∙ ap (λ b. b || has_line client (drop i lines)) some

-- no client from a number on comes before that of this number, once it has a line
pub busy_first : (lines : List Entry) (i from limit next : ℕ) → IsNextBusy (take i lines) from limit next → next ≡ from → IsNextBusy lines from limit next
busy_first lines i from limit next found is = record {
  above = found.above;
  within = found.within;
  idle = λ n above below. absurd (omega (arith, is, above, below));
  busy = λ below. has_still next i lines (found.busy below);
}

-- and of the clients below a higher number as many have lines, or more
pub busy_rises : (lines : List Entry) (low high : ℕ) → low ≤ high → busy_below lines low ≤ busy_below lines high
busy_rises lines low zero more = let none : low ≡ 0 = omega (arith, more) in rw none (omega arith)
busy_rises lines low (suc high) more = by (ℕ_discrete low (suc high)) (busy_rises lines low high)
  where
    on : (b : Bool) → busy_below lines high ≤ cond b (suc (busy_below lines high)) (busy_below lines high)
    on true = omega arith
    on false = omega arith

    by : Dec (low ≡ suc high) → (low ≤ high → busy_below lines low ≤ busy_below lines high) → busy_below lines low ≤ busy_below lines (suc high)
    by (yes e) before = rw e (omega arith)
    by (no ne) before = omega (arith, before (omega (arith, more, ne)), on (nat_lt 0 high && has_line high lines))

-- nobody is parted yet
pub parted_none : (lock : CommunityLock) (first : SeatState) → AreParted lock first first []
parted_none lock first = record {
  same = refl;
  apart = All-nil (λ player. IsApart lock player.seat);
  all = omega arith;
  each = λ n. omega arith;
  known = λ n. ap (λ met. events_in met n) (append-nil first.met);
}

-- a client is parted from the first seat
pub parted_more : (lock : CommunityLock) (client : ℕ) (before first after seat : SeatState) (players : List Player) (player : Player) → IsGathered lock before → AreParted lock before first players
    → times_met client (map met_of players) ≡ 0 → 0 < client → client < length lock.base → after ≡ record first { met = without_number client first.met }
    → player.seat ≡ beside first client (events_in first.met client) → AreParted lock before after (players ++ player ∷ [])
parted_more lock client before first after seat players player gathered so fresh above below after_is seat_is =
    subst (λ s. AreParted lock before s (players ++ player ∷ [])) (sym shape) (record {
      same = refl;
      apart = All-push (λ player. IsApart lock player.seat) players player so.apart (subst (IsApart lock) (sym seat_is) apart);
      all = omega (arith, so.all, length_without client first.met, with', length-append players (player ∷ []));
      each = λ n. ap (λ met. times_met n (without_number client first.met) + times_met n met) mets ∙ moves_each client first.met (map met_of players) with' n ∙ so.each n;
      known = λ n. ap (λ met. events_in (without_number client first.met ++ met) n) mets ∙ moves_known client first.met (map met_of players) with' fresh n ∙ so.known n;
    })
  where
    shape : after ≡ record before { met = without_number client first.met }
    shape = after_is ∙ ap {A = SeatState} (λ s. record s { met = without_number client first.met }) so.same

    with' : times_met client first.met ≡ 1
    with' = is_with lock client before first players gathered so fresh above below

    moved : Met Entry
    moved = moved_of client first.met

    mets : map met_of (players ++ player ∷ []) ≡ map met_of players ++ moved ∷ []
    mets = map-append met_of players (player ∷ []) ∙ ap {A = SeatState} (λ s. map met_of players ++ record { number = s.number; events = s.mine } ∷ []) seat_is

    may : IsIdle lock first
    may = subst (IsIdle lock) (sym so.same) (record {
      of_lock = record { same = gathered.may.of_lock.same; live = gathered.may.of_lock.live; base = gathered.may.of_lock.base };
      free = gathered.may.free;
    })

    apart : IsApart lock (beside first client (events_in first.met client))
    apart = record {
      may = record { of_lock = record { same = may.of_lock.same; live = may.of_lock.live; base = may.of_lock.base }; free = refl; client = below };
      alone = refl;
    }
