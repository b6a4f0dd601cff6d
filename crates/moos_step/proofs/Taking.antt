-- The players after their lines, and the first seat that takes them in.
use Rattle.std.proofs.Common.{◌≡◌, ◌≢◌, ℕ, zero, suc, ◌<◌, ◌==◌, cond, List, [], ◌∷◌, ◌++◌, map, length, length-append, take, drop, Ok, Err, OnOk, Result, refl, sym, ap, ◌∙◌, subst, arith, append-nil, append_assoc, eq-eqb, ne_eqb}
use Rattle.std.specs.Prelude.{slice_index_or}
use Rattle.std.specs.List.{All, AllZip}
use Rattle.std.proofs.lemmas.List.{drop_all, map-append, length-map, take_all}
use Rattle.std.proofs.lemmas.List.Elements.{All-cons, All-head, All-nil, All-push, All-tail, length_all_zip}
use native.Mathlib.Decide.{ℕ_discrete}
use Rattle.std.specs.declared.alloc.AllocError.{AllocError}
use Rattle.moos_client.specs.Calls.{SeatState}
use Rattle.moos_post.specs.declared.entry.Entry.{Entry}
use Rattle.moos_step.specs.declared.player.Player.{Player}
use Rattle.moos_step.specs.Steps.{AreParted, CommunityLock, GoesOn, Grows, HasEnded, HasGrown, HasMade, HasSeenAll, HasTaken, IsApart, IsGathered, IsWhole, Makes, met_of, times_met}
use Rattle.moos_step.proofs.Mets.{known_after}
use Rattle.moos_step.proofs.Lines.{may_on}
use Rattle.turn_lock.specs.Passes.{Begins, events_in, known_of, met_with}
use Rattle.turn_lock.proofs.Fronts.{begins_itself, begins_on}
use Rattle.turn_lock.proofs.Mets.{count_more, count_one}

-- a relation at each place of two lists of one length
pub zip_all : (R : Player → Player → Type 0) (xs ys : List Player) → length ys ≡ length xs → ((i : ℕ) (d : Player) → i < length xs → R (slice_index_or xs i d) (slice_index_or ys i d)) → AllZip R xs ys
zip_all R [] [] long each = tt
zip_all R [] (y ∷ ys) long each = absurd (omega (arith, long))
zip_all R (x ∷ xs) [] long each = absurd (omega (arith, long))
zip_all R (x ∷ xs) (y ∷ ys) long each = (each 0 x (omega arith), zip_all R xs ys (omega (arith, long)) (λ i d below. each (suc i) d (omega (arith, below))))

-- what is said of an answer where it is Ok
pub at_ok : {E : Type 0} (result : Result (Unit {0}) E) (P : Type 0) → result ≡ Ok tt → OnOk result P → P
at_ok result P is h = subst (λ r. OnOk r P) is h

-- what was written back to a list of one length
pub written : (n : ℕ) (xs ys : List Player) → length ys ≡ length xs → n ≡ length xs → take n (ys ++ drop (length ys) xs) ≡ ys
written n xs ys long all = ap (λ end. take n (ys ++ end)) (drop_all (length ys) xs (omega (arith, long))) ∙ ap (take n) (append-nil ys) ∙ take_all n ys (omega (arith, long, all))

-- one more that found memory
pub all_ended : (result one other : Result (Unit {0}) AllocError) (players : List Player) (player : Player) → OnOk result ((one ≡ Ok tt) × (other ≡ Ok tt)) → one ≡ player.ended
    → OnOk other (All (λ player. player.ended ≡ Ok tt) players) → OnOk result (All (λ player. player.ended ≡ Ok tt) (players ++ player ∷ []))
all_ended (Ok _) one other players player both is all = All-push (λ player. player.ended ≡ Ok tt) players player (at_ok other (All (λ player. player.ended ≡ Ok tt) players) both.1 all) (sym is ∙ both.0)
all_ended (Err _) one other players player both is all = tt

-- a seat that has made entries stays apart
apart_on : (lock : CommunityLock) (added : List Entry) (before after : SeatState) → IsApart lock before → HasMade added before after → IsApart lock after
apart_on lock added before after apart made = record {
  may = may_on lock added before after made apart.may;
  alone = ap (λ s. s.met) made.same ∙ apart.alone;
}

-- so do all
pub ended_apart : (lock : CommunityLock) (lines : List Entry) (befores afters : List Player) → AllZip (HasEnded lines) befores afters → All (λ player. IsApart lock player.seat) befores
    → All (λ player. IsApart lock player.seat) afters
ended_apart lock lines [] [] zip apart = All-nil (λ player. IsApart lock player.seat)
ended_apart lock lines [] (q ∷ qs) zip apart = absurd zip
ended_apart lock lines (p ∷ ps) [] zip apart = absurd zip
ended_apart lock lines (p ∷ ps) (q ∷ qs) zip apart =
    All-cons (λ player. IsApart lock player.seat) q qs
    (apart_on lock zip.0.added p.seat q.seat (All-head (λ player. IsApart lock player.seat) p ps apart) zip.0.made)
    (ended_apart lock lines ps qs zip.1 (All-tail (λ player. IsApart lock player.seat) p ps apart))

-- the players have made what they may
abbrev pub HaveMade : (ℕ → List Entry → Type 0) → List Player → List Player → Type 0
HaveMade may befores afters = AllZip (λ before after. Makes may before.seat after.seat) befores afters

-- nobody is taken in
pub taken_none : (first : SeatState) → HasTaken first first []
taken_none first = record { later = begins_itself first.seen; same = ap (λ met. record first { met = met }) (sym (append-nil first.met)) }

-- and one more
pub taken_more : (before first after seat : SeatState) (players : List Player) (player : Player) → HasTaken before first players → seat ≡ player.seat → player.seat.met ≡ []
    → after ≡ met_with first seat → Begins after.seen first.seen → HasTaken before after (players ++ player ∷ [])
taken_more before first after seat players player so seat_is alone after_is later = record {
  later = begins_on before.seen first.seen after.seen so.later later;
  same = shape ∙ subst (λ s. record first { seen = after.seen; met = first.met ++ met_of player ∷ [] } ≡ record s { seen = after.seen; met = s.met ++ met_of player ∷ [] }) so.same refl
      ∙ ap (λ met. record before { seen = after.seen; met = met }) (append_assoc before.met (map met_of players) (met_of player ∷ []) ∙ ap (λ met. before.met ++ met) (sym (map-append met_of players (player ∷ []))));
}
  where
    met : after.met ≡ first.met ++ met_of player ∷ []
    met = ap (λ s. s.met) after_is ∙ ap (λ s. (met_with first s).met) seat_is ∙ ap (λ met. first.met ++ met_of player ∷ met) alone

    shape : after ≡ record first { seen = after.seen; met = first.met ++ met_of player ∷ [] }
    shape = after_is ∙ ap {A = List Entry} (λ seen. record first { seen = seen; met = (met_with first seat).met }) (sym (ap (λ s. s.seen) after_is))
        ∙ ap (λ met. record first { seen = after.seen; met = met }) (sym (ap (λ s. s.met) after_is) ∙ met)

-- how often a number is among the players, and its events, after they have played
pub made_times : (may : ℕ → List Entry → Type 0) (n : ℕ) (befores afters : List Player) → HaveMade may befores afters → times_met n (map met_of afters) ≡ times_met n (map met_of befores)
made_times may n [] [] zip = refl
made_times may n [] (q ∷ qs) zip = absurd zip
made_times may n (p ∷ ps) [] zip = absurd zip
made_times may n (p ∷ ps) (q ∷ qs) zip =
    let rest = made_times may n ps qs zip.1 in
    let number : q.seat.number ≡ p.seat.number = ap (λ s. s.number) zip.0.made.same in
    let one : ℕ = 1 in
    let same : cond (q.seat.number == n) one 0 ≡ cond (p.seat.number == n) one 0 = ap (λ k. cond (k == n) one 0) number in
    omega (arith, rest, same, count_one n (met_of p) (map met_of ps), count_one n (met_of q) (map met_of qs))

-- the events of the number, where the first of the players may have it
grows_here : (may : ℕ → List Entry → Type 0) (number n : ℕ) (mine added others befores : List Entry) → Dec (number ≡ n) → may number added → (number ≢ n → Grows (may n) befores others)
    → Grows (may n) (cond (number == n) mine befores) (cond (number == n) (mine ++ added) others)
grows_here may number n mine added others befores (yes e) allowed rest = record {
  added = added;
  is = ap (λ b. cond b (mine ++ added) others) (eq-eqb number n e) ∙ sym (ap (λ b. cond b mine befores ++ added) (eq-eqb number n e));
  allowed = subst (λ k. may k added) e allowed;
}
grows_here may number n mine added others befores (no ne) allowed rest = record {
  added = (rest ne).added;
  is = ap (λ b. cond b (mine ++ added) others) (ne_eqb number n ne) ∙ (rest ne).is ∙ sym (ap (λ b. cond b mine befores ++ (rest ne).added) (ne_eqb number n ne));
  allowed = (rest ne).allowed;
}

made_events : (may : ℕ → List Entry → Type 0) (n : ℕ) (befores afters : List Player) → HaveMade may befores afters → 0 < times_met n (map met_of befores)
    → Grows (may n) (events_in (map met_of befores) n) (events_in (map met_of afters) n)
made_events may n [] [] zip some = absurd (omega (arith, some))
made_events may n [] (q ∷ qs) zip some = absurd zip
made_events may n (p ∷ ps) [] zip some = absurd zip
made_events may n (p ∷ ps) (q ∷ qs) zip some =
    let makes = zip.0 in
    subst (λ (s : SeatState). Grows (may n) (cond (p.seat.number == n) p.seat.mine (events_in (map met_of ps) n)) (cond (s.number == n) s.mine (events_in (map met_of qs) n))) (sym makes.made.same)
    (grows_here may p.seat.number n p.seat.mine makes.added (events_in (map met_of qs) n) (events_in (map met_of ps) n) (ℕ_discrete p.seat.number n) makes.allowed (λ ne.
    let nought : ℕ = 0 in
    let other : cond (p.seat.number == n) 1 nought ≡ nought = ap (λ b. cond b 1 nought) (ne_eqb p.seat.number n ne) in
    made_events may n ps qs zip.1 (omega (arith, other, some, count_one n (met_of p) (map met_of ps)))))

-- the first seat after a step
step_shape : {lock : CommunityLock} {before parted played after : SeatState} {added : List Entry} {players ended : List Player} → AreParted lock before parted players
    → HasMade added parted played → HasTaken played after ended → after ≡ record before { seen = after.seen; mine = before.mine ++ added; met = parted.met ++ map met_of ended }
step_shape {parted = parted} {after = after} {added = added} {ended = ended} apart first taken =
    taken.same
    ∙ ap {A = SeatState} (λ s. record s { seen = after.seen; met = s.met ++ map met_of ended }) first.same
    ∙ ap {A = SeatState} (λ s. record s { seen = after.seen; mine = s.mine ++ added; met = parted.met ++ map met_of ended }) apart.same

-- a step: some players are parted from the first seat, all make what they may, and the first takes them in; who isn't
-- parted may make nothing
pub record IsStep (lock : CommunityLock) (may : ℕ → List Entry → Type 0) (before parted played after : SeatState) (players ended : List Player) : Type 0 where
  pub gathered : IsGathered lock before
  pub apart : AreParted lock before parted players
  pub first : Makes may parted played
  pub others : HaveMade may players ended
  pub taken : HasTaken played after ended
  pub idle : (n : ℕ) → 0 < n → times_met n (map met_of players) ≡ 0 → may n []

-- how often a number is with the first seat then
step_times : {lock : CommunityLock} {may : ℕ → List Entry → Type 0} {before parted played after : SeatState} {players ended : List Player} (n : ℕ) → IsStep lock may before parted played after players ended
    → times_met n (parted.met ++ map met_of ended) ≡ times_met n before.met
step_times {may = may} {parted = parted} {players = players} {ended = ended} n step =
    omega (arith, count_more n parted.met (map met_of ended), made_times may n players ended step.others, step.apart.each n)

-- what is known of each client after a step, before the first seat has seen it
pub step_known : (lock : CommunityLock) (may : ℕ → List Entry → Type 0) (before parted played after : SeatState) (players ended : List Player) → IsStep lock may before parted played after players ended
    → (n : ℕ) → Grows (may n) (known_of before n) (known_of after n)
step_known lock may before parted played after players ended step n =
    subst (λ s. Grows (may n) (known_of before n) (known_of s n)) (sym (step_shape step.apart step.first.made step.taken))
    (grows_here may before.number n before.mine step.first.added (events_in (parted.met ++ map met_of ended) n) (events_in before.met n) (ℕ_discrete before.number n)
    (subst (λ (s : SeatState). may s.number step.first.added) step.apart.same step.first.allowed)
    (λ ne. others (times_met n (map met_of players)) refl (omega (arith, ne, step.gathered.number))))
  where
    grown : Grows (may n) (events_in (map met_of players) n) (events_in (map met_of ended) n) → 0 < times_met n (map met_of players) → Grows (may n) (events_in before.met n) (events_in (parted.met ++ map met_of ended) n)
    grown here some = record {
      added = here.added;
      is = known_after n parted.met (map met_of players) (map met_of ended) before.met here.added (step.apart.known n) (step.apart.each n) (step.gathered.once n)
          (made_times may n players ended step.others) (λ _. here.is) (λ none. absurd (omega (arith, none, some)));
      allowed = here.allowed;
    }

    others : (k : ℕ) → times_met n (map met_of players) ≡ k → 0 < n → Grows (may n) (events_in before.met n) (events_in (parted.met ++ map met_of ended) n)
    others zero none above = record {
      added = [];
      is = known_after n parted.met (map met_of players) (map met_of ended) before.met [] (step.apart.known n) (step.apart.each n) (step.gathered.once n)
          (made_times may n players ended step.others) (λ some. absurd (omega (arith, none, some))) (λ _. refl);
      allowed = step.idle n above none;
    }
    others (suc k) some above = let here : 0 < times_met n (map met_of players) = omega (arith, some) in grown (made_events may n players ended step.others here) here

-- after a step the first seat has taken in all others again
pub step_gathered : (lock : CommunityLock) (may : ℕ → List Entry → Type 0) (before parted played after : SeatState) (players ended : List Player) → IsStep lock may before parted played after players ended → IsGathered lock after
step_gathered lock may before parted played after players ended step =
    subst (IsGathered lock) (sym (step_shape step.apart step.first.made step.taken)) (record {
      may = record {
        of_lock = record { same = gathered.may.of_lock.same; live = gathered.may.of_lock.live; base = gathered.may.of_lock.base };
        free = gathered.may.free;
      };
      number = gathered.number;
      all = omega (arith, gathered.all, step.apart.all, length-append parted.met (map met_of ended), length-map ended met_of, length_all_zip (λ before after. Makes may before.seat after.seat) players ended step.others);
      each = λ n above below. omega (arith, step_times n step, gathered.each n above below);
      once = λ n. omega (arith, step_times n step, gathered.once n);
    })
  where
    gathered : IsGathered lock before
    gathered = step.gathered

-- the first seat sees no more than it may
pub seen_gathered : (lock : CommunityLock) (before after : SeatState) → HasSeenAll before after → IsGathered lock before → IsGathered lock after
seen_gathered lock before after seen gathered = subst (IsGathered lock) (sym seen.same) (record {
  may = record {
    of_lock = record { same = gathered.may.of_lock.same; live = gathered.may.of_lock.live; base = gathered.may.of_lock.base };
    free = gathered.may.free;
  };
  number = gathered.number;
  all = gathered.all;
  each = gathered.each;
  once = gathered.once;
})

-- the history that was seen has of each client what is known of it still
pub seen_whole : (before after : SeatState) → HasSeenAll before after → IsWhole after
seen_whole before after seen n = seen.whole n ∙ sym (ap (λ s. known_of s n) seen.same)

-- a step before the first seat has seen the whole history
pub step_grown : (lock : CommunityLock) (may : ℕ → List Entry → Type 0) (before parted played after : SeatState) (players ended : List Player) → IsStep lock may before parted played after players ended → HasGrown may before after
step_grown lock may before parted played after players ended step = record {
  later = begins_on before.seen parted.seen after.seen (subst (λ s. Begins s before.seen) (sym (ap (λ s. s.seen) step.apart.same)) (begins_itself before.seen))
      (begins_on parted.seen played.seen after.seen step.first.made.later step.taken.later);
  known = step_known lock may before parted played after players ended step;
}

-- and after that
pub grown_seen : (may : ℕ → List Entry → Type 0) (before taken after : SeatState) → HasGrown may before taken → HasSeenAll taken after → GoesOn may before after
grown_seen may before taken after grown seen = record {
  later = begins_on before.seen taken.seen after.seen grown.later seen.later;
  known = λ n. subst (Grows (may n) (known_of before n)) (sym (same n)) (grown.known n);
  whole = λ n. seen.whole n ∙ sym (same n);
}
  where
    same : (n : ℕ) → known_of after n ≡ known_of taken n
    same n = ap (λ s. known_of s n) seen.same

-- a whole step
pub step_goes_on : (lock : CommunityLock) (may : ℕ → List Entry → Type 0) (before parted played taken after : SeatState) (players ended : List Player) → IsStep lock may before parted played taken players ended
    → HasSeenAll taken after → GoesOn may before after
step_goes_on lock may before parted played taken after players ended step seen = grown_seen may before taken after (step_grown lock may before parted played taken players ended step) seen
