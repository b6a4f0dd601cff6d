-- Those that a pass has taken in: how often a number is among them, and its events.
use Rattle.std.proofs.Common.{◌≡◌, ◌≢◌, ℕ, ◌+◌, ◌<◌, ◌==◌, Bool, true, false, cond, not, ◌||◌, List, [], ◌∷◌, ◌++◌, length, count_by, append-nil, eq-eqb, ne_eqb, refl, sym, ap, ◌∙◌, arith}
use Rattle.std.specs.List.{list_any}
use Rattle.std.proofs.lemmas.Bool.{false≢true}
use Rattle.std.proofs.lemmas.List.Sums.{sum_by-append, sum_by-cons}
use native.Mathlib.Decide.{ℕ_discrete}
use Rattle.turn_lock.specs.declared.view.Met.{Met}
use Rattle.turn_lock.specs.Passes.{events_in, has_number, without_number}

-- how often a number is among one and others
pub count_one : {E : Type 0} (n : ℕ) (one : Met E) (met : List (Met E)) → count_by (has_number n) (one ∷ met) ≡ cond (one.number == n) 1 0 + count_by (has_number n) met
count_one {E} n one met = sum_by-cons (λ (k : Met E). cond (has_number n k) 1 0) one met

pub count_more : {E : Type 0} (n : ℕ) (met more : List (Met E)) → count_by (has_number n) (met ++ more) ≡ count_by (has_number n) met + count_by (has_number n) more
count_more {E} n met more = sum_by-append (λ (k : Met E). cond (has_number n k) 1 0) met more

-- a number that is there was taken in
pub is_taken : {E : Type 0} (n : ℕ) (met : List (Met E)) → 0 < count_by (has_number n) met → list_any (has_number n) met ≡ true
is_taken n [] some = absurd (omega (arith, some))
is_taken {E} n (one ∷ met) some = by (is_taken n met) (has_number n one) (omega (arith, some, count_one n one met))
  where
    by : (0 < count_by (has_number n) met → list_any (has_number n) met ≡ true) → (b : Bool) → 0 < cond b 1 0 + count_by (has_number n) met → (b || list_any (has_number n) met) ≡ true
    by rest true h = refl
    by rest false h = rest (omega (arith, h))

-- and a number that was taken in is there
pub met_counts : {E : Type 0} (n : ℕ) (met : List (Met E)) → list_any (has_number n) met ≡ true → 0 < count_by (has_number n) met
met_counts n [] e = absurd (false≢true e)
met_counts {E} n (one ∷ met) e = by (met_counts n met) (has_number n one) e (count_one n one met)
  where
    by : (list_any (has_number n) met ≡ true → 0 < count_by (has_number n) met) → (b : Bool) → (b || list_any (has_number n) met) ≡ true → count_by (has_number n) (one ∷ met) ≡ cond b 1 0 + count_by (has_number n) met → 0 < count_by (has_number n) (one ∷ met)
    by rest true e' c = omega (arith, c)
    by rest false e' c = omega (arith, c, rest e')

-- a number that isn't there has no events
pub events_none : {E : Type 0} (met : List (Met E)) (n : ℕ) → count_by (has_number n) met ≡ 0 → events_in met n ≡ []
events_none [] n none = refl
events_none {E} (one ∷ met) n none = by (events_none met n) (has_number n one) (omega (arith, none, count_one n one met))
  where
    by : (count_by (has_number n) met ≡ 0 → events_in met n ≡ []) → (b : Bool) → cond b 1 0 + count_by (has_number n) met ≡ 0 → cond b one.events (events_in met n) ≡ []
    by rest true h = absurd (omega (arith, h))
    by rest false h = rest (omega (arith, h))

-- the events of a number that is in front
pub events_front : {E : Type 0} (met more : List (Met E)) (n : ℕ) → 0 < count_by (has_number n) met → events_in (met ++ more) n ≡ events_in met n
events_front [] more n some = absurd (omega (arith, some))
events_front {E} (one ∷ met) more n some = by (events_front met more n) (has_number n one) (omega (arith, some, count_one n one met))
  where
    by : (0 < count_by (has_number n) met → events_in (met ++ more) n ≡ events_in met n) → (b : Bool) → 0 < cond b 1 0 + count_by (has_number n) met → cond b one.events (events_in (met ++ more) n) ≡ cond b one.events (events_in met n)
    by rest true h = refl
    by rest false h = rest (omega (arith, h))

-- and of one that is not
pub events_back : {E : Type 0} (met more : List (Met E)) (n : ℕ) → count_by (has_number n) met ≡ 0 → events_in (met ++ more) n ≡ events_in more n
events_back [] more n none = refl
events_back {E} (one ∷ met) more n none = by (events_back met more n) (has_number n one) (omega (arith, none, count_one n one met))
  where
    by : (count_by (has_number n) met ≡ 0 → events_in (met ++ more) n ≡ events_in more n) → (b : Bool) → cond b 1 0 + count_by (has_number n) met ≡ 0 → cond b one.events (events_in (met ++ more) n) ≡ events_in more n
    by rest true h = absurd (omega (arith, h))
    by rest false h = rest (omega (arith, h))

-- another number at the end changes no events
pub events_other : {E : Type 0} (met : List (Met E)) (one : Met E) (n : ℕ) → one.number ≢ n → events_in (met ++ one ∷ []) n ≡ events_in met n
events_other {E} [] one n other = ap (λ b. cond {A = List E} b one.events []) (ne_eqb one.number n other)
events_other {E} (first ∷ met) one n other = ap (λ (events : List E). cond (first.number == n) first.events events) (events_other met one n other)

-- the list without a number, by whether its first one has it
drops : {E : Type 0} (m : ℕ) (one : Met E) (met : List (Met E)) → one.number ≡ m → without_number m (one ∷ met) ≡ without_number m met
drops m one met e = ap (λ b. cond (not b) (one ∷ without_number m met) (without_number m met)) (eq-eqb one.number m e)

keeps : {E : Type 0} (m : ℕ) (one : Met E) (met : List (Met E)) → one.number ≢ m → without_number m (one ∷ met) ≡ one ∷ without_number m met
keeps m one met ne = ap (λ b. cond (not b) (one ∷ without_number m met) (without_number m met)) (ne_eqb one.number m ne)

-- whether one has a number, as a count
counts_here : {E : Type 0} (n : ℕ) (one : Met E) → one.number ≡ n → cond {A = ℕ} (one.number == n) 1 0 ≡ 1
counts_here n one e = let single : ℕ = 1 in ap (λ b. cond b single 0) (eq-eqb one.number n e)

counts_not : {E : Type 0} (n : ℕ) (one : Met E) → one.number ≢ n → cond {A = ℕ} (one.number == n) 1 0 ≡ 0
counts_not n one ne = let nought : ℕ = 0 in ap (λ b. cond b 1 nought) (ne_eqb one.number n ne)

-- without a number it is there no more
pub count_gone : {E : Type 0} (m : ℕ) (met : List (Met E)) → count_by (has_number m) (without_number m met) ≡ 0
count_gone m [] = refl
count_gone {E} m (one ∷ met) = by (count_gone m met) (ℕ_discrete one.number m)
  where
    by : count_by (has_number m) (without_number m met) ≡ 0 → Dec (one.number ≡ m) → count_by (has_number m) (without_number m (one ∷ met)) ≡ 0
    by rest (yes e) = ap (count_by (has_number m)) (drops m one met e) ∙ rest
    by rest (no ne) = ap (count_by (has_number m)) (keeps m one met ne) ∙ omega (arith, rest, counts_not m one ne, count_one m one (without_number m met))

-- and the others are as often there
pub count_kept : {E : Type 0} (m n : ℕ) (met : List (Met E)) → n ≢ m → count_by (has_number n) (without_number m met) ≡ count_by (has_number n) met
count_kept m n [] other = refl
count_kept {E} m n (one ∷ met) other = by (count_kept m n met other) (ℕ_discrete one.number m)
  where
    by : count_by (has_number n) (without_number m met) ≡ count_by (has_number n) met → Dec (one.number ≡ m) → count_by (has_number n) (without_number m (one ∷ met)) ≡ count_by (has_number n) (one ∷ met)
    by rest (yes e) = ap (count_by (has_number n)) (drops m one met e) ∙ omega (arith, rest, counts_not n one (λ e'. other (sym e' ∙ e)), count_one n one met)
    by rest (no ne) = ap (count_by (has_number n)) (keeps m one met ne) ∙ omega (arith, rest, count_one n one met, count_one n one (without_number m met))

pub length_without : {E : Type 0} (m : ℕ) (met : List (Met E)) → length (without_number m met) + count_by (has_number m) met ≡ length met
length_without m [] = refl
length_without {E} m (one ∷ met) = by (length_without m met) (ℕ_discrete one.number m)
  where
    by : length (without_number m met) + count_by (has_number m) met ≡ length met → Dec (one.number ≡ m) → length (without_number m (one ∷ met)) + count_by (has_number m) (one ∷ met) ≡ length (one ∷ met)
    by rest (yes e) = omega (arith, rest, counts_here m one e, count_one m one met, ap length (drops m one met e))
    by rest (no ne) = omega (arith, rest, counts_not m one ne, count_one m one met, ap length (keeps m one met ne))

-- without a number the others keep their events, whatever stands behind
pub events_without : {E : Type 0} (m n : ℕ) (met more : List (Met E)) → n ≢ m → events_in (without_number m met ++ more) n ≡ events_in (met ++ more) n
events_without m n [] more other = refl
events_without {E} m n (one ∷ met) more other = by (events_without m n met more other) (ℕ_discrete one.number m)
  where
    by : events_in (without_number m met ++ more) n ≡ events_in (met ++ more) n → Dec (one.number ≡ m) → events_in (without_number m (one ∷ met) ++ more) n ≡ events_in ((one ∷ met) ++ more) n
    by rest (yes e) = ap (λ kept. events_in (kept ++ more) n) (drops m one met e)
        ∙ rest ∙ sym (ap (λ b. cond b one.events (events_in (met ++ more) n)) (ne_eqb one.number n (λ e'. other (sym e' ∙ e))))
    by rest (no ne) = ap (λ kept. events_in (kept ++ more) n) (keeps m one met ne)
        ∙ ap (λ (events : List E). cond (one.number == n) one.events events) rest

pub events_kept : {E : Type 0} (m n : ℕ) (met : List (Met E)) → n ≢ m → events_in (without_number m met) n ≡ events_in met n
events_kept m n met other = ap (λ kept. events_in kept n) (sym (append-nil (without_number m met))) ∙ events_without m n met [] other ∙ ap (λ kept. events_in kept n) (append-nil met)
