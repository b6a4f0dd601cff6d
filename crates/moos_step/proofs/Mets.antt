-- What the first seat and the seats apart from it know together, when one is parted and when all have played.
use Rattle.std.proofs.Common.{◌≡◌, ℕ, zero, suc, ◌+◌, ◌<◌, ◌≤◌, ◌==◌, cond, List, [], ◌∷◌, ◌++◌, eq-eqb, ne_eqb, refl, sym, ap, ◌∙◌, subst, arith, append_assoc, append-nil}
use native.Mathlib.Decide.{ℕ_discrete}
use Rattle.moos_post.specs.declared.entry.Entry.{Entry}
use Rattle.moos_step.specs.Steps.{times_met}
use Rattle.turn_lock.specs.declared.view.Met.{Met}
use Rattle.turn_lock.specs.Passes.{events_in, without_number}
use Rattle.turn_lock.proofs.Mets.{count_gone, count_kept, count_more, count_one, events_back, events_front, events_none, events_other, events_without}

-- what is kept of a number that is taken out
abbrev pub moved_of : ℕ → List (Met Entry) → Met Entry
moved_of m met = record { number = m; events = events_in met m }

-- One number is moved behind others, with its events: how often a number is there stays, and so do all events.
pub moves_each : (m : ℕ) (met others : List (Met Entry)) → times_met m met ≡ 1 → (n : ℕ)
    → times_met n (without_number m met) + times_met n (others ++ moved_of m met ∷ []) ≡ times_met n met + times_met n others
moves_each m met others once n = by (ℕ_discrete m n)
  where
    moved : Met Entry
    moved = moved_of m met

    by : Dec (m ≡ n) → times_met n (without_number m met) + times_met n (others ++ moved ∷ []) ≡ times_met n met + times_met n others
    by (yes e) =
        let single : ℕ = 1 in
        let here : cond (m == n) single 0 ≡ single = ap (λ b. cond b single 0) (eq-eqb m n e) in
        let gone : times_met n (without_number m met) ≡ 0 = subst (λ k. times_met k (without_number m met) ≡ 0) e (count_gone m met) in
        let one : times_met n met ≡ 1 = subst (λ k. times_met k met ≡ 1) e once in
        omega (arith, here, gone, one, count_more n others (moved ∷ []), count_one n moved [])
    by (no ne) =
        let nought : ℕ = 0 in
        let other : cond (m == n) 1 nought ≡ nought = ap (λ b. cond b 1 nought) (ne_eqb m n ne) in
        omega (arith, other, count_kept m n met (λ e. ne (sym e)), count_more n others (moved ∷ []), count_one n moved [])

pub moves_known : (m : ℕ) (met others : List (Met Entry)) → times_met m met ≡ 1 → times_met m others ≡ 0 → (n : ℕ)
    → events_in (without_number m met ++ (others ++ moved_of m met ∷ [])) n ≡ events_in (met ++ others) n
moves_known m met others once apart n = by (ℕ_discrete m n)
  where
    moved : Met Entry
    moved = moved_of m met

    here : events_in (moved ∷ []) m ≡ events_in met m
    here = ap (λ b. cond b (events_in met m) []) (eq-eqb m m refl)

    by : Dec (m ≡ n) → events_in (without_number m met ++ (others ++ moved ∷ [])) n ≡ events_in (met ++ others) n
    by (yes e) = subst (λ k. events_in (without_number m met ++ (others ++ moved ∷ [])) k ≡ events_in (met ++ others) k) e
        (events_back (without_number m met) (others ++ moved ∷ []) m (count_gone m met) ∙ events_back others (moved ∷ []) m apart ∙ here ∙ sym (events_front met others m (omega (arith, once))))
    by (no ne) =
        ap (λ l. events_in l n) (sym (append_assoc (without_number m met) others (moved ∷ [])))
        ∙ events_other (without_number m met ++ others) moved n ne
        ∙ events_without m n met others (λ e. ne (sym e))

-- The events of those that were apart are longer by what they have added, and those of all others are the same.
pub known_after : (n : ℕ) (met apart later before : List (Met Entry)) (added : List Entry) → events_in (met ++ apart) n ≡ events_in before n
    → times_met n met + times_met n apart ≡ times_met n before → times_met n before ≤ 1 → times_met n later ≡ times_met n apart
    → (0 < times_met n apart → events_in later n ≡ events_in apart n ++ added) → (times_met n apart ≡ 0 → added ≡ [])
    → events_in (met ++ later) n ≡ events_in before n ++ added
known_after n met apart later before added known all once same more none = by (times_met n apart) refl (times_met n met) refl
  where
    by : (k : ℕ) → times_met n apart ≡ k → (l : ℕ) → times_met n met ≡ l → events_in (met ++ later) n ≡ events_in before n ++ added
    by zero e zero f =
        let gone : events_in before n ≡ [] = sym known ∙ events_back met apart n f ∙ events_none apart n e in
        rw (gone, none e) (events_back met later n f ∙ events_none later n (same ∙ e))
    by zero e (suc l) f =
        let here : 0 < times_met n met = omega (arith, f) in
        rw (none e) (events_front met later n here ∙ sym (events_front met apart n here) ∙ known ∙ sym (append-nil (events_in before n)))
    by (suc k) e l f =
        let gone : times_met n met ≡ 0 = omega (arith, e, all, once) in
        events_back met later n gone ∙ more (omega (arith, e)) ∙ ap (λ events. events ++ added) (sym (events_back met apart n gone) ∙ known)
