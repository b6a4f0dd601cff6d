-- Cuts by their ends: what runs a list of ends makes, and when these are the maximal ones.
use Rattle.std.proofs.Common.{◌≡◌, ℕ, Bool, zero, suc, true, false, ◌+◌, ◌-◌, ◌<◌, ◌≤◌, ◌⊎◌, inl, inr, List, [], ◌∷◌, refl, sym, ◌∙◌, ap, subst, arith}
use Rattle.std.proofs.lemmas.Bool.{cases_lt, lt-ltb, le-ltb}
use Rattle.std.specs.Prelude.{nat_lt, if◌then◌else◌}
use Rattle.ivp_build.specs.Cuts.{Run, cuts_of, runs_from}
use Rattle.ivp_build.specs.Ends.{runs_by}

-- the cuts from a place on where one begins
abbrev pub rest_from : (ℕ → Bool) → ℕ → ℕ → List Run
rest_from goes_on count low = if nat_lt low count then runs_from goes_on low low (count - 1 - low) else []

rest_is : (goes_on : ℕ → Bool) (count low : ℕ) → low < count → rest_from goes_on count low ≡ runs_from goes_on low low (count - 1 - low)
rest_is goes_on count low h = rw (lt-ltb low count h) refl

rest_none : (goes_on : ℕ → Bool) (count low : ℕ) → count ≤ low → rest_from goes_on count low ≡ []
rest_none goes_on count low h = rw (le-ltb low count h) refl

-- from `low` on one cut ends before `end`, unless `end` is no farther
pub record IsStop (goes_on : ℕ → Bool) (count low end : ℕ) : Type 0 where
  pub after : low ≤ end
  pub within : end ≤ count
  pub inner : (x : ℕ) → low ≤ x → suc x < end → goes_on x ≡ true
  pub last : low < end → end < count → (x : ℕ) → suc x ≡ end → goes_on x ≡ false

-- a run that has come to `high` goes on to `last`
runs_to : (goes_on : ℕ → Bool) (low gap high last more total : ℕ) → high + gap ≡ last → gap + suc more ≡ total
    → ((x : ℕ) → high ≤ x → x < last → goes_on x ≡ true) → goes_on last ≡ false
    → runs_from goes_on low high total ≡ record { low = low; high = last } ∷ runs_from goes_on (suc last) (suc last) more
runs_to goes_on low zero high last more total e t on off =
    let same : last ≡ high = omega arith in
    let all : total ≡ suc more = omega arith in
    let stops : goes_on high ≡ false = subst (λ x. goes_on x ≡ false) same off in
    rw (all, same, stops) refl
runs_to goes_on low (suc gap) high last more total e t on off =
    let all : total ≡ suc (gap + suc more) = omega arith in
    let further : goes_on high ≡ true = on high (omega arith) (omega arith) in
    rw (all, further) (runs_to goes_on low gap (suc high) last more (gap + suc more) (omega arith) refl (λ x above below. on x (omega arith) below) off)

-- or to the very last place
runs_end : (goes_on : ℕ → Bool) (low gap high last : ℕ) → high + gap ≡ last → ((x : ℕ) → high ≤ x → x < last → goes_on x ≡ true)
    → runs_from goes_on low high gap ≡ record { low = low; high = last } ∷ []
runs_end goes_on low zero high last e on = let same : last ≡ high = omega arith in rw same refl
runs_end goes_on low (suc gap) high last e on =
    let further : goes_on high ≡ true = on high (omega arith) (omega arith) in
    rw further (runs_end goes_on low gap (suc high) last (omega arith) (λ x above below. on x (omega arith) below))

-- one end more
pub stop : (goes_on : ℕ → Bool) (count low end : ℕ) (ends : List ℕ) → IsStop goes_on count low end → rest_from goes_on count end ≡ runs_by end ends
    → rest_from goes_on count low ≡ runs_by low (end ∷ ends)
stop goes_on count low end ends s rest = by (cases_lt low end)
  where
    by : (low < end) ⊎ (end ≤ low) → rest_from goes_on count low ≡ runs_by low (end ∷ ends)
    by (inr none) =
        let after = s.after in
        let same : end ≡ low = omega arith in
        let e = subst (λ k. rest_from goes_on count k ≡ runs_by k ends) same rest in
        rw (le-ltb low end none) e
    by (inl some) = rw (lt-ltb low end some) (at (end - 1) (omega arith) (cases_lt end count))
      where
        at : (last : ℕ) → suc last ≡ end → (end < count) ⊎ (count ≤ end) → rest_from goes_on count low ≡ record { low = low; high = last } ∷ runs_by end ends
        at last e (inl inside) =
            let to = runs_to goes_on low (last - low) low last (count - 1 - end) (count - 1 - low) (omega arith) (omega arith)
            (λ x above below. s.inner x above (omega arith)) (s.last some inside last e) in
            rest_is goes_on count low (omega arith) ∙ to
            ∙ ap (λ runs. record { low = low; high = last } ∷ runs) (ap (λ k. runs_from goes_on k k (count - 1 - end)) e ∙ sym (rest_is goes_on count end inside) ∙ rest)
        at last e (inr outside) =
            let within = s.within in
            let to = runs_end goes_on low (count - 1 - low) low last (omega arith) (λ x above below. s.inner x above (omega arith)) in
            rest_is goes_on count low (omega arith) ∙ to ∙ ap (λ runs. record { low = low; high = last } ∷ runs) (sym (rest_none goes_on count end outside) ∙ rest)

-- the ends of all cuts from `low` on, each behind the one before it
abbrev pub AreStops : (ℕ → Bool) → ℕ → ℕ → List ℕ → Type 0
AreStops goes_on count low [] = low ≡ count
AreStops goes_on count low (end ∷ ends) = IsStop goes_on count low end × AreStops goes_on count end ends

pub stops : (goes_on : ℕ → Bool) (count low : ℕ) (ends : List ℕ) → AreStops goes_on count low ends → rest_from goes_on count low ≡ runs_by low ends
stops goes_on count low [] e = rest_none goes_on count low (omega arith)
stops goes_on count low (end ∷ ends) s = stop goes_on count low end ends s.0 (stops goes_on count end ends s.1)

-- so these are the cuts
pub cuts_by_ends : (goes_on : ℕ → Bool) (count : ℕ) (ends : List ℕ) → 0 < count → AreStops goes_on count 0 ends → cuts_of goes_on count ≡ runs_by 0 ends
cuts_by_ends goes_on count ends some s = let e : count - 1 - 0 ≡ count - 1 = omega arith in ap (runs_from goes_on 0 0) (sym e) ∙ sym (rest_is goes_on count 0 some) ∙ stops goes_on count 0 ends s
