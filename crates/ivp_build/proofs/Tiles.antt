-- Runs that tile an axis: each place lies in one of them, and where the pieces over them have the utility there.
use Rattle.std.proofs.Common.{◌≡◌, ℕ, Bool, zero, suc, true, false, ◌+◌, ◌-◌, ◌<◌, ◌≤◌, inl, inr, List, [], ◌∷◌, map, refl, ◌∙◌, ap, arith}
use Rattle.std.proofs.lemmas.Bool.{cases_lt, le-leb, lt-leb}
use Rattle.std.specs.Prelude.{count_by, find, Option, Some, nat_le, ◌&&◌, if◌then◌else◌}
use Rattle.std.proofs.lemmas.List.Sums.{sum_by-cons}
use Rattle.std.specs.List.{AllByRecursion}
use Rattle.ivp_build.specs.Cuts.{Run, cuts_of, runs_from}

-- each run begins behind the one before it, and the last one ends before `count`
abbrev pub AreTiles : ℕ → ℕ → List Run → Type 0
AreTiles count low [] = low ≡ count
AreTiles count low (run ∷ runs) = (run.low ≡ low) × (run.low ≤ run.high) × AreTiles count (suc run.high) runs

-- the run has the place
abbrev pub is_in : ℕ → Run → Bool
is_in place run = nat_le run.low place && nat_le place run.high

tiles_from : (goes_on : ℕ → Bool) (count low high more : ℕ) → low ≤ high → suc (high + more) ≡ count → AreTiles count low (runs_from goes_on low high more)
tiles_from goes_on count low high zero h e = (refl, h, omega arith)
tiles_from goes_on count low high (suc more) h e =
    by (goes_on high) (tiles_from goes_on count low (suc high) more (omega arith) (omega arith)) (tiles_from goes_on count (suc high) (suc high) more (omega arith) (omega arith))
  where
    by : (b : Bool) → AreTiles count low (runs_from goes_on low (suc high) more) → AreTiles count (suc high) (runs_from goes_on (suc high) (suc high) more)
        → AreTiles count low (if b then runs_from goes_on low (suc high) more else record { low = low; high = high } ∷ runs_from goes_on (suc high) (suc high) more)
    by true further fresh = further
    by false further fresh = (refl, h, fresh)

pub tiles : (goes_on : ℕ → Bool) (count : ℕ) → 0 < count → AreTiles count 0 (cuts_of goes_on count)
tiles goes_on count some = tiles_from goes_on count 0 0 (count - 1) (omega arith) (omega arith)

-- in a run or not
inside : (place : ℕ) (run : Run) → run.low ≤ place → place ≤ run.high → is_in place run ≡ true
inside place run h h' = rw (le-leb run.low place h, le-leb place run.high h') refl

beyond : (place : ℕ) (run : Run) → run.high < place → run.low ≤ place → is_in place run ≡ false
beyond place run h h' = rw (le-leb run.low place h', lt-leb place run.high h) refl

below : (place : ℕ) (run : Run) → place < run.low → is_in place run ≡ false
below place run h = rw (lt-leb run.low place h) refl

-- one item more
pub count_more : {X : Type 0} (t : X → Bool) (x : X) (xs : List X) → t x ≡ true → count_by t (x ∷ xs) ≡ 1 + count_by t xs
count_more t x xs e = sum_by-cons (λ y. if t y then 1 else 0) x xs ∙ ap (λ b. (if b then 1 else 0) + count_by t xs) e

count_other : {X : Type 0} (t : X → Bool) (x : X) (xs : List X) → t x ≡ false → count_by t (x ∷ xs) ≡ 0 + count_by t xs
count_other t x xs e = sum_by-cons (λ y. if t y then 1 else 0) x xs ∙ ap (λ b. (if b then 1 else 0) + count_by t xs) e

-- where each run's item is held just where the run has the place: how many are held, and the first of them
none_held : {X : Type 0} (make : Run → X) (holds : X → Bool) (place count low : ℕ) (runs : List Run) → ((run : Run) → holds (make run) ≡ is_in place run)
    → AreTiles count low runs → place < low → count_by holds (map make runs) ≡ 0
none_held make holds place count low [] same t h = refl
none_held make holds place count low (run ∷ runs) same t h =
    let begins = t.0 in
    let ordered = t.1 in
    let rest = none_held make holds place count (suc run.high) runs same t.2 (omega arith) in
    count_other holds (make run) (map make runs) (same run ∙ below place run (omega arith)) ∙ omega (arith, rest)

pub one_held : {X : Type 0} (make : Run → X) (holds : X → Bool) (place count low : ℕ) (runs : List Run) → ((run : Run) → holds (make run) ≡ is_in place run)
    → AreTiles count low runs → low ≤ place → place < count → count_by holds (map make runs) ≡ 1
one_held make holds place count low [] same t h h' = absurd (omega arith)
one_held make holds place count low (run ∷ runs) same t h h' =
    let begins = t.0 in
    let ordered = t.1 in
    elim (cases_lt run.high place) [
      | inl past ↦ let rest = one_held make holds place count (suc run.high) runs same t.2 past h' in count_other holds (make run) (map make runs) (same run ∙ beyond place run past (omega arith)) ∙ omega (arith, rest)
      | inr here ↦ let rest = none_held make holds place count (suc run.high) runs same t.2 (omega arith) in count_more holds (make run) (map make runs) (same run ∙ inside place run (omega arith) here) ∙ omega (arith, rest)
    ]

-- the first one that is held is that of a run with the place
pub found : {X : Type 0} (make : Run → X) (holds : X → Bool) (Q : Option X → Type 0) (P : Run → Type 0) (place count low : ℕ) (runs : List Run)
    → ((run : Run) → holds (make run) ≡ is_in place run) → AreTiles count low runs → low ≤ place → place < count → AllByRecursion P runs
    → ((run : Run) → P run → run.low ≤ place → place ≤ run.high → Q (Some (make run))) → Q (find holds (map make runs))
found make holds Q P place count low [] same t h h' all q = absurd (omega arith)
found make holds Q P place count low (run ∷ runs) same t h h' all q =
    let begins = t.0 in
    let ordered = t.1 in
    elim (cases_lt run.high place) [
      | inl past ↦ rw (same run, beyond place run past (omega arith)) (found make holds Q P place count (suc run.high) runs same t.2 past h' all.1 q)
      | inr here ↦ rw (same run, inside place run (omega arith) here) (q run all.0 (omega arith) here)
    ]
