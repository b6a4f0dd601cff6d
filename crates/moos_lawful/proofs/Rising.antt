-- Numbers that rise, sums below a bound, and what is heard in two parts.
use Rattle.std.proofs.Common.{◌≡◌, ◌≢◌, ℕ, zero, suc, ◌+◌, ◌<◌, ◌≤◌, ◌==◌, Bool, true, false, List, [], ◌∷◌, ◌++◌, nat_le, refl, sym, ap, subst, arith}
use Rattle.std.proofs.lemmas.Bool.{and_from, and_parts}
use Rattle.std.proofs.lemmas.Bool.Decides.{nat_tests}
use Rattle.moos_lawful.specs.Schedules.{never_falls}

-- ---- numbers that rise

le_true : (a b : ℕ) → a ≤ b → nat_le a b ≡ true
le_true a b h = grind (arith, nat_tests)

pub true_le : (a b : ℕ) → nat_le a b ≡ true → a ≤ b
true_le a b h = grind (arith, nat_tests)

pub lower : (low mid : ℕ) (ns : List ℕ) → low ≤ mid → never_falls mid ns ≡ true → never_falls low ns ≡ true
lower low mid [] less h = refl
lower low mid (n ∷ ns) less h =
    let parts = and_parts (nat_le mid n) (never_falls n ns) h in
    and_from (nat_le low n) (never_falls n ns) (le_true low n (omega (arith, less, true_le mid n parts.0))) parts.1

pub front_rises : (low : ℕ) (ns more : List ℕ) → never_falls low (ns ++ more) ≡ true → never_falls low ns ≡ true
front_rises low [] more h = refl
front_rises low (n ∷ ns) more h =
    let parts = and_parts (nat_le low n) (never_falls n (ns ++ more)) h in
    and_from (nat_le low n) (never_falls n ns) parts.0 (front_rises n ns more parts.1)

pub end_rises : (low : ℕ) (ns more : List ℕ) → never_falls low (ns ++ more) ≡ true → never_falls 0 more ≡ true
end_rises low [] more h = lower 0 low more (omega arith) h
end_rises low (n ∷ ns) more h = end_rises n ns more (and_parts (nat_le low n) (never_falls n (ns ++ more)) h).1

pub suffix_rises : (low : ℕ) (ns more : List ℕ) → never_falls low (ns ++ more) ≡ true → never_falls low more ≡ true
suffix_rises low [] more h = h
suffix_rises low (n ∷ ns) more h =
    let parts = and_parts (nat_le low n) (never_falls n (ns ++ more)) h in
    lower low n more (true_le low n parts.0) (suffix_rises n ns more parts.1)

-- a number between two parts, that the first may have behind it and the second before it
pub between_rises : (low k : ℕ) (ns more : List ℕ) → never_falls low (ns ++ k ∷ []) ≡ true → never_falls k more ≡ true → never_falls low (ns ++ k ∷ more) ≡ true
between_rises low k [] more h so = let parts = and_parts (nat_le low k) true h in and_from (nat_le low k) (never_falls k more) parts.0 so
between_rises low k (n ∷ ns) more h so =
    let parts = and_parts (nat_le low n) (never_falls n (ns ++ k ∷ [])) h in
    and_from (nat_le low n) (never_falls n (ns ++ k ∷ more)) parts.0 (between_rises n k ns more parts.1 so)

-- what rises from its own first number on rises from any that isn't above it
pub head_rises : (k n : ℕ) (ns : List ℕ) → never_falls 0 (n ∷ ns) ≡ true → k ≤ n → never_falls k (n ∷ ns) ≡ true
head_rises k n ns h less = let parts = and_parts (nat_le 0 n) (never_falls n ns) h in and_from (nat_le k n) (never_falls n ns) (le_true k n less) parts.1

-- ---- sums

abbrev pub total : (ℕ → ℕ) → ℕ → ℕ
total f zero = 0
total f (suc k) = total f k + f k

total_same : (f g : ℕ → ℕ) (k : ℕ) → ((m : ℕ) → m < k → f m ≡ g m) → total f k ≡ total g k
total_same f g zero same = refl
total_same f g (suc k) same = omega (arith, total_same f g k (λ m below. same m (omega (arith, below))), same k (omega arith))

-- none is above the sum
pub total_least : (f : ℕ → ℕ) (n k : ℕ) → n < k → f n ≤ total f k
total_least f n zero below = absurd (omega (arith, below))
total_least f n (suc k) below = by (n == k) refl (λ less. total_least f n k less)
  where
    by : (b : Bool) → (n == k) ≡ b → (n < k → f n ≤ total f k) → f n ≤ total f k + f k
    by true e rest = let same : n ≡ k = grind (arith, nat_tests, e) in omega (arith, ap f same)
    by false e rest = let less : n < k = grind (arith, below, nat_tests, e) in omega (arith, rest less)

-- one number that is less by one
pub total_less : (f g : ℕ → ℕ) (n k : ℕ) → n < k → f n ≡ suc (g n) → ((m : ℕ) → m < k → m ≢ n → f m ≡ g m) → total f k ≡ suc (total g k)
total_less f g n zero below one others = absurd (omega (arith, below))
total_less f g n (suc k) below one others = by (n == k) refl (λ less. total_less f g n k less one (λ m before. others m (omega (arith, before))))
  where
    by : (b : Bool) → (n == k) ≡ b → (n < k → total f k ≡ suc (total g k)) → total f k + f k ≡ suc (total g k + g k)
    by true e rest =
        let same : n ≡ k = grind (arith, nat_tests, e) in
        let last : f k ≡ suc (g k) = subst (λ m. f m ≡ suc (g m)) same one in
        omega (arith, last, total_same f g k (λ m less. others m (omega (arith, less)) (λ is. absurd (omega (arith, is, same, less)))))
    by false e rest =
        let other : n ≢ k = λ is. absurd (grind (arith, nat_tests, e, is)) in
        let less : n < k = grind (arith, below, nat_tests, e) in
        omega (arith, rest less, others k (omega arith) (λ is. other (sym is)))
