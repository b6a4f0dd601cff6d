-- Histories of which each client's entries are known.
use Rattle.std.proofs.Common.{◌≡◌, ◌≢◌, ℕ, ◌==◌, Bool, true, false, cond, [], ◌∷◌, ◌++◌, filter, length, refl, sym, ap, ◌∙◌, subst, arith, eq-eqb, ◌+◌, ◌-◌}
use Rattle.std.proofs.lemmas.Bool.{and_from, and_parts}
use Rattle.std.proofs.lemmas.List.{append_cancel_left}
use Rattle.std.proofs.lemmas.List.Elements.{filter-append}
use Rattle.std.proofs.lemmas.List.Folds.{list_all-append}
use Rattle.std.specs.List.{list_all}
use Rattle.moos_client.specs.Calls.{entries_of}
use Rattle.moos_post.specs.History.{History}
use Rattle.moos_post.specs.declared.entry.Entry.{Entry}
use native.Mathlib.Decide.{ℕ_discrete}

-- a test that all pass of a list with one element more or less
all_rest : (p : Entry → Bool) (b : Bool) (x : Entry) (xs : History) → list_all p (cond b (x ∷ xs) xs) ≡ true → list_all p xs ≡ true
all_rest p true x xs h = (and_parts (p x) (list_all p xs) h).1
all_rest p false x xs h = h

-- what each client's entries pass all entries pass
pub all_own : (p : Entry → Bool) (xs : History) → ((n : ℕ) → list_all p (entries_of n xs) ≡ true) → list_all p xs ≡ true
all_own p [] h = refl
all_own p (x ∷ xs) h =
    let here : list_all p (x ∷ entries_of x.client xs) ≡ true = subst (λ b. list_all p (cond b (x ∷ entries_of x.client xs) (entries_of x.client xs)) ≡ true) (eq-eqb x.client x.client refl) (h x.client) in
    and_from (p x) (list_all p xs) (and_parts (p x) (list_all p (entries_of x.client xs)) here).0 (all_own p xs (λ n. all_rest p (x.client == n) x (entries_of n xs) (h n)))

pub all_kept : (p q : Entry → Bool) (xs : History) → list_all p xs ≡ true → list_all p (filter q xs) ≡ true
all_kept p q [] h = refl
all_kept p q (x ∷ xs) h = let tests = and_parts (p x) (list_all p xs) h in by (q x) tests.0 (all_kept p q xs tests.1)
  where
    by : (b : Bool) → p x ≡ true → list_all p (filter q xs) ≡ true → list_all p (cond b (x ∷ filter q xs) (filter q xs)) ≡ true
    by true here rest = and_from (p x) (list_all p (filter q xs)) here rest
    by false here rest = rest

-- a history without entries of any client is empty
pub none_left : (xs : History) → ((n : ℕ) → entries_of n xs ≡ []) → xs ≡ []
none_left [] h = refl
none_left (x ∷ xs) h =
    let here : x ∷ entries_of x.client xs ≡ [] = subst (λ b. cond b (x ∷ entries_of x.client xs) (entries_of x.client xs) ≡ []) (eq-eqb x.client x.client refl) (h x.client) in
    cc

-- a history without entries of other clients is the client's entries
pub only_own : (n : ℕ) (xs : History) → ((m : ℕ) → m ≢ n → entries_of m xs ≡ []) → xs ≡ entries_of n xs
only_own n [] h = refl
only_own n (x ∷ xs) h = by (ℕ_discrete x.client n) (only_own n xs (λ m other. others m (x.client == m) (h m other)))
  where
    others : (m : ℕ) (b : Bool) → cond b (x ∷ entries_of m xs) (entries_of m xs) ≡ [] → entries_of m xs ≡ []
    others m true none = absurd (omega (arith, ap length none))
    others m false none = none

    by : Dec (x.client ≡ n) → xs ≡ entries_of n xs → x ∷ xs ≡ cond (x.client == n) (x ∷ entries_of n xs) (entries_of n xs)
    by (yes e) rest = ap (λ rest. x ∷ rest) rest ∙ sym (ap (λ b. cond b (x ∷ entries_of n xs) (entries_of n xs)) (eq-eqb x.client n e))
    by (no ne) rest =
        let none : x ∷ entries_of x.client xs ≡ [] = subst (λ b. cond b (x ∷ entries_of x.client xs) (entries_of x.client xs) ≡ []) (eq-eqb x.client x.client refl) (h x.client ne) in
        absurd (omega (arith, ap length none))

-- what a history goes on with has of each client what it has more
pub own_rest : (before rest : History) (n : ℕ) (more : History) → entries_of n (before ++ rest) ≡ entries_of n before ++ more → entries_of n rest ≡ more
own_rest before rest n more h =
    append_cancel_left (entries_of n before) (entries_of n rest) more (sym (filter-append (λ entry. entry.client == n) before rest) ∙ h)

-- a test that all lines pass their fronts pass
pub front_pass : (p : Entry → Bool) (xs ys : History) → (rest : History) × (xs ≡ ys ++ rest) → list_all p xs ≡ true → list_all p ys ≡ true
front_pass p xs ys begins all = (and_parts (list_all p ys) (list_all p begins.0) (sym (list_all-append p ys begins.0) ∙ ap (list_all p) (sym begins.1) ∙ all)).0

pub fronts_pass : (p : Entry → Bool) (lines added : History) → ((n : ℕ) → (rest : History) × (entries_of n lines ≡ entries_of n added ++ rest)) → list_all p lines ≡ true → list_all p added ≡ true
fronts_pass p lines added fronts all = all_own p added (λ n. front_pass p (entries_of n lines) (entries_of n added) (fronts n) (all_kept p (λ entry. entry.client == n) lines all))
