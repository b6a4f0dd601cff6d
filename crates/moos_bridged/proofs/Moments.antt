-- Histories that keep their moments, and stamps that rise.
use Rattle.std.proofs.Common.{◌≡◌, ℕ, suc, ◌*◌, ◌<◌, ◌≤◌, ◌==◌, Bool, true, false, cond, List, [], ◌∷◌, ◌++◌, nat_le, nat_lt, refl, sym, ap, ◌∙◌, subst, arith, ne_eqb}
use Rattle.std.specs.List.{list_all}
use Rattle.std.proofs.lemmas.Bool.{and_from, and_parts}
use Rattle.std.proofs.lemmas.Bool.Decides.{nat_tests}
use Rattle.moos_post.specs.declared.entry.Entry.{Entry}
use Rattle.moos_post.specs.History.{History}
use Rattle.moos_share.specs.Bridged.{are_rising, bridge_moment, keeps_moments}

-- the moment of an entry is the first or the second of its stamp
moment_least : (bridge : ℕ) (entry : Entry) → 2 * entry.stamp ≤ bridge_moment bridge entry
moment_least bridge entry = by (entry.client == bridge)
  where
    by : (b : Bool) → 2 * entry.stamp ≤ cond b (suc (2 * entry.stamp)) (2 * entry.stamp)
    by true = omega arith
    by false = omega arith

moment_most : (bridge : ℕ) (entry : Entry) → bridge_moment bridge entry ≤ suc (2 * entry.stamp)
moment_most bridge entry = by (entry.client == bridge)
  where
    by : (b : Bool) → cond b (suc (2 * entry.stamp)) (2 * entry.stamp) ≤ suc (2 * entry.stamp)
    by true = omega arith
    by false = omega arith

moment_client : (bridge : ℕ) (entry : Entry) → entry.client < bridge → bridge_moment bridge entry ≡ 2 * entry.stamp
moment_client bridge entry below = ap (λ b. cond b (suc (2 * entry.stamp)) (2 * entry.stamp)) (ne_eqb entry.client bridge (λ e. omega (arith, e, below)))

keeps_lower : (bridge low mid : ℕ) (history : History) → low ≤ mid → keeps_moments bridge mid history ≡ true → keeps_moments bridge low history ≡ true
keeps_lower bridge low mid [] less keeps = refl
keeps_lower bridge low mid (entry ∷ history) less keeps =
    let tests = and_parts (nat_le mid (bridge_moment bridge entry)) (keeps_moments bridge (bridge_moment bridge entry) history) keeps in
    let here = tests.0 in
    and_from (nat_le low (bridge_moment bridge entry)) (keeps_moments bridge (bridge_moment bridge entry) history) (grind (arith, nat_tests, less)) tests.1

-- one part behind another whose stamps are all below the first moment
keeps_behind : (bridge low stamp : ℕ) (some more : History) → low ≤ 2 * stamp → keeps_moments bridge low some ≡ true → list_all (λ entry. nat_lt entry.stamp stamp) some ≡ true → keeps_moments bridge (2 * stamp) more ≡ true
    → keeps_moments bridge low (some ++ more) ≡ true
keeps_behind bridge low stamp [] more less keeps early later = keeps_lower bridge low (2 * stamp) more less later
keeps_behind bridge low stamp (entry ∷ some) more less keeps early later =
    let tests = and_parts (nat_le low (bridge_moment bridge entry)) (keeps_moments bridge (bridge_moment bridge entry) some) keeps in
    let stamps = and_parts (nat_lt entry.stamp stamp) (list_all (λ entry. nat_lt entry.stamp stamp) some) early in
    let here = stamps.0 in
    let below : entry.stamp < stamp = grind (arith, nat_tests) in
    and_from (nat_le low (bridge_moment bridge entry)) (keeps_moments bridge (bridge_moment bridge entry) (some ++ more)) tests.0
    (keeps_behind bridge (bridge_moment bridge entry) stamp some more (omega (arith, below, moment_most bridge entry)) tests.1 stamps.1 later)

-- clients' entries of one stamp, and then the bridge's
keeps_stamp : (bridge stamp : ℕ) (added : History) (last : Entry) → list_all (λ entry. entry.stamp == stamp) added ≡ true → list_all (λ entry. nat_lt entry.client bridge) added ≡ true → last.stamp ≡ stamp → keeps_moments bridge (2 * stamp) (added ++ last ∷ []) ≡ true
keeps_stamp bridge stamp [] last one clients is =
    let least : 2 * stamp ≤ bridge_moment bridge last = omega (arith, is, moment_least bridge last) in
    and_from (nat_le (2 * stamp) (bridge_moment bridge last)) true (grind (arith, nat_tests)) refl
keeps_stamp bridge stamp (entry ∷ added) last one clients is =
    let stamps = and_parts (entry.stamp == stamp) (list_all (λ entry. entry.stamp == stamp) added) one in
    let numbers = and_parts (nat_lt entry.client bridge) (list_all (λ entry. nat_lt entry.client bridge) added) clients in
    let here = stamps.0 in
    let there = numbers.0 in
    let same : entry.stamp ≡ stamp = grind (arith, nat_tests) in
    let below : entry.client < bridge = grind (arith, nat_tests) in
    let moment : bridge_moment bridge entry ≡ 2 * stamp = moment_client bridge entry below ∙ ap (λ n. 2 * n) same in
    and_from (nat_le (2 * stamp) (bridge_moment bridge entry)) (keeps_moments bridge (bridge_moment bridge entry) (added ++ last ∷ [])) (grind (arith, nat_tests, moment))
    (subst (λ low. keeps_moments bridge low (added ++ last ∷ []) ≡ true) (sym moment) (keeps_stamp bridge stamp added last stamps.1 numbers.1 is))

pub keeps_next : (bridge low stamp : ℕ) (part added : History) (last : Entry) → low ≤ stamp → keeps_moments bridge 0 part ≡ true → list_all (λ entry. nat_lt entry.stamp low) part ≡ true
    → list_all (λ entry. entry.stamp == stamp) added ≡ true → list_all (λ entry. nat_lt entry.client bridge) added ≡ true → last.stamp ≡ stamp → keeps_moments bridge 0 (part ++ (added ++ last ∷ [])) ≡ true
keeps_next bridge low stamp part added last less keeps early one clients is =
    keeps_behind bridge 0 stamp part (added ++ last ∷ []) (omega arith) keeps (early_raised low stamp part less early) (keeps_stamp bridge stamp added last one clients is)
  where
    early_raised : (low high : ℕ) (part : History) → low ≤ high → list_all (λ entry. nat_lt entry.stamp low) part ≡ true → list_all (λ entry. nat_lt entry.stamp high) part ≡ true
    early_raised low high [] less early = refl
    early_raised low high (entry ∷ part) less early =
        let tests = and_parts (nat_lt entry.stamp low) (list_all (λ entry. nat_lt entry.stamp low) part) early in
        let here = tests.0 in
        and_from (nat_lt entry.stamp high) (list_all (λ entry. nat_lt entry.stamp high) part) (grind (arith, nat_tests, less)) (early_raised low high part less tests.1)

-- entries of stamps below one, and then of that one
pub early_next : (low stamp : ℕ) (part added : History) (last : Entry) → low ≤ stamp → list_all (λ entry. nat_lt entry.stamp low) part ≡ true → list_all (λ entry. entry.stamp == stamp) added ≡ true → last.stamp ≡ stamp
    → list_all (λ entry. nat_lt entry.stamp (suc stamp)) (part ++ (added ++ last ∷ [])) ≡ true
early_next low stamp [] [] last less early one is = and_from (nat_lt last.stamp (suc stamp)) true (grind (arith, nat_tests, is)) refl
early_next low stamp [] (entry ∷ added) last less early one is =
    let tests = and_parts (entry.stamp == stamp) (list_all (λ entry. entry.stamp == stamp) added) one in
    let here = tests.0 in
    and_from (nat_lt entry.stamp (suc stamp)) (list_all (λ entry. nat_lt entry.stamp (suc stamp)) (added ++ last ∷ [])) (grind (arith, nat_tests)) (early_next low stamp [] added last less early tests.1 is)
early_next low stamp (entry ∷ part) added last less early one is =
    let tests = and_parts (nat_lt entry.stamp low) (list_all (λ entry. nat_lt entry.stamp low) part) early in
    let here = tests.0 in
    and_from (nat_lt entry.stamp (suc stamp)) (list_all (λ entry. nat_lt entry.stamp (suc stamp)) (part ++ (added ++ last ∷ []))) (grind (arith, nat_tests, less)) (early_next low stamp part added last less tests.1 one is)

-- stamps that rise, and one above them all
pub rising_next : (low stamp : ℕ) (stamps : List ℕ) → low ≤ stamp → are_rising stamps ≡ true → list_all (λ one. nat_lt one low) stamps ≡ true → are_rising (stamps ++ stamp ∷ []) ≡ true
rising_next low stamp [] less rising below = refl
rising_next low stamp (one ∷ []) less rising below =
    let here = (and_parts (nat_lt one low) true below).0 in and_from (nat_lt one stamp) true (grind (arith, nat_tests, less)) refl
rising_next low stamp (one ∷ next ∷ later) less rising below =
    let tests = and_parts (nat_lt one next) (are_rising (next ∷ later)) rising in
    let under = and_parts (nat_lt one low) (list_all (λ one. nat_lt one low) (next ∷ later)) below in
    and_from (nat_lt one next) (are_rising ((next ∷ later) ++ stamp ∷ [])) tests.0 (rising_next low stamp (next ∷ later) less tests.1 under.1)

pub below_next : (low stamp : ℕ) (stamps : List ℕ) → low ≤ stamp → list_all (λ one. nat_lt one low) stamps ≡ true → list_all (λ one. nat_lt one (suc stamp)) (stamps ++ stamp ∷ []) ≡ true
below_next low stamp [] less below = and_from (nat_lt stamp (suc stamp)) true (grind (arith, nat_tests)) refl
below_next low stamp (one ∷ stamps) less below =
    let tests = and_parts (nat_lt one low) (list_all (λ one. nat_lt one low) stamps) below in
    let here = tests.0 in
    and_from (nat_lt one (suc stamp)) (list_all (λ one. nat_lt one (suc stamp)) (stamps ++ stamp ∷ [])) (grind (arith, nat_tests, less)) (below_next low stamp stamps less tests.1)
