-- A play that knows the part of some clients alone, and a caller who knows those of further ones: what the play says of a part of the
-- history is what the caller needs of it.
use Rattle.std.proofs.Common.{◌≡◌, ℕ, ◌<◌, ◌≤◌, ◌==◌, ◌⊎◌, inl, inr, Bool, true, false, cond, List, [], ◌∷◌, ◌++◌, nat_le, nat_lt, refl, sym, ap, subst, ◌∙◌, arith, append-nil, append_assoc}
use Rattle.std.specs.Prelude.{map}
use Rattle.std.specs.List.{list_all}
use Rattle.std.proofs.lemmas.Bool.{and_from, and_parts}
use Rattle.std.proofs.lemmas.Bool.Decides.{nat_tests}
use Rattle.std.proofs.lemmas.List.{append_cancel_left, map-append}
use Rattle.std.proofs.lemmas.List.Elements.{filter-append}
use Rattle.std.proofs.lemmas.List.Folds.{list_all-append}
use Rattle.moos_post.specs.declared.entry.Entry.{Entry}
use Rattle.moos_post.specs.History.{History}
use Rattle.moos_client.specs.Calls.{entries_of}
use Rattle.moos_client.specs.Hearing.{heard_in}
use Rattle.moos_lawful.specs.Schedules.{due_in, entries_below, IsPlayable, IsLawfulSoFar, never_falls, Schedule}
use Rattle.moos_lawful.proofs.Parts.{below_kept, all_raised, due_stays, either, none_of, part_with}
use Rattle.moos_client.proofs.Hearing.{heard_append, heard_none}
use Rattle.moos_lawful.specs.Widening.{IsBounded, IsWider}
use Rattle.moos_lawful.proofs.Rising.{end_rises, front_rises, lower, true_le}

-- entries whose moments rise by one measure rise by another that keeps its order
last_rises : (p : Entry → Bool) (old new : Entry → ℕ) → ((x y : Entry) → p x ≡ true → p y ≡ true → old x ≤ old y → new x ≤ new y) → (x : Entry) → p x ≡ true → (xs : List Entry) → list_all p xs ≡ true → never_falls (old x) (map old xs) ≡ true → never_falls (new x) (map new xs) ≡ true
last_rises p old new keeps x px [] all h = refl
last_rises p old new keeps x px (y ∷ xs) all h =
    let tests = and_parts (p y) (list_all p xs) all in
    let parts = and_parts (nat_le (old x) (old y)) (never_falls (old y) (map old xs)) h in
    let so : new x ≤ new y = keeps x y px tests.0 (true_le (old x) (old y) parts.0) in
    and_from (nat_le (new x) (new y)) (never_falls (new y) (map new xs)) (grind (arith, nat_tests, so)) (last_rises p old new keeps y tests.0 xs tests.1 parts.1)

-- from a bound that isn't above the first of them
pub rises_from : (p : Entry → Bool) (old new : Entry → ℕ) → ((x y : Entry) → p x ≡ true → p y ≡ true → old x ≤ old y → new x ≤ new y) → (bound : ℕ) (xs : List Entry) → list_all p xs ≡ true → list_all (λ entry. nat_le bound (new entry)) xs ≡ true → never_falls 0 (map old xs) ≡ true
    → never_falls bound (map new xs) ≡ true
rises_from p old new keeps bound [] all from h = refl
rises_from p old new keeps bound (x ∷ xs) all from h =
    let tests = and_parts (p x) (list_all p xs) all in
    let parts = and_parts (nat_le 0 (old x)) (never_falls (old x) (map old xs)) h in
    let first = and_parts (nat_le bound (new x)) (list_all (λ entry. nat_le bound (new entry)) xs) from in
    and_from (nat_le bound (new x)) (never_falls (new x) (map new xs)) first.0 (last_rises p old new keeps x tests.0 xs tests.1 parts.1)

-- numbers within two bounds that rise, and those from the upper one on
within_rises : (low top : ℕ) (ns more : List ℕ) → low ≤ top → never_falls low ns ≡ true → list_all (λ n. nat_le n top) ns ≡ true → never_falls top more ≡ true → never_falls low (ns ++ more) ≡ true
within_rises low top [] more less h most so = lower low top more less so
within_rises low top (n ∷ ns) more less h most so =
    let parts = and_parts (nat_le low n) (never_falls n ns) h in
    let tests = and_parts (nat_le n top) (list_all (λ n. nat_le n top) ns) most in
    and_from (nat_le low n) (never_falls n (ns ++ more)) parts.0 (within_rises n top ns more (true_le n top tests.0) parts.1 tests.1 so)

-- nobody below a number is among entries of clients from it on
none_before : (known n : ℕ) (xs : History) → n < known → list_all (λ entry. nat_le known entry.client) xs ≡ true → entries_of n xs ≡ []
none_before known n [] below all = refl
none_before known n (x ∷ xs) below all =
    let tests = and_parts (nat_le known x.client) (list_all (λ entry. nat_le known entry.client) xs) all in
    let above : known ≤ x.client = true_le known x.client tests.0 in
    ap (λ b. cond b (x ∷ entries_of n xs) (entries_of n xs)) (other above) ∙ none_before known n xs below tests.1
  where
    other : known ≤ x.client → (x.client == n) ≡ false
    other above = grind (arith, nat_tests, above, below)

-- all entries that a client is due to make are its own
due_own : {A : Type 0} (schedule : Schedule A) → IsPlayable schedule → (n : ℕ) (heard : List A) (p : Entry → Bool) → ((entry : Entry) → entry.client ≡ n → p entry ≡ true) → (done left : List Entry) → schedule.due n heard ≡ done ++ left → list_all p left ≡ true
due_own schedule may n heard p holds done [] is = refl
due_own schedule may n heard p holds done (entry ∷ left) is =
    and_from (p entry) (list_all p left) (holds entry (may.own n heard done entry left is)) (due_own schedule may n heard p holds (done ++ entry ∷ []) left (is ∙ sym (append_assoc done (entry ∷ []) left)))

-- WHAT THE CALLER GETS: the history was lawful so far for the wider schedule, and with a part of the play's clients it is so for the
-- shorter one. Within these bounds it is then so for the wider one too.
pub widened : {A : Type 0} (short long : Schedule A) → IsPlayable short → (wider : IsWider short long) → (history later : History) (so : IsLawfulSoFar long history) (now : IsLawfulSoFar short (history ++ later)) → IsBounded short long history later so now
    → IsLawfulSoFar long (history ++ later)
widened {A = A} short long may wider history later so now bounds =
    (part_with long history later so bounds.low left (λ n below. own n below (either (nat_lt n short.known))) bounds.before (λ n below. behind n below (either (nat_lt n short.known))) (all_raised short.known long.names later (omega (arith, wider.known, wider.room)) bounds.clients)).0
  where
    left : ℕ → List Entry
    left n = cond (nat_lt n short.known) (now.left n) (so.left n)

    -- what stands behind the start of the shorter schedule
    rest_is : now.rest ≡ wider.openings ++ (so.rest ++ later)
    rest_is = append_cancel_left short.start now.rest (wider.openings ++ (so.rest ++ later))
        (sym now.opened ∙ ap (λ history. history ++ later) (so.opened ∙ ap (λ start. start ++ so.rest) wider.start) ∙ append_assoc (short.start ++ wider.openings) so.rest later ∙ append_assoc short.start wider.openings (so.rest ++ later))

    own_rest : (n : ℕ) → n < short.known → entries_of n now.rest ≡ entries_of n (so.rest ++ later)
    own_rest n below = ap (entries_of n) rest_is ∙ filter-append (λ entry. entry.client == n) wider.openings (so.rest ++ later) ∙ ap (λ front. front ++ entries_of n (so.rest ++ later)) (none_before short.known n wider.openings below wider.further)

    due_same : (n : ℕ) → n < short.known → due_in long n (so.rest ++ later) ≡ due_in short n now.rest
    due_same n below =
        (λ i. wider.due n below i (heard_in (wider.mailed i) n (wider.start i) (so.rest ++ later)))
        ∙ ap (short.due n) (ap (λ heard. heard ++ heard_in short.mailed n (short.start ++ wider.openings) (so.rest ++ later)) (sym (heard_none short.mailed n short.start wider.openings (none_before short.known n wider.openings below wider.further)))
        ∙ sym (heard_append short.mailed n short.start wider.openings (so.rest ++ later)) ∙ ap (heard_in short.mailed n short.start) (sym rest_is))

    own : (n : ℕ) → n < long.known → (nat_lt n short.known ≡ true) ⊎ (nat_lt n short.known ≡ false) → due_in long n (so.rest ++ later) ≡ entries_of n (so.rest ++ later) ++ left n
    own n below (inl e) =
        let here : n < short.known = grind (arith, nat_tests, e) in
        due_same n here ∙ now.own n here ∙ (λ i. own_rest n here i ++ cond (sym e i) (now.left n) (so.left n))
    own n below (inr e) =
        let none = none_of short.known n later (grind (arith, nat_tests, e)) bounds.clients in
        due_stays long n so.rest later none ∙ so.own n below
        ∙ (λ i. sym (filter-append (λ entry. entry.client == n) so.rest later ∙ ap (λ end. entries_of n so.rest ++ end) none ∙ append-nil (entries_of n so.rest)) i ++ cond (sym e i) (now.left n) (so.left n))

    later_is : entries_below long.known later ≡ later
    later_is = below_kept long.known later (all_raised short.known long.known later wider.known bounds.clients)

    left_own : (n : ℕ) → n < short.known → list_all (λ entry. nat_lt entry.client short.known) (now.left n) ≡ true
    left_own n below = due_own short may n (heard_in short.mailed n short.start now.rest) (λ entry. nat_lt entry.client short.known) (λ entry is. grind (arith, nat_tests, is, below)) (entries_of n now.rest) (now.left n) (now.own n below)

    both : (p : Entry → Bool) (xs ys : List Entry) → list_all p xs ≡ true → list_all p ys ≡ true → list_all p (xs ++ ys) ≡ true
    both p xs ys a b = list_all-append p xs ys ∙ and_from (list_all p xs) (list_all p ys) a b

    -- by the shorter schedule the part and what is left behind it rise
    short_rises : (n : ℕ) → n < short.known → never_falls 0 (map short.moment (later ++ now.left n)) ≡ true
    short_rises n below =
        end_rises 0 (map short.moment (entries_below short.known (wider.openings ++ so.rest))) (map short.moment (later ++ now.left n))
        (subst (λ all. never_falls 0 all ≡ true) (map-append short.moment (entries_below short.known (wider.openings ++ so.rest)) (later ++ now.left n))
        (subst (λ some. never_falls 0 (map short.moment some) ≡ true) cut (now.moments n below)))
      where
        cut : entries_below short.known now.rest ++ now.left n ≡ entries_below short.known (wider.openings ++ so.rest) ++ (later ++ now.left n)
        cut =
            ap (λ some. some ++ now.left n) (ap (entries_below short.known) (rest_is ∙ sym (append_assoc wider.openings so.rest later)) ∙ filter-append (λ entry. nat_lt entry.client short.known) (wider.openings ++ so.rest) later
            ∙ ap (λ end. entries_below short.known (wider.openings ++ so.rest) ++ end) (below_kept short.known later bounds.clients))
            ∙ append_assoc (entries_below short.known (wider.openings ++ so.rest)) later (now.left n)

    behind : (n : ℕ) → n < long.known → (nat_lt n short.known ≡ true) ⊎ (nat_lt n short.known ≡ false) → never_falls bounds.low (map long.moment (entries_below long.known later) ++ map long.moment (left n)) ≡ true
    behind n below (inl e) =
        let here : n < short.known = grind (arith, nat_tests, e) in
        subst (λ b. never_falls bounds.low (map long.moment (entries_below long.known later) ++ map long.moment (cond b (now.left n) (so.left n))) ≡ true) (sym e)
        (subst (λ some. never_falls bounds.low (map long.moment some ++ map long.moment (now.left n)) ≡ true) (sym later_is)
        (subst (λ all. never_falls bounds.low all ≡ true) (map-append long.moment later (now.left n))
        (rises_from (λ entry. nat_lt entry.client short.known) short.moment long.moment wider.keeps bounds.low (later ++ now.left n) (both (λ entry. nat_lt entry.client short.known) later (now.left n) bounds.clients (left_own n here))
        (both (λ entry. nat_le bounds.low (long.moment entry)) later (now.left n) bounds.above (bounds.left n here)) (short_rises n here))))
    behind n below (inr e) =
        subst (λ b. never_falls bounds.low (map long.moment (entries_below long.known later) ++ map long.moment (cond b (now.left n) (so.left n))) ≡ true) (sym e)
        (subst (λ some. never_falls bounds.low (map long.moment some ++ map long.moment (so.left n)) ≡ true) (sym later_is)
        (within_rises bounds.low bounds.high (map long.moment later) (map long.moment (so.left n)) bounds.rising (alone (either (nat_lt 0 short.known))) bounds.below (bounds.further n (grind (arith, nat_tests, e)) below)))
      where
        alone : (nat_lt 0 short.known ≡ true) ⊎ (nat_lt 0 short.known ≡ false) → never_falls bounds.low (map long.moment later) ≡ true
        alone (inl some) =
            let here : 0 < short.known = grind (arith, nat_tests, some) in
            rises_from (λ entry. nat_lt entry.client short.known) short.moment long.moment wider.keeps bounds.low later bounds.clients bounds.above
            (front_rises 0 (map short.moment later) (map short.moment (now.left 0)) (subst (λ all. never_falls 0 all ≡ true) (map-append short.moment later (now.left 0)) (short_rises 0 here)))
        alone (inr none) = nobody later bounds.clients
          where
            nobody : (xs : History) → list_all (λ entry. nat_lt entry.client short.known) xs ≡ true → never_falls bounds.low (map long.moment xs) ≡ true
            nobody [] all = refl
            nobody (x ∷ xs) all = absurd (grind (arith, nat_tests, none, (and_parts (nat_lt x.client short.known) (list_all (λ entry. nat_lt entry.client short.known) xs) all).0))
