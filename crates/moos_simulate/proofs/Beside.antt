-- What a play makes of its own clients' parts, seen by its caller, who knows further clients that answer: within a stamp that is later than
-- all so far, and not later than those clients' next turns, the history stays lawful so far.
use Rattle.std.proofs.Common.{◌≡◌, ℕ, suc, ◌+◌, ◌-◌, ◌*◌, ◌<◌, ◌≤◌, ◌==◌, Bool, true, false, cond, List, [], ◌∷◌, ◌++◌, length, nat_le, nat_lt, refl, sym, ap, subst, ◌∙◌, arith, append-nil, append_assoc, ne_eqb}
use Rattle.std.specs.Prelude.{map}
use Rattle.std.specs.List.{list_all}
use Rattle.std.proofs.lemmas.Bool.{and_from, and_parts}
use Rattle.std.proofs.lemmas.Bool.Decides.{nat_tests}
use Rattle.std.proofs.lemmas.List.{append_cancel_left, map-append}
use Rattle.std.proofs.lemmas.List.Elements.{filter-append}
use Rattle.std.proofs.Math.Nat.{mul-le-mul, mul-suc}
use Rattle.moos_post.specs.declared.entry.Entry.{Entry}
use Rattle.moos_post.specs.History.{History}
use Rattle.moos_client.specs.Calls.{entries_of}
use Rattle.moos_client.specs.Hearing.{heard_in, Mailed}
use Rattle.moos_client.proofs.Hearing.{heard_append, heard_none}
use Rattle.moos_lawful.specs.Answering.{Answerer, schedule_of}
use Rattle.moos_lawful.specs.Schedules.{clients_below, due_in, entries_below, IsLawfulSoFar, IsPlayable, never_falls, Schedule}
use Rattle.moos_lawful.specs.Widening.{IsBounded, IsWider}
use Rattle.moos_lawful.proofs.Further.{is_wider}
use Rattle.moos_lawful.proofs.Parts.{below_kept}
use Rattle.moos_lawful.proofs.Playable.{is_playable}
use Rattle.moos_lawful.proofs.Rising.{front_rises, lower, suffix_rises}
use Rattle.moos_lawful.proofs.Widening.{widened}
use Rattle.script_reader.specs.declared.script.Order.TheVariants.{Stamp}

-- ---- numbers that rise

-- a number behind others that aren't above it
rises_end : (low k : ℕ) (ns : List ℕ) → low ≤ k → never_falls low ns ≡ true → list_all (λ n. nat_le n k) ns ≡ true → never_falls low (ns ++ k ∷ []) ≡ true
rises_end low k [] less h most = and_from (nat_le low k) true (grind (arith, nat_tests, less)) refl
rises_end low k (n ∷ ns) less h most =
    let parts = and_parts (nat_le low n) (never_falls n ns) h in
    let tests = and_parts (nat_le n k) (list_all (λ n. nat_le n k) ns) most in
    let here = tests.0 in
    and_from (nat_le low n) (never_falls n (ns ++ k ∷ [])) parts.0 (rises_end n k ns (grind (arith, nat_tests, here)) parts.1 tests.1)

-- what rises from a number has nothing below it, and the other way round
rises_all : (key : Entry → ℕ) (low : ℕ) (xs : List Entry) → never_falls low (map key xs) ≡ true → list_all (λ x. nat_le low (key x)) xs ≡ true
rises_all key low [] h = refl
rises_all key low (x ∷ xs) h =
    let parts = and_parts (nat_le low (key x)) (never_falls (key x) (map key xs)) h in
    let here = parts.0 in
    and_from (nat_le low (key x)) (list_all (λ x. nat_le low (key x)) xs) here (raise (grind (arith, nat_tests, here)) xs (rises_all key (key x) xs parts.1))
  where
    raise : {mid : ℕ} → low ≤ mid → (ys : List Entry) → list_all (λ x. nat_le mid (key x)) ys ≡ true → list_all (λ x. nat_le low (key x)) ys ≡ true
    raise less [] all = refl
    raise {mid = mid} less (y ∷ ys) all =
        let tests = and_parts (nat_le mid (key y)) (list_all (λ x. nat_le mid (key x)) ys) all in
        let first = tests.0 in
        and_from (nat_le low (key y)) (list_all (λ x. nat_le low (key x)) ys) (grind (arith, nat_tests, less, first)) (raise less ys tests.1)

pub all_rise : (key : Entry → ℕ) (low : ℕ) (xs : List Entry) → list_all (λ x. nat_le low (key x)) xs ≡ true → never_falls 0 (map key xs) ≡ true → never_falls low (map key xs) ≡ true
all_rise key low [] all h = refl
all_rise key low (x ∷ xs) all h =
    and_from (nat_le low (key x)) (never_falls (key x) (map key xs)) (and_parts (nat_le low (key x)) (list_all (λ x. nat_le low (key x)) xs) all).0 (and_parts (nat_le 0 (key x)) (never_falls (key x) (map key xs)) h).1

-- what stands behind an entry isn't before it
behind_one : (key : Entry → ℕ) (front : List Entry) (x : Entry) (more left : List Entry) → never_falls 0 (map key ((front ++ x ∷ more) ++ left)) ≡ true → never_falls (key x) (map key left) ≡ true
behind_one key front x more left h =
    suffix_rises (key x) (map key more) (map key left)
    (subst (λ all. never_falls (key x) all ≡ true) (map-append key more left)
    (and_parts (nat_le 0 (key x)) (never_falls (key x) (map key (more ++ left)))
    (suffix_rises 0 (map key front) (map key (x ∷ (more ++ left)))
    (subst (λ all. never_falls 0 all ≡ true) (ap (map key) (append_assoc front (x ∷ more) left) ∙ map-append key front (x ∷ (more ++ left))) h))).1)

-- nobody below a number is among entries of clients from it on
none_under : (known n : ℕ) (xs : History) → n < known → list_all (λ entry. nat_le known entry.client) xs ≡ true → entries_of n xs ≡ []
none_under known n [] below all = refl
none_under known n (x ∷ xs) below all =
    let tests = and_parts (nat_le known x.client) (list_all (λ entry. nat_le known entry.client) xs) all in
    let here = tests.0 in
    let above : known ≤ x.client = grind (arith, nat_tests, here) in
    ap (λ b. cond b (x ∷ entries_of n xs) (entries_of n xs)) (ne_eqb x.client n (λ is. absurd (omega (arith, is, above, below)))) ∙ none_under known n xs below tests.1

-- all that a client is due to do is its own
pub left_own : {A : Type 0} (schedule : Schedule A) → IsPlayable schedule → (n known : ℕ) → n < known → (heard : List A) (done left : List Entry) → schedule.due n heard ≡ done ++ left → list_all (λ entry. nat_lt entry.client known) left ≡ true
left_own schedule may n known below heard done [] is = refl
left_own schedule may n known below heard done (entry ∷ left) is =
    let own : entry.client ≡ n = may.own n heard done entry left is in
    and_from (nat_lt entry.client known) (list_all (λ entry. nat_lt entry.client known) left) (grind (arith, nat_tests, own, below))
    (left_own schedule may n known below heard (done ++ entry ∷ []) left (is ∙ sym (append_assoc done (entry ∷ []) left)))

-- what is left for a client of two schedules, the wider of which has further openings behind the start of the other
pub left_same : {A : Type 0} (short long : Schedule A) (wider : IsWider short long) (history : History) (now : IsLawfulSoFar short history) (on : IsLawfulSoFar long history) (n : ℕ) → n < short.known → on.left n ≡ now.left n
left_same {A = A} short long wider history now on n below =
    append_cancel_left (entries_of n on.rest) (on.left n) (now.left n)
    (sym (on.own n (omega (arith, below, wider.known))) ∙ due_same ∙ now.own n below ∙ ap (λ own. own ++ now.left n) own_same)
  where
    none : entries_of n wider.openings ≡ []
    none = none_under short.known n wider.openings below wider.further

    stands : now.rest ≡ wider.openings ++ on.rest
    stands = append_cancel_left short.start now.rest (wider.openings ++ on.rest) (sym now.opened ∙ on.opened ∙ ap (λ start. start ++ on.rest) wider.start ∙ append_assoc short.start wider.openings on.rest)

    own_same : entries_of n now.rest ≡ entries_of n on.rest
    own_same = ap (entries_of n) stands ∙ filter-append (λ entry. entry.client == n) wider.openings on.rest ∙ ap (λ front. front ++ entries_of n on.rest) none

    due_same : due_in long n on.rest ≡ due_in short n now.rest
    due_same =
        (λ i. wider.due n below i (heard_in (wider.mailed i) n (wider.start i) on.rest))
        ∙ ap (short.due n) (ap (λ heard. heard ++ heard_in short.mailed n (short.start ++ wider.openings) on.rest) (sym (heard_none short.mailed n short.start wider.openings none))
        ∙ sym (heard_append short.mailed n short.start wider.openings on.rest) ∙ ap (heard_in short.mailed n short.start) (sym stands))

module _ {A : Type 0} (lines : List Entry) (clients stop period : ℕ) (first : Answerer A) (others : List (Answerer A)) (names : ℕ) (mailed : Mailed A) (room : clients + length (first ∷ others) ≤ names)
  where
    abbrev pub short : Schedule A
    short = schedule_of Stamp lines clients stop period (first ∷ []) names mailed

    abbrev pub long : Schedule A
    long = schedule_of Stamp lines clients stop period (first ∷ others) names mailed

    may_short : IsPlayable short
    may_short = is_playable Stamp lines clients stop period (first ∷ []) names mailed (omega (arith, room))

    pub wider : IsWider short long
    wider = is_wider Stamp lines clients stop period first others names mailed room

    -- how many moments a stamp has
    abbrev pub each : ℕ
    each = suc (suc (length others))

    factor : each ≤ each
    factor = omega arith

    -- entries before a stamp have moments that aren't above its first
    early_moments : (s : ℕ) (rest : History) → list_all (λ entry. nat_lt entry.stamp s) rest ≡ true → list_all (λ n. nat_le n (each * s)) (map long.moment (entries_below long.known rest)) ≡ true
    early_moments s [] early = refl
    early_moments s (x ∷ rest) early = by (nat_lt x.client long.known) refl (early_moments s rest tests.1)
      where
        tests : (nat_lt x.stamp s ≡ true) × (list_all (λ entry. nat_lt entry.stamp s) rest ≡ true)
        tests = and_parts (nat_lt x.stamp s) (list_all (λ entry. nat_lt entry.stamp s) rest) early

        here : x.stamp < s
        here = let test = tests.0 in grind (arith, nat_tests, test)

        by : (b : Bool) → nat_lt x.client long.known ≡ b → list_all (λ n. nat_le n (each * s)) (map long.moment (entries_below long.known rest)) ≡ true
            → list_all (λ n. nat_le n (each * s)) (map long.moment (cond b (x ∷ entries_below long.known rest) (entries_below long.known rest))) ≡ true
        by false e all = all
        by true e all =
            let below : x.client < long.known = grind (arith, nat_tests, e) in
            let next : suc x.stamp ≤ s = here in
            let most : long.moment x ≤ each * s = omega (arith, below, mul-le-mul factor next, mul-suc each x.stamp) in
            and_from (nat_le (long.moment x) (each * s)) (list_all (λ n. nat_le n (each * s)) (map long.moment (entries_below long.known rest))) (grind (arith, nat_tests, most)) all

    -- those of a stamp, of the play's clients, have one of its first two
    stamp_moments : (s : ℕ) (later : History) → clients_below (clients + 1) later ≡ true → list_all (λ entry. entry.stamp == s) later ≡ true
        → (list_all (λ entry. nat_le (each * s) (long.moment entry)) later ≡ true) × (list_all (λ n. nat_le n (each * s + 1)) (map long.moment later) ≡ true)
    stamp_moments s [] below one = (refl, refl)
    stamp_moments s (x ∷ later) below one =
        let rest = stamp_moments s later belows.1 ones.1 in (
          and_from (nat_le (each * s) (long.moment x)) (list_all (λ entry. nat_le (each * s) (long.moment entry)) later) least rest.0,
          and_from (nat_le (long.moment x) (each * s + 1)) (list_all (λ n. nat_le n (each * s + 1)) (map long.moment later)) most rest.1,
        )
      where
        belows : (nat_lt x.client (clients + 1) ≡ true) × (clients_below (clients + 1) later ≡ true)
        belows = and_parts (nat_lt x.client (clients + 1)) (clients_below (clients + 1) later) below

        ones : ((x.stamp == s) ≡ true) × (list_all (λ entry. entry.stamp == s) later ≡ true)
        ones = and_parts (x.stamp == s) (list_all (λ entry. entry.stamp == s) later) one

        same : each * x.stamp ≡ each * s
        same = let test = ones.0 in let is : x.stamp ≡ s = grind (arith, nat_tests, test) in ap (λ s. each * s) is

        few : x.client < clients + 1
        few = let test = belows.0 in grind (arith, nat_tests, test)

        least : nat_le (each * s) (long.moment x) ≡ true
        least = let more : each * s ≤ long.moment x = omega (arith, same) in grind (arith, nat_tests, more)

        most : nat_le (long.moment x) (each * s + 1) ≡ true
        most = let less : long.moment x ≤ each * s + 1 = omega (arith, same, few) in grind (arith, nat_tests, less)

    -- what isn't before a stamp by the play's measure isn't by its caller's
    late_moments : (s : ℕ) (left : List Entry) → list_all (λ entry. nat_lt entry.client (clients + 1)) left ≡ true → list_all (λ entry. nat_le (2 * s) (short.moment entry)) left ≡ true → list_all (λ entry. nat_le (each * s) (long.moment entry)) left ≡ true
    late_moments s [] own late = refl
    late_moments s (x ∷ left) own late =
        let owns = and_parts (nat_lt x.client (clients + 1)) (list_all (λ entry. nat_lt entry.client (clients + 1)) left) own in
        let lates = and_parts (nat_le (2 * s) (short.moment x)) (list_all (λ entry. nat_le (2 * s) (short.moment entry)) left) late in
        let test = owns.0 in
        let here = lates.0 in
        let few : x.client < clients + 1 = grind (arith, nat_tests, test) in
        let least : 2 * s ≤ short.moment x = grind (arith, nat_tests, here) in
        let stamp : s ≤ x.stamp = omega (arith, few, least) in
        let more : each * s ≤ long.moment x = omega (arith, mul-le-mul factor stamp) in
        and_from (nat_le (each * s) (long.moment x)) (list_all (λ entry. nat_le (each * s) (long.moment entry)) left) (grind (arith, nat_tests, more)) (late_moments s left owns.1 lates.1)

    -- A PART OF ONE STAMP that is later than all so far, and not later than the further clients' next turns
    pub part_widened : (s : ℕ) (history later : History) (so : IsLawfulSoFar long history) → IsLawfulSoFar short (history ++ later) → list_all (λ entry. nat_lt entry.stamp s) so.rest ≡ true
        → clients_below (clients + 1) later ≡ true → list_all (λ entry. entry.stamp == s) later ≡ true → ((n : ℕ) → clients + 1 ≤ n → n < long.known → never_falls (each * s + 1) (map long.moment (so.left n)) ≡ true)
        → IsLawfulSoFar long (history ++ later)
    part_widened s history [] so now early below one further = subst (IsLawfulSoFar long) (sym (append-nil history)) so
    part_widened s history (x ∷ more) so now early below one further = widened short long may_short wider history later so now bounds
      where
        later : History
        later = x ∷ more

        some : 0 < long.known
        some = omega arith

        stands : now.rest ≡ (wider.openings ++ so.rest) ++ later
        stands =
            append_cancel_left short.start now.rest (wider.openings ++ (so.rest ++ later))
            (sym now.opened ∙ ap (λ history. history ++ later) (so.opened ∙ ap (λ start. start ++ so.rest) wider.start) ∙ append_assoc (short.start ++ wider.openings) so.rest later ∙ append_assoc short.start wider.openings (so.rest ++ later))
            ∙ sym (append_assoc wider.openings so.rest later)

        before : never_falls 0 (map long.moment (entries_below long.known so.rest) ++ each * s ∷ []) ≡ true
        before =
            rises_end 0 (each * s) (map long.moment (entries_below long.known so.rest)) (omega arith)
            (front_rises 0 (map long.moment (entries_below long.known so.rest)) (map long.moment (so.left 0))
            (subst (λ all. never_falls 0 all ≡ true) (map-append long.moment (entries_below long.known so.rest) (so.left 0)) (so.moments 0 some)))
            (early_moments s so.rest early)

        first_stamp : 2 * s ≤ short.moment x
        first_stamp = let test = (and_parts (x.stamp == s) (list_all (λ entry. entry.stamp == s) more) one).0 in let is : x.stamp ≡ s = grind (arith, nat_tests, test) in omega (arith, is)

        cut : entries_below (clients + 1) now.rest ≡ entries_below (clients + 1) (wider.openings ++ so.rest) ++ later
        cut =
            ap (entries_below (clients + 1)) stands ∙ filter-append (λ entry. nat_lt entry.client (clients + 1)) (wider.openings ++ so.rest) later
            ∙ ap (λ end. entries_below (clients + 1) (wider.openings ++ so.rest) ++ end) (below_kept (clients + 1) later below)

        left : (n : ℕ) → n < clients + 1 → list_all (λ entry. nat_le (each * s) (long.moment entry)) (now.left n) ≡ true
        left n under =
            late_moments s (now.left n) (left_own short may_short n (clients + 1) under (heard_in short.mailed n short.start now.rest) (entries_of n now.rest) (now.left n) (now.own n under))
            (rises_all short.moment (2 * s) (now.left n) (lowered (behind_one short.moment (entries_below (clients + 1) (wider.openings ++ so.rest)) x more (now.left n) (subst (λ all. never_falls 0 (map short.moment (all ++ now.left n)) ≡ true) cut (now.moments n under)))))
          where
            lowered : never_falls (short.moment x) (map short.moment (now.left n)) ≡ true → never_falls (2 * s) (map short.moment (now.left n)) ≡ true
            lowered h = lower (2 * s) (short.moment x) (map short.moment (now.left n)) first_stamp h

        bounds : IsBounded short long history later so now
        bounds = record {
          low = each * s;
          high = each * s + 1;
          rising = omega arith;
          clients = below;
          before = before;
          above = (stamp_moments s later below one).0;
          below = (stamp_moments s later below one).1;
          left = left;
          further = further;
        }
