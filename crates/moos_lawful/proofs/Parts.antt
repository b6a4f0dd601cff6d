-- A part of a history that threads made beside each other: what each known client has done by then is known, and in order Stamp all of
-- it has one moment.
use Rattle.std.proofs.Common.{◌≡◌, ℕ, ◌<◌, ◌≤◌, ◌==◌, true, List, [], ◌∷◌, ◌++◌, nat_le, nat_lt, refl, sym, ap, subst, ◌∙◌, arith, append-nil, append_assoc, cond, false, inl, inr, ne_eqb, Bool, ◌⊎◌}
use Rattle.std.specs.Prelude.{map}
use Rattle.std.specs.List.{list_all}
use Rattle.std.proofs.lemmas.Bool.{and_from, and_parts}
use Rattle.std.proofs.lemmas.Bool.Decides.{nat_tests}
use Rattle.std.proofs.lemmas.List.{map-append}
use Rattle.std.proofs.lemmas.List.Elements.{filter-append}
use Rattle.std.proofs.lemmas.List.Folds.{list_all-append}
use Rattle.moos_post.specs.declared.entry.Entry.{Entry}
use Rattle.moos_post.specs.History.{History}
use Rattle.moos_client.specs.Calls.{entries_of}
use Rattle.moos_client.specs.Hearing.{heard_in}
use Rattle.moos_lawful.specs.Schedules.{due_in, entries_below, IsLawfulSoFar, moments_with, never_falls, Schedule}
use Rattle.moos_client.proofs.Hearing.{heard_append, heard_none}
use Rattle.moos_lawful.proofs.Rising.{lower, true_le}

-- numbers behind others, from one that may stand behind these
two_rises : (low mid : ℕ) (some later : List ℕ) → never_falls low (some ++ mid ∷ []) ≡ true → never_falls mid later ≡ true → never_falls low (some ++ later) ≡ true
two_rises low mid [] later h so = lower low mid later (true_le low mid (and_parts (nat_le low mid) true h).0) so
two_rises low mid (n ∷ some) later h so =
    let parts = and_parts (nat_le low n) (never_falls n (some ++ mid ∷ [])) h in
    and_from (nat_le low n) (never_falls n (some ++ later)) parts.0 (two_rises n mid some later parts.1 so)

-- numbers that are all one, and those that may stand behind it
pub one_rises : (moment : ℕ) (one later : List ℕ) → list_all (λ n. n == moment) one ≡ true → never_falls moment later ≡ true → never_falls moment (one ++ later) ≡ true
one_rises moment [] later all so = so
one_rises moment (n ∷ one) later all so =
    let tests = and_parts (n == moment) (list_all (λ n. n == moment) one) all in
    let here = tests.0 in
    let same : n ≡ moment = grind (arith, nat_tests, here) in
    and_from (nat_le moment n) (never_falls n (one ++ later)) (grind (arith, nat_tests, same)) (subst (λ n. never_falls n (one ++ later) ≡ true) (sym same) (one_rises moment one later tests.1 so))

pub either : (b : Bool) → (b ≡ true) ⊎ (b ≡ false)
either true = inl refl
either false = inr refl

-- clients below a number are below a greater one, all are kept then, and nobody from that number on is among them
pub all_raised : (low high : ℕ) (xs : History) → low ≤ high → list_all (λ entry. nat_lt entry.client low) xs ≡ true → list_all (λ entry. nat_lt entry.client high) xs ≡ true
all_raised low high [] less all = refl
all_raised low high (x ∷ xs) less all =
    let tests = and_parts (nat_lt x.client low) (list_all (λ entry. nat_lt entry.client low) xs) all in
    let here = tests.0 in
    and_from (nat_lt x.client high) (list_all (λ entry. nat_lt entry.client high) xs) (grind (arith, nat_tests, less)) (all_raised low high xs less tests.1)

pub below_kept : (known : ℕ) (xs : History) → list_all (λ entry. nat_lt entry.client known) xs ≡ true → entries_below known xs ≡ xs
below_kept known [] all = refl
below_kept known (x ∷ xs) all =
    let tests = and_parts (nat_lt x.client known) (list_all (λ entry. nat_lt entry.client known) xs) all in
    ap (λ b. cond b (x ∷ entries_below known xs) (entries_below known xs)) tests.0 ∙ ap (λ xs. x ∷ xs) (below_kept known xs tests.1)

pub none_of : (deaf n : ℕ) (xs : History) → deaf ≤ n → list_all (λ entry. nat_lt entry.client deaf) xs ≡ true → entries_of n xs ≡ []
none_of deaf n [] past all = refl
none_of deaf n (x ∷ xs) past all =
    let tests = and_parts (nat_lt x.client deaf) (list_all (λ entry. nat_lt entry.client deaf) xs) all in
    let here = tests.0 in
    let below : x.client < deaf = grind (arith, nat_tests) in
    ap (λ b. cond b (x ∷ entries_of n xs) (entries_of n xs)) (ne_eqb x.client n (λ is. absurd (omega (arith, is, below, past)))) ∙ none_of deaf n xs past tests.1

module _ {A : Type 0} (schedule : Schedule A)
  where
    -- A PART THAT WAS MADE IN WHATEVER WAY: with it each known client has done the first of what it is due to do, the moments so far aren't above
    -- a bound, and from that bound on those of the part don't fall, nor with what is then left behind them.
    pub part_with : (history later : History) (so : IsLawfulSoFar schedule history) (bound : ℕ) (left : ℕ → List Entry) → ((n : ℕ) → n < schedule.known → due_in schedule n (so.rest ++ later) ≡ entries_of n (so.rest ++ later) ++ left n)
        → never_falls 0 (map schedule.moment (entries_below schedule.known so.rest) ++ bound ∷ []) ≡ true → ((n : ℕ) → n < schedule.known → never_falls bound (map schedule.moment (entries_below schedule.known later) ++ map schedule.moment (left n)) ≡ true)
        → list_all (λ entry. nat_lt entry.client schedule.names) later ≡ true → (on : IsLawfulSoFar schedule (history ++ later)) × (on.left ≡ left)
    part_with history later so bound left own before behind named = (
      record {
        rest = so.rest ++ later;
        opened = ap (λ front. front ++ later) so.opened ∙ append_assoc schedule.start so.rest later;
        left = left;
        own = own;
        moments = λ n below. subst (λ all. never_falls 0 all ≡ true) (sym (cut n))
            (two_rises 0 bound (map schedule.moment (entries_below schedule.known so.rest)) (map schedule.moment (entries_below schedule.known later) ++ map schedule.moment (left n)) before (behind n below));
        named = list_all-append (λ entry. nat_lt entry.client schedule.names) so.rest later
            ∙ and_from (list_all (λ entry. nat_lt entry.client schedule.names) so.rest) (list_all (λ entry. nat_lt entry.client schedule.names) later) so.named named;
      },
      refl,
    )
      where
        cut : (n : ℕ) → moments_with schedule (so.rest ++ later) (left n) ≡ map schedule.moment (entries_below schedule.known so.rest) ++ (map schedule.moment (entries_below schedule.known later) ++ map schedule.moment (left n))
        cut n =
            ap (λ some. map schedule.moment (some ++ left n)) (filter-append (λ entry. nat_lt entry.client schedule.known) so.rest later)
            ∙ map-append schedule.moment (entries_below schedule.known so.rest ++ entries_below schedule.known later) (left n)
            ∙ ap (λ front. front ++ map schedule.moment (left n)) (map-append schedule.moment (entries_below schedule.known so.rest) (entries_below schedule.known later))
            ∙ append_assoc (map schedule.moment (entries_below schedule.known so.rest)) (map schedule.moment (entries_below schedule.known later)) (map schedule.moment (left n))

    -- A PART OF ONE MOMENT, as lines that threads play beside each other, or all of a race
    pub part_on : (history later : History) (so : IsLawfulSoFar schedule history) (moment : ℕ) (left : ℕ → List Entry) → ((n : ℕ) → n < schedule.known → due_in schedule n (so.rest ++ later) ≡ entries_of n (so.rest ++ later) ++ left n)
        → never_falls 0 (map schedule.moment (entries_below schedule.known so.rest) ++ moment ∷ []) ≡ true → list_all (λ n. n == moment) (map schedule.moment (entries_below schedule.known later)) ≡ true → ((n : ℕ) → n < schedule.known → never_falls moment (map schedule.moment (left n)) ≡ true)
        → list_all (λ entry. nat_lt entry.client schedule.names) later ≡ true → (on : IsLawfulSoFar schedule (history ++ later)) × (on.left ≡ left)
    part_on history later so moment left own before one behind named =
        part_with history later so moment left own before (λ n below. one_rises moment (map schedule.moment (entries_below schedule.known later)) (map schedule.moment (left n)) one (behind n below)) named

    -- what a client is due to make stays what it was while it makes nothing
    pub due_stays : (n : ℕ) (rest later : History) → entries_of n later ≡ [] → due_in schedule n (rest ++ later) ≡ due_in schedule n rest
    due_stays n rest later none =
        ap (schedule.due n) (heard_append schedule.mailed n schedule.start rest later ∙ ap (λ heard. heard_in schedule.mailed n schedule.start rest ++ heard) (heard_none schedule.mailed n (schedule.start ++ rest) later none) ∙ append-nil (heard_in schedule.mailed n schedule.start rest))
