-- Any two lawful histories of one play have the same parts.
use Rattle.std.proofs.Common.{◌≡◌, ◌≢◌, ℕ, zero, suc, ◌+◌, ◌≤◌, ◌<◌, ◌==◌, Bool, true, false, cond, nat_lt, Option, Some, None, List, [], ◌∷◌, ◌++◌, refl, sym, ap, ◌∙◌, arith, inl, inr, ◌⊎◌}
use Rattle.std.specs.Prelude.{map}
use Rattle.std.specs.List.{list_all}
use Rattle.std.proofs.lemmas.Bool.{and_from, cases_eq}
use Rattle.std.proofs.lemmas.Bool.Decides.{nat_tests}
use Rattle.std.proofs.lemmas.List.{map-append}
use Rattle.std.proofs.lemmas.List.Elements.{filter-append}
use Rattle.std.proofs.lemmas.List.Sums.{sum_by-cons}
use Rattle.helm_core.specs.Ticks.{Tick}
use Rattle.moos_client.specs.Calls.{entries_of}
use Rattle.moos_lawful.specs.Schedules.{entries_below}
use Rattle.moos_lawful.proofs.Parts.{below_kept}
use Rattle.moos_play.specs.Lawful.{heard_of, HelmSetup, helm_number, opening, tick_entries, ticks, ticks_of, ticks_to}
use Rattle.moos_post.specs.declared.entry.Entry.{Entry}
use Rattle.moos_post.specs.History.{History}
use Rattle.play_laws.specs.Parts.{count_of_stamp, entry_but_pairs, PartsAreSame}

-- ---- counts by parts

abbrev stamps_of : List Entry → List ℕ
stamps_of entries = map (λ entry. entry.stamp) entries

-- how many of some stamps are one
abbrev times : ℕ → List ℕ → ℕ
times stamp [] = 0
times stamp (one ∷ stamps) = cond (one == stamp) 1 0 + times stamp stamps

count_more : (stamp : ℕ) (entry : Entry) (entries : List Entry) → count_of_stamp stamp (entry ∷ entries) ≡ cond (entry.stamp == stamp) 1 0 + count_of_stamp stamp entries
count_more stamp entry entries = sum_by-cons (λ (entry : Entry). cond (entry.stamp == stamp) 1 0) entry entries

count_times : (stamp : ℕ) (entries : List Entry) → count_of_stamp stamp entries ≡ times stamp (stamps_of entries)
count_times stamp [] = refl
count_times stamp (entry ∷ entries) = count_more stamp entry entries ∙ ap (λ n. cond (entry.stamp == stamp) 1 0 + n) (count_times stamp entries)

-- the count of a client more
count_below : (stamp n : ℕ) (entries : List Entry) → count_of_stamp stamp (entries_below (suc n) entries) ≡ count_of_stamp stamp (entries_below n entries) + count_of_stamp stamp (entries_of n entries)
count_below stamp n [] = refl
count_below stamp n (entry ∷ entries) = by (nat_lt entry.client (suc n)) (nat_lt entry.client n) (entry.client == n) refl refl refl (count_below stamp n entries)
  where
    below : List Entry
    below = entries_below n entries

    own : List Entry
    own = entries_of n entries

    by : (a b c : Bool) → nat_lt entry.client (suc n) ≡ a → nat_lt entry.client n ≡ b → (entry.client == n) ≡ c → count_of_stamp stamp (entries_below (suc n) entries) ≡ count_of_stamp stamp below + count_of_stamp stamp own
        → count_of_stamp stamp (cond a (entry ∷ entries_below (suc n) entries) (entries_below (suc n) entries)) ≡ count_of_stamp stamp (cond b (entry ∷ below) below) + count_of_stamp stamp (cond c (entry ∷ own) own)
    by true true false a b c is = omega (arith, is, count_more stamp entry (entries_below (suc n) entries), count_more stamp entry below)
    by true false true a b c is = omega (arith, is, count_more stamp entry (entries_below (suc n) entries), count_more stamp entry own)
    by false false false a b c is = is
    by true true true a b c is = absurd (grind (arith, nat_tests, a, b, c))
    by true false false a b c is = absurd (grind (arith, nat_tests, a, b, c))
    by false true d a b c is = absurd (grind (arith, nat_tests, a, b))
    by false false true a b c is = absurd (grind (arith, nat_tests, a, c))

-- above all clients
abbrev limit : List Entry → ℕ
limit [] = 0
limit (entry ∷ entries) = suc entry.client + limit entries

all_below : (most : ℕ) (entries : List Entry) → limit entries ≤ most → list_all (λ (entry : Entry). nat_lt entry.client most) entries ≡ true
all_below most [] less = refl
all_below most (entry ∷ entries) less =
    let here : entry.client < most = omega arith in
    and_from (nat_lt entry.client most) (list_all (λ (entry : Entry). nat_lt entry.client most) entries) (grind (arith, nat_tests)) (all_below most entries (omega arith))

none_below : (entries : List Entry) → entries_below 0 entries ≡ []
none_below [] = refl
none_below (entry ∷ entries) =
    let is : nat_lt entry.client 0 ≡ false = grind (arith, nat_tests) in
    ap (λ b. cond b (entry ∷ entries_below 0 entries) (entries_below 0 entries)) is ∙ none_below entries

-- lists whose clients' entries have the same stamps
same_below : (stamp : ℕ) (entries others : List Entry) → ((n : ℕ) → stamps_of (entries_of n entries) ≡ stamps_of (entries_of n others)) → (n : ℕ)
    → count_of_stamp stamp (entries_below n entries) ≡ count_of_stamp stamp (entries_below n others)
same_below stamp entries others same zero = ap (count_of_stamp stamp) (none_below entries ∙ sym (none_below others))
same_below stamp entries others same (suc n) =
    count_below stamp n entries
    ∙ ap (λ k. k + count_of_stamp stamp (entries_of n entries)) (same_below stamp entries others same n)
    ∙ ap (λ k. count_of_stamp stamp (entries_below n others) + k) (count_times stamp (entries_of n entries) ∙ ap (times stamp) (same n) ∙ sym (count_times stamp (entries_of n others)))
    ∙ sym (count_below stamp n others)

same_counts : (stamp : ℕ) (entries others : List Entry) → ((n : ℕ) → stamps_of (entries_of n entries) ≡ stamps_of (entries_of n others)) → count_of_stamp stamp entries ≡ count_of_stamp stamp others
same_counts stamp entries others same =
    sym (ap (count_of_stamp stamp) (below_kept most entries (all_below most entries (omega arith))))
    ∙ same_below stamp entries others same most
    ∙ ap (count_of_stamp stamp) (below_kept most others (all_below most others (omega arith)))
  where
    most : ℕ
    most = limit entries + limit others

-- ---- the parts

but_pairs : (entries : List Entry) → stamps_of (map entry_but_pairs entries) ≡ stamps_of entries
but_pairs [] = refl
but_pairs (entry ∷ entries) = ap (λ later. entry.stamp ∷ later) (but_pairs entries)

-- without what they post the ticks don't depend on what is heard
ticks_but : (helm : HelmSetup) (heard other : List Tick) (count : ℕ) → map entry_but_pairs (ticks_of helm heard count) ≡ map entry_but_pairs (ticks_of helm other count)
ticks_but helm heard other zero = refl
ticks_but helm heard other (suc count) =
    map-append entry_but_pairs (ticks_of helm heard count) (tick_entries helm heard count)
    ∙ ap (λ front. front ++ map entry_but_pairs (tick_entries helm heard count)) (ticks_but helm heard other count)
    ∙ sym (map-append entry_but_pairs (ticks_of helm other count) (tick_entries helm other count))

steered_but : (helm : Option HelmSetup) (stop : ℕ) (heard other : List Tick) → map entry_but_pairs (ticks helm stop heard) ≡ map entry_but_pairs (ticks helm stop other)
steered_but None stop heard other = refl
steered_but (Some helm) stop heard other = ticks_but helm heard other (ticks_to stop helm)

-- a client's entries behind the opening
pub behind_opening : (helm : Option HelmSetup) (client : ℕ) (history rest : History) → history ≡ opening helm ++ rest → entries_of client history ≡ entries_of client (opening helm) ++ entries_of client rest
behind_opening helm client history rest is = ap (entries_of client) is ∙ filter-append (λ (entry : Entry). entry.client == client) (opening helm) rest

pub parts_are_same : PartsAreSame
parts_are_same one two script helm names history other lawful lawful' = record {
  own = own;
  steered = steered;
  counts = λ stamp. same_counts stamp other history stamps;
}
  where
    number : ℕ
    number = helm_number script

    own : (client : ℕ) → client ≢ helm_number script → entries_of client other ≡ entries_of client history
    own client apart =
        behind_opening helm client other lawful'.rest lawful'.opened
        ∙ ap (λ rest. entries_of client (opening helm) ++ rest) (lawful'.own client apart ∙ sym (lawful.own client apart))
        ∙ sym (behind_opening helm client history lawful.rest lawful.opened)

    steered : map entry_but_pairs (entries_of (helm_number script) other) ≡ map entry_but_pairs (entries_of (helm_number script) history)
    steered =
        ap (map entry_but_pairs) (behind_opening helm number other lawful'.rest lawful'.opened)
        ∙ map-append entry_but_pairs (entries_of number (opening helm)) (entries_of number lawful'.rest)
        ∙ ap (λ rest. map entry_but_pairs (entries_of number (opening helm)) ++ rest)
        (ap (map entry_but_pairs) lawful'.steered ∙ steered_but helm script.stop (heard_of names number other) (heard_of names number history) ∙ sym (ap (map entry_but_pairs) lawful.steered))
        ∙ sym (map-append entry_but_pairs (entries_of number (opening helm)) (entries_of number lawful.rest))
        ∙ sym (ap (map entry_but_pairs) (behind_opening helm number history lawful.rest lawful.opened))

    stamps : (n : ℕ) → stamps_of (entries_of n other) ≡ stamps_of (entries_of n history)
    stamps n = by (cases_eq n (helm_number script))
      where
        by : (n ≡ helm_number script) ⊎ (n ≡ helm_number script → ⊥) → stamps_of (entries_of n other) ≡ stamps_of (entries_of n history)
        by (inr apart) = ap stamps_of (own n apart)
        by (inl same) =
            ap (λ n. stamps_of (entries_of n other)) same ∙ sym (but_pairs (entries_of number other)) ∙ ap stamps_of steered ∙ but_pairs (entries_of number history)
            ∙ ap (λ n. stamps_of (entries_of n history)) (sym same)
