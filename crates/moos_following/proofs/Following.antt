-- The step, both ways: an entry that may come next keeps a history lawful so far; and each entry of a lawful history may come next
-- behind those before it.
use Rattle.std.proofs.Common.{◌≡◌, ℕ, ◌<◌, ◌≤◌, ◌==◌, Bool, true, false, cond, List, [], ◌∷◌, ◌++◌, length, nat_le, nat_lt, refl, sym, ap, subst, ◌∙◌, arith, append-nil, append_assoc, eq-eqb}
use Rattle.std.specs.Prelude.{map}
use Rattle.std.proofs.lemmas.Bool.{and_from, and_parts}
use Rattle.std.proofs.lemmas.Bool.Decides.{nat_tests}
use Rattle.std.proofs.lemmas.List.{append_cancel_left, map-append}
use Rattle.std.proofs.lemmas.List.Elements.{filter-append}
use Rattle.moos_post.specs.declared.entry.Entry.{Entry}
use Rattle.moos_post.specs.History.{History}
use Rattle.moos_client.specs.Calls.{entries_of}
use Rattle.moos_client.specs.Hearing.{fetches, heard_in}
use Rattle.moos_client.proofs.Hearing.{heard_append, heard_many}
use Rattle.moos_lawful.specs.Schedules.{due_in, entries_below, IsLawfulFor, IsLawfulSoFar, IsPlayable, never_falls, Schedule}
use Rattle.moos_following.specs.Following.{IsStepwise, MayFollow}
use Rattle.moos_lawful.proofs.Going.{next_on}
use Rattle.moos_lawful.proofs.Rising.{head_rises, lower, suffix_rises, true_le}

module _ {A : Type 0} (schedule : Schedule A)
  where
    abbrev known : ℕ
    known = schedule.known

    -- the entries of one known client rise if those of all known clients do
    sub_rises : (m low : ℕ) (xs : History) → m < known → never_falls low (map schedule.moment (entries_below known xs)) ≡ true → never_falls low (map schedule.moment (entries_of m xs)) ≡ true
    sub_rises m low [] below h = refl
    sub_rises m low (x ∷ xs) below h = by (x.client == m) (nat_lt x.client known) refl refl h (λ low. sub_rises m low xs below)
      where
        by : (b c : Bool) → (x.client == m) ≡ b → nat_lt x.client known ≡ c → never_falls low (map schedule.moment (cond c (x ∷ entries_below known xs) (entries_below known xs))) ≡ true
            → ((low : ℕ) → never_falls low (map schedule.moment (entries_below known xs)) ≡ true → never_falls low (map schedule.moment (entries_of m xs)) ≡ true)
            → never_falls low (map schedule.moment (cond b (x ∷ entries_of m xs) (entries_of m xs))) ≡ true
        by true true own here h rest =
            let parts = and_parts (nat_le low (schedule.moment x)) (never_falls (schedule.moment x) (map schedule.moment (entries_below known xs))) h in
            and_from (nat_le low (schedule.moment x)) (never_falls (schedule.moment x) (map schedule.moment (entries_of m xs))) parts.0 (rest (schedule.moment x) parts.1)
        by true false own here h rest = absurd (grind (arith, nat_tests, own, here, below))
        by false true own here h rest =
            let parts = and_parts (nat_le low (schedule.moment x)) (never_falls (schedule.moment x) (map schedule.moment (entries_below known xs))) h in
            rest low (lower low (schedule.moment x) (map schedule.moment (entries_below known xs)) (true_le low (schedule.moment x) parts.0) parts.1)
        by false false own here h rest = rest low h

    -- what a known client is due to do over a lawful history, cut at an entry
    module _ (settled : IsStepwise schedule) (history more : History) (so : IsLawfulSoFar schedule history) (entry : Entry) (below : entry.client < known) (lawful : IsLawfulFor schedule (history ++ entry ∷ more))
      where
        abbrev n : ℕ
        n = entry.client

        abbrev rest : History
        rest = so.rest

        abbrev behind : History
        behind = entry ∷ more

        abbrev heard : ℕ → List A
        heard m = heard_in schedule.mailed m schedule.start rest

        abbrev hears : ℕ → List A
        hears m = heard_in schedule.mailed m (schedule.start ++ rest) behind

        whole : lawful.rest ≡ rest ++ behind
        whole = append_cancel_left schedule.start lawful.rest (rest ++ behind) (sym lawful.opened ∙ ap (λ front. front ++ behind) so.opened ∙ append_assoc schedule.start rest behind)

        cut : (m : ℕ) → m < known → schedule.due m (heard m ++ hears m) ≡ entries_of m rest ++ entries_of m behind
        cut m under =
            ap (schedule.due m) (sym (heard_append schedule.mailed m schedule.start rest behind))
            ∙ ap (λ rest. due_in schedule m rest) (sym whole) ∙ sym (lawful.own m under) ∙ ap (entries_of m) whole
            ∙ filter-append (λ entry. entry.client == m) rest behind

        own_first : entries_of n behind ≡ entry ∷ entries_of n more
        own_first = ap (λ b. cond b (entry ∷ entries_of n more) (entries_of n more)) (eq-eqb n n refl)

        enough : fetches (entries_of n rest) ≤ length (heard n)
        enough = omega (arith, heard_many schedule.mailed n schedule.start rest)

        next : (later : List Entry) × (so.left n ≡ entry ∷ later)
        next =
            let found = settled.next n (heard n) (hears n) (entries_of n rest) entry (entries_of n more) (cut n below ∙ ap (λ end. entries_of n rest ++ end) own_first) enough in
            (found.0, append_cancel_left (entries_of n rest) (so.left n) (entry ∷ found.0) (sym (so.own n below) ∙ found.1))

        -- what is left for a known client is due when its entries come
        same : (m : ℕ) → m < known → map schedule.moment (so.left m) ≡ map schedule.moment (entries_of m behind)
        same m under =
            append_cancel_left (map schedule.moment (entries_of m rest)) (map schedule.moment (so.left m)) (map schedule.moment (entries_of m behind))
            (sym (map-append schedule.moment (entries_of m rest) (so.left m)) ∙ ap (map schedule.moment) (sym (so.own m under)) ∙ settled.moments m (heard m) (heard m ++ hears m)
            ∙ ap (map schedule.moment) (cut m under) ∙ map-append schedule.moment (entries_of m rest) (entries_of m behind))

        -- and from the entry on these don't fall
        rises : never_falls (schedule.moment entry) (map schedule.moment (entries_below known behind)) ≡ true
        rises =
            subst (λ some. never_falls (schedule.moment entry) (map schedule.moment some) ≡ true) (sym first_below)
            (head_rises (schedule.moment entry) (schedule.moment entry) (map schedule.moment (entries_below known more)) tail (omega arith))
          where
            here : nat_lt entry.client known ≡ true
            here = grind (arith, nat_tests, below)

            first_below : entries_below known behind ≡ entry ∷ entries_below known more
            first_below = ap (λ b. cond b (entry ∷ entries_below known more) (entries_below known more)) here

            all : never_falls 0 (map schedule.moment (entries_below known rest) ++ map schedule.moment (entries_below known behind)) ≡ true
            all = subst (λ all. never_falls 0 all ≡ true)
                (ap (map schedule.moment) (append-nil (entries_below known lawful.rest) ∙ ap (entries_below known) whole ∙ filter-append (λ entry. nat_lt entry.client known) rest behind)
                ∙ map-append schedule.moment (entries_below known rest) (entries_below known behind))
                lawful.moments

            tail : never_falls 0 (schedule.moment entry ∷ map schedule.moment (entries_below known more)) ≡ true
            tail = subst (λ some. never_falls 0 (map schedule.moment some) ≡ true) first_below (suffix_rises 0 (map schedule.moment (entries_below known rest)) (map schedule.moment (entries_below known behind)) all)

        -- EACH ENTRY OF A LAWFUL HISTORY MAY COME NEXT behind those before it.
        pub must_follow : MayFollow schedule history so entry
        must_follow = record {
          known = below;
          later = next.0;
          next = next.1;
          first = λ m under. subst (λ moments. never_falls (schedule.moment entry) moments ≡ true) (sym (same m under)) (sub_rises m (schedule.moment entry) behind under rises);
        }

-- AN ENTRY THAT MAY COME NEXT keeps a history lawful so far.
pub follows_on : {A : Type 0} (schedule : Schedule A) → IsPlayable schedule → (history : History) (so : IsLawfulSoFar schedule history) (entry : Entry) → MayFollow schedule history so entry → IsLawfulSoFar schedule (history ++ entry ∷ [])
follows_on schedule may history so entry follows = (next_on schedule may history so entry.client entry follows.later follows.known follows.next follows.first).0
