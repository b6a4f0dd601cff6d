-- How a history that is lawful so far goes on: by the next entry of a known client, by any entry of a further one, and to its end.
use Rattle.std.proofs.Common.{◌≡◌, ◌≢◌, ℕ, zero, suc, ◌<◌, ◌≤◌, ◌==◌, ◌&&◌, Bool, true, false, cond, inl, inr, ◌⊎◌, List, [], ◌∷◌, ◌++◌, length, nat_le, nat_lt, refl, sym, ap, subst, ◌∙◌, arith, append-nil, append_assoc, eq-eqb, ne_eqb}
use Rattle.std.specs.Prelude.{map}
use Rattle.std.specs.List.{list_all}
use Rattle.std.proofs.lemmas.Bool.{and_from, and_parts}
use Rattle.std.proofs.lemmas.Bool.Decides.{nat_tests}
use Rattle.std.proofs.lemmas.List.{length-map, map-append}
use Rattle.std.proofs.lemmas.List.Elements.{filter-append}
use Rattle.std.proofs.lemmas.List.Folds.{list_all-append}
use Rattle.moos_post.specs.declared.entry.Entry.{Entry}
use Rattle.moos_post.specs.Delivery.{is_fetch}
use Rattle.moos_post.specs.History.{History}
use Rattle.moos_client.specs.Calls.{entries_of}
use Rattle.moos_client.specs.Hearing.{heard_in}
use Rattle.moos_lawful.specs.Schedules.{Completion, due_in, entries_below, IsLawfulFor, IsLawfulSoFar, IsPlayable, moments_with, never_falls, Schedule}
use Rattle.moos_client.proofs.Hearing.{heard_append, heard_many}
use Rattle.moos_lawful.proofs.Rising.{between_rises, end_rises, front_rises, head_rises, lower, total, total_least, total_less}

-- whether a test is true or false
either : (b : Bool) → (b ≡ true) ⊎ (b ≡ false)
either true = inl refl
either false = inr refl

-- nobody has a number below 0
none_below : (xs : History) → entries_below 0 xs ≡ []
none_below [] = refl
none_below (x ∷ xs) = ap (λ b. cond b (x ∷ entries_below 0 xs) (entries_below 0 xs)) not_less ∙ none_below xs
  where
    not_less : nat_lt x.client 0 ≡ false
    not_less = grind (arith, nat_tests)

module _ {A : Type 0} (schedule : Schedule A) (may : IsPlayable schedule)
  where
    abbrev known : ℕ
    known = schedule.known

    -- ---- the start

    -- nothing but the start
    pub begun : ((n : ℕ) → n < known → never_falls 0 (map schedule.moment (schedule.due n [])) ≡ true) → IsLawfulSoFar schedule schedule.start
    begun sorted = record {
      rest = [];
      opened = sym (append-nil schedule.start);
      left = λ n. schedule.due n [];
      own = λ n below. refl;
      moments = sorted;
      named = refl;
    }

    -- ---- one entry more

    -- it is the client's own
    own_more : (n : ℕ) (rest : History) (entry : Entry) → entry.client ≡ n → entries_of n (rest ++ entry ∷ []) ≡ entries_of n rest ++ entry ∷ []
    own_more n rest entry is = filter-append (λ entry. entry.client == n) rest (entry ∷ []) ∙ ap (λ b. entries_of n rest ++ cond b (entry ∷ []) []) (eq-eqb entry.client n is)

    -- or another's
    other_more : (n : ℕ) (rest : History) (entry : Entry) → entry.client ≢ n → entries_of n (rest ++ entry ∷ []) ≡ entries_of n rest
    other_more n rest entry other =
        filter-append (λ entry. entry.client == n) rest (entry ∷ []) ∙ ap (λ b. entries_of n rest ++ cond b (entry ∷ []) []) (ne_eqb entry.client n other) ∙ append-nil (entries_of n rest)

    -- another client hears nothing of it
    other_hears : (n : ℕ) (rest : History) (entry : Entry) → entry.client ≢ n → due_in schedule n (rest ++ entry ∷ []) ≡ due_in schedule n rest
    other_hears n rest entry other =
        ap (schedule.due n) (heard_append schedule.mailed n schedule.start rest (entry ∷ []) ∙ ap (λ b. start ++ cond (b && is_fetch entry.call) (one ∷ []) []) (ne_eqb entry.client n other) ∙ append-nil start)
      where
        start : List A
        start = heard_in schedule.mailed n schedule.start rest

        one : A
        one = schedule.mailed n entry.stamp (schedule.start ++ rest)

    -- what is due to a client that has made its next entry: if it fetched what is left may be other entries, at the same moments
    record HasMore (n : ℕ) (rest : History) (entry : Entry) (left : List Entry) : Type 0 where
      pub more : List Entry
      pub due : due_in schedule n (rest ++ entry ∷ []) ≡ entries_of n rest ++ entry ∷ more
      pub same : map schedule.moment more ≡ map schedule.moment left

    has_more : (n : ℕ) (rest : History) (entry : Entry) (left : List Entry) → due_in schedule n rest ≡ entries_of n rest ++ entry ∷ left → HasMore n rest entry left
    has_more n rest entry left due = by (is_fetch entry.call) refl
      where
        own : entry.client ≡ n
        own = may.own n (heard_in schedule.mailed n schedule.start rest) (entries_of n rest) entry left due

        start : List A
        start = heard_in schedule.mailed n schedule.start rest

        one : A
        one = schedule.mailed n entry.stamp (schedule.start ++ rest)

        now : (b : Bool) → is_fetch entry.call ≡ b → heard_in schedule.mailed n schedule.start (rest ++ entry ∷ []) ≡ start ++ cond b (one ∷ []) []
        now b e = heard_append schedule.mailed n schedule.start rest (entry ∷ []) ∙ ap (λ c. start ++ cond (c && is_fetch entry.call) (one ∷ []) []) (eq-eqb entry.client n own) ∙ ap (λ b. start ++ cond b (one ∷ []) []) e

        by : (b : Bool) → is_fetch entry.call ≡ b → HasMore n rest entry left
        by true e =
            let grown = may.grows n start one (entries_of n rest) entry left due e (sym (heard_many schedule.mailed n schedule.start rest)) in
            record { more = grown.0; due = ap (schedule.due n) (now true e) ∙ grown.1; same = grown.2 }
        by false e = record { more = left; due = ap (schedule.due n) (now false e ∙ append-nil start) ∙ due; same = refl }

    -- nothing that is left is due before this moment
    abbrev pub NoneBefore : ℕ → (ℕ → List Entry) → Type 0
    NoneBefore moment left = (n : ℕ) → n < known → never_falls moment (map schedule.moment (left n)) ≡ true

    -- THE STEP: a known client makes the next of the entries that are left for it, where none that is left is due before it.
    pub next_on : (history : History) (so : IsLawfulSoFar schedule history) (n : ℕ) (entry : Entry) (left : List Entry) → n < known → so.left n ≡ entry ∷ left → NoneBefore (schedule.moment entry) so.left
        → (on : IsLawfulSoFar schedule (history ++ entry ∷ [])) × (length (so.left n) ≡ suc (length (on.left n))) × ((m : ℕ) → m ≢ n → on.left m ≡ so.left m)
    next_on history so n entry left below is first = (
      record {
        rest = so.rest ++ entry ∷ [];
        opened = ap (λ front. front ++ entry ∷ []) so.opened ∙ append_assoc schedule.start so.rest (entry ∷ []);
        left = remains;
        own = λ m under. owned m under (either (m == n));
        moments = λ m under. timed m under (either (m == n));
        named = list_all-append (λ entry. nat_lt entry.client schedule.names) so.rest (entry ∷ [])
            ∙ and_from (list_all (λ entry. nat_lt entry.client schedule.names) so.rest) (nat_lt entry.client schedule.names && true) so.named (and_from (nat_lt entry.client schedule.names) true named refl);
      },
      ap length is ∙ ap suc (sym (long more.more left more.same) ∙ ap length (sym (remains_own))),
      λ m other. ap (λ b. cond b more.more (so.left m)) (ne_eqb m n other),
    )
      where
        due : due_in schedule n so.rest ≡ entries_of n so.rest ++ entry ∷ left
        due = so.own n below ∙ ap (λ left. entries_of n so.rest ++ left) is

        own : entry.client ≡ n
        own = may.own n (heard_in schedule.mailed n schedule.start so.rest) (entries_of n so.rest) entry left due

        more : HasMore n so.rest entry left
        more = has_more n so.rest entry left due

        remains : ℕ → List Entry
        remains m = cond (m == n) more.more (so.left m)

        remains_own : remains n ≡ more.more
        remains_own = ap (λ b. cond b more.more (so.left n)) (eq-eqb n n refl)

        long : (xs ys : List Entry) → map schedule.moment xs ≡ map schedule.moment ys → length xs ≡ length ys
        long xs ys same = sym (length-map xs schedule.moment) ∙ ap length same ∙ length-map ys schedule.moment

        named : nat_lt entry.client schedule.names ≡ true
        named = let room = may.room in grind (arith, nat_tests, own, below, room)

        owned : (m : ℕ) → m < known → ((m == n) ≡ true) ⊎ ((m == n) ≡ false) → due_in schedule m (so.rest ++ entry ∷ []) ≡ entries_of m (so.rest ++ entry ∷ []) ++ remains m
        owned m under (inl e) =
            let same : m ≡ n = grind (arith, nat_tests, e) in
            subst (λ m. due_in schedule m (so.rest ++ entry ∷ []) ≡ entries_of m (so.rest ++ entry ∷ []) ++ remains m) (sym same)
            (more.due ∙ sym (append_assoc (entries_of n so.rest) (entry ∷ []) more.more) ∙ (λ i. sym (own_more n so.rest entry own) i ++ sym remains_own i))
        owned m under (inr e) =
            let other : entry.client ≢ m = λ client. absurd (grind (arith, nat_tests, e, own, client)) in
            other_hears m so.rest entry other ∙ so.own m under
            ∙ (λ i. sym (other_more m so.rest entry other) i ++ sym (ap (λ b. cond b more.more (so.left m)) e) i)

        -- the moments so far, and that of the entry behind them
        begins : map schedule.moment (entries_below known (so.rest ++ entry ∷ [])) ≡ map schedule.moment (entries_below known so.rest) ++ schedule.moment entry ∷ []
        begins =
            let here : nat_lt entry.client known ≡ true = grind (arith, nat_tests, own, below) in
            ap (map schedule.moment) (filter-append (λ entry. nat_lt entry.client known) so.rest (entry ∷ []) ∙ ap (λ b. entries_below known so.rest ++ cond b (entry ∷ []) []) here)
            ∙ map-append schedule.moment (entries_below known so.rest) (entry ∷ [])

        some : List ℕ
        some = map schedule.moment (entries_below known so.rest)

        whole : never_falls 0 (some ++ schedule.moment entry ∷ map schedule.moment left) ≡ true
        whole = subst (λ all. never_falls 0 all ≡ true) (map-append schedule.moment (entries_below known so.rest) (entry ∷ left)) (subst (λ left. never_falls 0 (moments_with schedule so.rest left) ≡ true) is (so.moments n below))

        front : never_falls 0 (some ++ schedule.moment entry ∷ []) ≡ true
        front = front_rises 0 (some ++ schedule.moment entry ∷ []) (map schedule.moment left) (subst (λ all. never_falls 0 all ≡ true) (sym (append_assoc some (schedule.moment entry ∷ []) (map schedule.moment left))) whole)

        -- with something behind it
        behind : (later : List Entry) → never_falls (schedule.moment entry) (map schedule.moment later) ≡ true → never_falls 0 (moments_with schedule (so.rest ++ entry ∷ []) later) ≡ true
        behind later so' =
            subst (λ all. never_falls 0 all ≡ true)
            (sym (map-append schedule.moment (entries_below known (so.rest ++ entry ∷ [])) later ∙ ap (λ front. front ++ map schedule.moment later) begins ∙ append_assoc some (schedule.moment entry ∷ []) (map schedule.moment later)))
            (between_rises 0 (schedule.moment entry) some (map schedule.moment later) front so')

        timed : (m : ℕ) → m < known → ((m == n) ≡ true) ⊎ ((m == n) ≡ false) → never_falls 0 (moments_with schedule (so.rest ++ entry ∷ []) (remains m)) ≡ true
        timed m under (inl e) =
            let tail = and_parts (nat_le (schedule.moment entry) (schedule.moment entry)) (never_falls (schedule.moment entry) (map schedule.moment left)) (subst (λ left. never_falls (schedule.moment entry) (map schedule.moment left) ≡ true) is (first n below)) in
            subst (λ b. never_falls 0 (moments_with schedule (so.rest ++ entry ∷ []) (cond b more.more (so.left m))) ≡ true) (sym e)
            (behind more.more (subst (λ all. never_falls (schedule.moment entry) all ≡ true) (sym more.same) tail.1))
        timed m under (inr e) = subst (λ b. never_falls 0 (moments_with schedule (so.rest ++ entry ∷ []) (cond b more.more (so.left m))) ≡ true) (sym e) (behind (so.left m) (first m under))

    -- any entry of a further client may come
    pub further_on : (history : History) (so : IsLawfulSoFar schedule history) (entry : Entry) → known ≤ entry.client → entry.client < schedule.names → (on : IsLawfulSoFar schedule (history ++ entry ∷ [])) × (on.left ≡ so.left)
    further_on history so entry past room = (
      record {
        rest = so.rest ++ entry ∷ [];
        opened = ap (λ front. front ++ entry ∷ []) so.opened ∙ append_assoc schedule.start so.rest (entry ∷ []);
        left = so.left;
        own = λ m under. other_hears m so.rest entry (apart m under) ∙ so.own m under ∙ ap (λ own. own ++ so.left m) (sym (other_more m so.rest entry (apart m under)));
        moments = λ m under. subst (λ some. never_falls 0 (map schedule.moment (some ++ so.left m)) ≡ true) (sym same) (so.moments m under);
        named = list_all-append (λ entry. nat_lt entry.client schedule.names) so.rest (entry ∷ [])
            ∙ and_from (list_all (λ entry. nat_lt entry.client schedule.names) so.rest) (nat_lt entry.client schedule.names && true) so.named (and_from (nat_lt entry.client schedule.names) true named refl);
      },
      refl,
    )
      where
        apart : (m : ℕ) → m < known → entry.client ≢ m
        apart m under is = absurd (omega (arith, past, under, is))

        named : nat_lt entry.client schedule.names ≡ true
        named = grind (arith, nat_tests, room)

        not_below : nat_lt entry.client known ≡ false
        not_below = grind (arith, nat_tests, past)

        same : entries_below known (so.rest ++ entry ∷ []) ≡ entries_below known so.rest
        same = filter-append (λ entry. nat_lt entry.client known) so.rest (entry ∷ []) ∙ ap (λ b. entries_below known so.rest ++ cond b (entry ∷ []) []) not_below ∙ append-nil (entries_below known so.rest)

    -- ---- the end

    -- where nothing is left the history is lawful
    pub lawful_then : (history : History) (so : IsLawfulSoFar schedule history) → ((n : ℕ) → n < known → so.left n ≡ []) → IsLawfulFor schedule history
    lawful_then history so none = record {
      rest = so.rest;
      opened = so.opened;
      own = λ n below. sym (so.own n below ∙ ap (λ left. entries_of n so.rest ++ left) (none n below) ∙ append-nil (entries_of n so.rest));
      moments = moments (either (nat_lt 0 known));
      named = so.named;
    }
      where
        nobody : (xs : History) → known ≡ 0 → entries_below known xs ≡ []
        nobody xs none = ap (λ k. entries_below k xs) none ∙ none_below xs

        moments : (nat_lt 0 known ≡ true) ⊎ (nat_lt 0 known ≡ false) → never_falls 0 (moments_with schedule so.rest []) ≡ true
        moments (inl e) = let some : 0 < known = grind (arith, nat_tests, e) in subst (λ left. never_falls 0 (moments_with schedule so.rest left) ≡ true) (none 0 some) (so.moments 0 some)
        moments (inr e) = let zero : known ≡ 0 = grind (arith, nat_tests, e) in subst (λ some. never_falls 0 (map schedule.moment (some ++ [])) ≡ true) (sym (nobody so.rest zero)) refl

    -- ---- what comes next

    -- each client's left entries have moments that rise
    left_rises : (history : History) (so : IsLawfulSoFar schedule history) (n : ℕ) → n < known → never_falls 0 (map schedule.moment (so.left n)) ≡ true
    left_rises history so n below =
        end_rises 0 (map schedule.moment (entries_below known so.rest)) (map schedule.moment (so.left n))
        (subst (λ all. never_falls 0 all ≡ true) (map-append schedule.moment (entries_below known so.rest) (so.left n)) (so.moments n below))

    -- Of the clients below a number none has anything left, or one has an entry left that none of theirs is due before.
    record Next (left : ℕ → List Entry) (under : ℕ) : Type 0 where
      pub client : ℕ
      pub entry : Entry
      pub later : List Entry
      pub below : client < under
      pub is : left client ≡ entry ∷ later
      pub first : (m : ℕ) → m < under → never_falls (schedule.moment entry) (map schedule.moment (left m)) ≡ true

    choose : (left : ℕ → List Entry) (under : ℕ) → ((n : ℕ) → n < under → never_falls 0 (map schedule.moment (left n)) ≡ true) → ((n : ℕ) → n < under → left n ≡ []) ⊎ Next left under
    choose left zero sorted = inl (λ n below. absurd (omega (arith, below)))
    choose left (suc k) sorted = by (choose left k (λ n below. sorted n (omega (arith, below)))) (left k) refl
      where
        last : (n : ℕ) → n < suc k → n ≢ k → n < k
        last n below other = omega (arith, below, (λ (is : n ≡ k). other is))

        to_last : {P : ℕ → Type 0} → ((n : ℕ) → n < k → P n) → P k → (n : ℕ) → n < suc k → (n == k) ≡ true ⊎ (n == k) ≡ false → P n
        to_last {P = P} before here n below (inl e) = let same : n ≡ k = grind (arith, nat_tests, e) in subst P (sym same) here
        to_last before here n below (inr e) = before n (grind (arith, nat_tests, e, below))

        by : ((n : ℕ) → n < k → left n ≡ []) ⊎ Next left k → (mine : List Entry) → left k ≡ mine → ((n : ℕ) → n < suc k → left n ≡ []) ⊎ Next left (suc k)
        by (inl none) [] is = inl (λ n below. to_last {P = λ n. left n ≡ []} none is n below (either (n == k)))
        by (inl none) (entry ∷ later) is = inr (record {
          client = k;
          entry = entry;
          later = later;
          below = omega arith;
          is = is;
          first = λ m below. to_last {P = λ m. never_falls (schedule.moment entry) (map schedule.moment (left m)) ≡ true} (λ m less. subst (λ left. never_falls (schedule.moment entry) (map schedule.moment left) ≡ true) (sym (none m less)) refl)
              (subst (λ left. never_falls (schedule.moment entry) (map schedule.moment left) ≡ true) (sym is)
              (head_rises (schedule.moment entry) (schedule.moment entry) (map schedule.moment later) (subst (λ left. never_falls 0 (map schedule.moment left) ≡ true) is (sorted k (omega arith))) (omega arith)))
              m below (either (m == k));
        })
        by (inr next) [] is = inr (record {
          client = next.client;
          entry = next.entry;
          later = next.later;
          below = omega (arith, next.below);
          is = next.is;
          first = λ m below. to_last {P = λ m. never_falls (schedule.moment next.entry) (map schedule.moment (left m)) ≡ true} next.first (subst (λ left. never_falls (schedule.moment next.entry) (map schedule.moment left) ≡ true) (sym is) refl) m below (either (m == k));
        })
        by (inr next) (other ∷ others) is = at (either (nat_le (schedule.moment next.entry) (schedule.moment other)))
          where
            mine : never_falls 0 (schedule.moment other ∷ map schedule.moment others) ≡ true
            mine = subst (λ left. never_falls 0 (map schedule.moment left) ≡ true) is (sorted k (omega arith))

            at : (nat_le (schedule.moment next.entry) (schedule.moment other) ≡ true) ⊎ (nat_le (schedule.moment next.entry) (schedule.moment other) ≡ false) → ((n : ℕ) → n < suc k → left n ≡ []) ⊎ Next left (suc k)
            at (inl e) = inr (record {
              client = next.client;
              entry = next.entry;
              later = next.later;
              below = omega (arith, next.below);
              is = next.is;
              first = λ m below. to_last {P = λ m. never_falls (schedule.moment next.entry) (map schedule.moment (left m)) ≡ true} next.first
                  (subst (λ left. never_falls (schedule.moment next.entry) (map schedule.moment left) ≡ true) (sym is) (head_rises (schedule.moment next.entry) (schedule.moment other) (map schedule.moment others) mine (grind (arith, nat_tests, e)))) m below (either (m == k));
            })
            at (inr e) = inr (record {
              client = k;
              entry = other;
              later = others;
              below = omega arith;
              is = is;
              first = λ m below. to_last {P = λ m. never_falls (schedule.moment other) (map schedule.moment (left m)) ≡ true}
                  (λ m less. lower (schedule.moment other) (schedule.moment next.entry) (map schedule.moment (left m)) (grind (arith, nat_tests, e)) (next.first m less))
                  (subst (λ left. never_falls (schedule.moment other) (map schedule.moment left) ≡ true) (sym is) (head_rises (schedule.moment other) (schedule.moment other) (map schedule.moment others) mine (omega arith))) m below (either (m == k));
            })

    -- ---- the completion

    -- how many entries are left
    abbrev pub left_in : (history : History) → IsLawfulSoFar schedule history → ℕ
    left_in history so = total (λ n. length (so.left n)) known

    -- one entry more, and then the rest
    one_more : (history : History) (entry : Entry) → nat_lt entry.client known ≡ true → Completion schedule (history ++ entry ∷ []) → Completion schedule history
    one_more history entry own rest = record {
      rest = entry ∷ rest.rest;
      known_alone = and_from (nat_lt entry.client known) (list_all (λ entry. nat_lt entry.client known) rest.rest) own rest.known_alone;
      lawful = subst (IsLawfulFor schedule) (append_assoc history (entry ∷ []) rest.rest) rest.lawful;
    }

    -- nothing is left
    done : (history : History) (so : IsLawfulSoFar schedule history) → ((n : ℕ) → n < known → so.left n ≡ []) → Completion schedule history
    done history so none = record { rest = []; known_alone = refl; lawful = subst (IsLawfulFor schedule) (sym (append-nil history)) (lawful_then history so none) }

    completed : (fuel : ℕ) (history : History) (so : IsLawfulSoFar schedule history) → left_in history so ≡ fuel → Completion schedule history
    completed zero history so all = by (choose so.left known (left_rises history so))
      where
        by : ((n : ℕ) → n < known → so.left n ≡ []) ⊎ Next so.left known → Completion schedule history
        by (inl none) = done history so none
        by (inr next) = absurd (omega (arith, all, total_least (λ n. length (so.left n)) next.client known next.below, ap length next.is))
    completed (suc fuel) history so all = by (choose so.left known (left_rises history so)) (completed fuel)
      where
        by : ((n : ℕ) → n < known → so.left n ≡ []) ⊎ Next so.left known → ((history : History) (so : IsLawfulSoFar schedule history) → left_in history so ≡ fuel → Completion schedule history) → Completion schedule history
        by (inl none) rest = done history so none
        by (inr next) rest =
            let on = next_on history so next.client next.entry next.later next.below next.is next.first in
            let own : next.entry.client ≡ next.client = may.own next.client (heard_in schedule.mailed next.client schedule.start so.rest) (entries_of next.client so.rest) next.entry next.later (so.own next.client next.below ∙ ap (λ left. entries_of next.client so.rest ++ left) next.is) in
            let below = next.below in
            let less = total_less (λ n. length (so.left n)) (λ n. length (on.0.left n)) next.client known next.below on.1 (λ m under other. ap length (sym (on.2 m other))) in
            one_more history next.entry (grind (arith, nat_tests, own, below)) (rest (history ++ next.entry ∷ []) on.0 (omega (arith, all, less)))

    -- A HISTORY THAT IS LAWFUL SO FAR CAN BE COMPLETED.
    pub completion : (history : History) → IsLawfulSoFar schedule history → Completion schedule history
    completion history so = completed (left_in history so) history so refl
