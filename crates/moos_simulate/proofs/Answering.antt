-- Clients that answer behind the helm: what a play makes of its own clients' parts changes nothing of theirs, and then each fetches and
-- posts in its turn.
use Rattle.std.proofs.Common.{◌≡◌, ◌≢◌, ℕ, zero, suc, ◌+◌, ◌-◌, ◌*◌, ◌/◌, ◌<◌, ◌≤◌, ◌==◌, ◌⊎◌, inl, inr, true, false, cond, List, [], ◌∷◌, ◌++◌, length, nat_le, nat_lt, refl, sym, ap, subst, ◌∙◌, arith, eq-eqb, ne_eqb}
use Rattle.std.specs.Prelude.{map}
use Rattle.std.specs.List.{list_all}
use Rattle.std.proofs.lemmas.Bool.{and_from, and_parts}
use Rattle.std.proofs.lemmas.Bool.Decides.{nat_tests}
use Rattle.std.proofs.lemmas.List.{map-append}
use Rattle.std.proofs.Math.Nat.{mul-le-mul, mul-suc}
use Rattle.moos_post.specs.declared.entry.Call.{Call}
use Rattle.moos_post.specs.declared.entry.Call.TheVariants.{Post as Posts, Fetch}
use Rattle.moos_post.specs.declared.entry.Entry.{Entry}
use Rattle.moos_post.specs.History.{History}
use Rattle.moos_client.specs.Calls.{entries_of, entry_of}
use Rattle.moos_client.specs.Hearing.{Mailed}
use Rattle.moos_lawful.specs.Answering.{Answerer, answers_of, turns_from}
use Rattle.moos_lawful.specs.Schedules.{clients_below, entries_below, IsLawfulSoFar, IsPlayable, never_falls, Schedule}
use Rattle.moos_lawful.proofs.Going.{NoneBefore}
use Rattle.moos_lawful.proofs.Parts.{either, none_of}
use Rattle.moos_lawful.proofs.Playable.{is_playable}
use Rattle.moos_lawful.proofs.Rising.{end_rises}
use Rattle.moos_lawful.proofs.Stepping.{turns_rise}
use Rattle.moos_simulate.proofs.Beside.{all_rise, long, part_widened, short}
use Rattle.moos_simulate.proofs.Turning.{fetch_on, HasFetched, post_on, stays_turned}
use Rattle.moos_simulate.specs.Sailing.{HasMadeTurns, HaveMadeTurns, hears, IsNumbered}
use Rattle.moos_simulate.specs.Turns.{turns_made}
use Rattle.script_reader.specs.declared.script.Order.TheVariants.{Stamp}

-- ---- numbers of clients

-- the numbers begin with the first, and each client has one
pub number_within : {A : Type 0} (first : ℕ) (answerers : List (Answerer A)) (n : ℕ) (answerer : Answerer A) → IsNumbered first answerers n answerer → (first ≤ n) × (n < first + length answerers)
number_within first [] n answerer is = absurd is
number_within first (one ∷ others) n answerer (inl here) = let same = here.0 in (omega (arith, same), omega (arith, same))
number_within first (one ∷ others) n answerer (inr later) = let within = number_within (suc first) others n answerer later in (omega (arith, within.0), omega (arith, within.1))

pub numbered : {A : Type 0} (first : ℕ) (answerers : List (Answerer A)) (n : ℕ) → first ≤ n → n < first + length answerers → (answerer : Answerer A) × IsNumbered first answerers n answerer
numbered first [] n low high = absurd (omega (arith, low, high))
numbered {A = A} first (one ∷ others) n low high = by (either (first == n)) (λ past. numbered (suc first) others n past (omega (arith, high)))
  where
    by : ((first == n) ≡ true) ⊎ ((first == n) ≡ false) → (suc first ≤ n → (answerer : Answerer A) × IsNumbered (suc first) others n answerer) → (answerer : Answerer A) × IsNumbered first (one ∷ others) n answerer
    by (inl e) behind = let here : first ≡ n = grind (arith, nat_tests, e) in (one, inl (here, refl))
    by (inr e) behind = let past : suc first ≤ n = grind (arith, nat_tests, e, low) in let later = behind past in (later.0, inr later.1)

-- and no two have the same
sole_number : {A : Type 0} (first : ℕ) (answerers : List (Answerer A)) (n : ℕ) (a b : Answerer A) → IsNumbered first answerers n a → IsNumbered first answerers n b → a ≡ b
sole_number first [] n a b one other = absurd one
sole_number first (answerer ∷ others) n a b (inl here) (inl there) = sym here.1 ∙ there.1
sole_number first (answerer ∷ others) n a b (inl here) (inr later) = let past = (number_within (suc first) others n b later).0 in let same = here.0 in absurd (omega (arith, past, same))
sole_number first (answerer ∷ others) n a b (inr later) (inl there) = let past = (number_within (suc first) others n a later).0 in let same = there.0 in absurd (omega (arith, past, same))
sole_number first (answerer ∷ others) n a b (inr one) (inr other) = sole_number (suc first) others n a b one other

-- what the client of a number is due to do
due_numbered : {A : Type 0} (period ticks first : ℕ) (answerers : List (Answerer A)) (n : ℕ) (answerer : Answerer A) → IsNumbered first answerers n answerer → (heard : List A) → answers_of period ticks first answerers n heard ≡ turns_from answerer n period heard 0 ticks
due_numbered period ticks first [] n answerer is heard = absurd is
due_numbered period ticks first (one ∷ others) n answerer (inl here) heard =
    ap (λ c. cond c (turns_from one n period heard 0 ticks) (answers_of period ticks (suc first) others n heard)) (eq-eqb first n here.0) ∙ ap (λ one. turns_from one n period heard 0 ticks) here.1
due_numbered period ticks first (one ∷ others) n answerer (inr later) heard =
    let past = (number_within (suc first) others n answerer later).0 in
    ap (λ c. cond c (turns_from one n period heard 0 ticks) (answers_of period ticks (suc first) others n heard)) (ne_eqb first n (λ is. absurd (omega (arith, is, past)))) ∙ due_numbered period ticks (suc first) others n answerer later heard

-- ---- how many turns they have made

made_before : (count next n : ℕ) → n < next → turns_made count next n ≡ suc count
made_before count next n below = let less : nat_lt n next ≡ true = grind (arith, nat_tests, below) in ap (λ b. cond b (suc count) count) less

pub made_from : (count next n : ℕ) → next ≤ n → turns_made count next n ≡ count
made_from count next n past = let less : nat_lt n next ≡ false = grind (arith, nat_tests, past) in ap (λ b. cond b (suc count) count) less

-- but for the client itself they are as many where the next one is to answer
made_other : (count n m : ℕ) → m ≢ n → turns_made count n m ≡ turns_made count (suc n) m
made_other count n m other = by (either (nat_lt m n))
  where
    by : (nat_lt m n ≡ true) ⊎ (nat_lt m n ≡ false) → turns_made count n m ≡ turns_made count (suc n) m
    by (inl e) = let below : m < n = grind (arith, nat_tests, e) in made_before count n m below ∙ sym (made_before count (suc n) m (omega (arith, below)))
    by (inr e) =
        let apart : (m == n) ≡ false = ne_eqb m n other in
        let past : suc n ≤ m = grind (arith, nat_tests, e, apart) in
        made_from count n m (omega (arith, past)) ∙ sym (made_from count (suc n) m past)

module _ {A : Type 0} (lines : List Entry) (clients stop period : ℕ) (first : Answerer A) (others : List (Answerer A)) (names : ℕ) (mailed : Mailed A) (room : clients + suc (length others) ≤ names) (some : 1 ≤ period)
  where
    abbrev pub whole : Schedule A
    whole = long lines clients stop period first others names mailed room

    pub may : IsPlayable whole
    may = is_playable Stamp lines clients stop period (first ∷ others) names mailed room

    abbrev pub ticks : ℕ
    ticks = suc (stop / period)

    -- how many moments a stamp has
    abbrev each : ℕ
    each = suc (suc (length others))

    factor : each ≤ each
    factor = omega arith

    -- one of the others has this number
    abbrev pub IsOther : ℕ → Answerer A → Type 0
    IsOther n answerer = IsNumbered (suc clients) others n answerer

    -- what it is due to do
    pub due_other : (n : ℕ) (answerer : Answerer A) → IsOther n answerer → (heard : List A) → whole.due n heard ≡ turns_from answerer n period heard 0 ticks
    due_other n answerer is heard =
        ap (λ c. cond c (entries_of n lines) (answers_of period ticks clients (first ∷ others) n heard)) past
        ∙ ap (λ c. cond c (turns_from first n period heard 0 ticks) (answers_of period ticks (suc clients) others n heard)) other
        ∙ due_numbered period ticks (suc clients) others n answerer is heard
      where
        low : suc clients ≤ n
        low = (number_within (suc clients) others n answerer is).0

        past : nat_lt n clients ≡ false
        past = grind (arith, nat_tests, low)

        other : (clients == n) ≡ false
        other = ne_eqb clients n (λ is. absurd (omega (arith, is, low)))

    -- each has made as many turns as is told of its number
    abbrev pub Stand : (made : ℕ → ℕ) (history : History) → IsLawfulSoFar whole history → Type 0
    Stand made history so = HaveMadeTurns whole others (suc clients) period ticks made history so

    known_other : (n : ℕ) (answerer : Answerer A) → IsOther n answerer → n < whole.known
    known_other n answerer is = let high = (number_within (suc clients) others n answerer is).1 in omega (arith, high)

    -- ---- a part of the play's own clients

    pub none_other : (n : ℕ) (later : History) → clients + 1 ≤ n → clients_below (clients + 1) later ≡ true → entries_of n later ≡ []
    none_other n later past below = none_of (clients + 1) n later past below

    pub part_on : (s count : ℕ) (history later : History) (so : IsLawfulSoFar whole history) → IsLawfulSoFar (short lines clients stop period first others names mailed room) (history ++ later) → Stand (λ n. count) history so → list_all (λ entry. nat_lt entry.stamp s) so.rest ≡ true
        → clients_below (clients + 1) later ≡ true → list_all (λ entry. entry.stamp == s) later ≡ true → (count < ticks → s ≤ count * period) → IsLawfulSoFar whole (history ++ later)
    part_on s count history later so now stand early below one due =
        part_widened lines clients stop period first others names mailed room s history later so now early below one further
      where
        turns : (answerer : Answerer A) (n : ℕ) (heard : List A) → clients + 1 ≤ n → (left : ℕ) → left ≡ ticks - count → never_falls (each * s + 1) (map whole.moment (turns_from answerer n period heard count left)) ≡ true
        turns answerer n heard past zero none = refl
        turns answerer n heard past (suc left) some =
            turns_rise answerer clients (suc (length others)) n period heard count (suc left) (each * s + 1) (low (due (omega (arith, some))))
          where
            low : s ≤ count * period → each * s + 1 ≤ each * (count * period) + (suc n - clients)
            low less = let raised : each * s ≤ each * (count * period) = mul-le-mul factor less in omega (arith, raised, past)

        further : (n : ℕ) → clients + 1 ≤ n → n < whole.known → never_falls (each * s + 1) (map whole.moment (so.left n)) ≡ true
        further n past known =
            let found = numbered (suc clients) others n (omega (arith, past)) (omega (arith, known)) in
            subst (λ left. never_falls (each * s + 1) (map whole.moment left) ≡ true) (sym (stand n found.0 found.1).left) (turns found.0 n (hears whole n so.rest) past (ticks - count) refl)

    -- what they have done stays the same
    pub part_stands : (made : ℕ → ℕ) (history later : History) (so : IsLawfulSoFar whole history) (on : IsLawfulSoFar whole (history ++ later)) → clients_below (clients + 1) later ≡ true → Stand made history so → Stand made (history ++ later) on
    part_stands made history later so on below stand n answerer is =
        let low = (number_within (suc clients) others n answerer is).0 in
        stays_turned whole may answerer n period ticks (due_other n answerer is) (made n) history later so on (known_other n answerer is) (none_other n later (omega (arith, low)) below) (stand n answerer is)

    -- ---- their turns

    -- nothing that is left for the play's own clients is of this stamp or before
    abbrev pub IsLate : ℕ → (ℕ → List Entry) → Type 0
    IsLate s left = (n : ℕ) → n < clients + 1 → list_all (λ entry. nat_le (suc s) entry.stamp) (left n) ≡ true

    late_on : (s k : ℕ) (old new : ℕ → List Entry) → clients + 1 ≤ k → ((m : ℕ) → m ≢ k → new m ≡ old m) → IsLate s old → IsLate s new
    late_on s k old new past same late n below = subst (λ left. list_all (λ entry. nat_le (suc s) entry.stamp) left ≡ true) (sym (same n (λ is. absurd (omega (arith, is, past, below))))) (late n below)

    late_keys : (s m : ℕ) (left : List Entry) → m ≤ each * s + each → list_all (λ entry. nat_le (suc s) entry.stamp) left ≡ true → list_all (λ entry. nat_le m (whole.moment entry)) left ≡ true
    late_keys s m [] low late = refl
    late_keys s m (x ∷ left) low late =
        let tests = and_parts (nat_le (suc s) x.stamp) (list_all (λ entry. nat_le (suc s) entry.stamp) left) late in
        let test = tests.0 in
        let later : suc s ≤ x.stamp = grind (arith, nat_tests, test) in
        let raised : each * suc s ≤ each * x.stamp = mul-le-mul factor later in
        let above : m ≤ whole.moment x = omega (arith, low, raised, mul-suc each s) in
        and_from (nat_le m (whole.moment x)) (list_all (λ entry. nat_le m (whole.moment entry)) left) (grind (arith, nat_tests, above)) (late_keys s m left low tests.1)

    own_rise : (history : History) (so : IsLawfulSoFar whole history) (n : ℕ) → n < whole.known → never_falls 0 (map whole.moment (so.left n)) ≡ true
    own_rise history so n below =
        end_rises 0 (map whole.moment (entries_below whole.known so.rest)) (map whole.moment (so.left n))
        (subst (λ all. never_falls 0 all ≡ true) (map-append whole.moment (entries_below whole.known so.rest) (so.left n)) (so.moments n below))

    -- no entry that is left comes before a moment of this stamp
    none_before : (s m : ℕ) (history : History) (so : IsLawfulSoFar whole history) → m ≤ each * s + each → IsLate s so.left
        → ((n : ℕ) (answerer : Answerer A) → IsOther n answerer → never_falls m (map whole.moment (so.left n)) ≡ true) → NoneBefore whole may m so.left
    none_before s m history so low late rising n below = by (either (nat_lt n (clients + 1)))
      where
        by : (nat_lt n (clients + 1) ≡ true) ⊎ (nat_lt n (clients + 1) ≡ false) → never_falls m (map whole.moment (so.left n)) ≡ true
        by (inl e) =
            let here : n < clients + 1 = grind (arith, nat_tests, e) in
            all_rise whole.moment m (so.left n) (late_keys s m (so.left n) low (late n here)) (own_rise history so n below)
        by (inr e) =
            let past : clients + 1 ≤ n = grind (arith, nat_tests, e) in
            let found = numbered (suc clients) others n (omega (arith, past)) (omega (arith, below)) in
            rising n found.0 found.1

    -- the moment of a client's turn
    abbrev moment_at : ℕ → ℕ → ℕ
    moment_at count n = each * (count * period) + (suc n - clients)

    moment_low : (count n : ℕ) (answerer : Answerer A) → IsOther n answerer → moment_at count n ≤ each * (count * period) + each
    moment_low count n answerer is = let high = (number_within (suc clients) others n answerer is).1 in omega (arith, high)

    -- the next turns of those that have answered come behind it, and so do this tick's turns of those that haven't
    next_turn : (count n m : ℕ) → n < suc clients + length others → m < n → moment_at count n ≤ moment_at (suc count) m
    next_turn count n m high below =
        let later : suc (count * period) ≤ suc count * period = omega (arith, some) in
        let raised : each * suc (count * period) ≤ each * (suc count * period) = mul-le-mul factor later in
        omega (arith, raised, mul-suc each (count * period), high)

    turn_behind : (count n m : ℕ) → n < suc clients + length others → moment_at count n ≤ moment_at (turns_made count n m) m
    turn_behind count n m high = by (either (nat_lt m n))
      where
        by : (nat_lt m n ≡ true) ⊎ (nat_lt m n ≡ false) → moment_at count n ≤ moment_at (turns_made count n m) m
        by (inl e) =
            let below : m < n = grind (arith, nat_tests, e) in
            subst (λ made. moment_at count n ≤ moment_at made m) (sym (made_before count n m below)) (next_turn count n m high below)
        by (inr e) =
            let past : n ≤ m = grind (arith, nat_tests, e) in
            subst (λ made. moment_at count n ≤ moment_at made m) (sym (made_from count n m past)) (omega (arith, past))

    -- turns that are left rise from a moment that isn't above the first, and with a post of the turn before them too
    turned_rise : (answerer : Answerer A) (n i m : ℕ) (heard : List A) (left : List Entry) → left ≡ turns_from answerer n period heard i (ticks - i) → m ≤ moment_at i n → never_falls m (map whole.moment left) ≡ true
    turned_rise answerer n i m heard left is low = subst (λ left. never_falls m (map whole.moment left) ≡ true) (sym is) (turns_rise answerer clients (suc (length others)) n period heard i (ticks - i) m low)

    posted_rise : (answerer : Answerer A) (n i m : ℕ) (call : Call) (heard : List A) (left : List Entry) → left ≡ entry_of n (i * period) call ∷ turns_from answerer n period heard (suc i) (ticks - suc i) → m ≤ moment_at i n → never_falls m (map whole.moment left) ≡ true
    posted_rise answerer n i m call heard left is low =
        subst (λ left. never_falls m (map whole.moment left) ≡ true) (sym is)
        (and_from (nat_le m (moment_at i n)) (never_falls (moment_at i n) (map whole.moment (turns_from answerer n period heard (suc i) (ticks - suc i)))) (grind (arith, nat_tests, low))
        (turns_rise answerer clients (suc (length others)) n period heard (suc i) (ticks - suc i) (moment_at i n) later))
      where
        later : moment_at i n ≤ moment_at (suc i) n
        later =
            let more : i * period ≤ suc i * period = omega arith in
            let raised : each * (i * period) ≤ each * (suc i * period) = mul-le-mul factor more in
            omega (arith, raised)

    -- none of one client's entries is another's
    apart : (n m stamp : ℕ) (call : Call) → n ≢ m → entries_of m (entry_of n stamp call ∷ []) ≡ []
    apart n m stamp call other = ap (λ c. cond c (entry_of n stamp call ∷ []) []) (ne_eqb n m other)

    -- ---- one client's turn, where those below it have answered this tick

    module _ (count n : ℕ) (answerer : Answerer A) (is : IsOther n answerer)
      where
        abbrev pub fetching : Entry
        fetching = entry_of n (count * period) Fetch

        abbrev pub saying : History → Entry
        saying rest = entry_of n (count * period) (Posts (answerer.says (hears whole n rest)))

        low : suc clients ≤ n
        low = (number_within (suc clients) others n answerer is).0

        high : n < suc clients + length others
        high = (number_within (suc clients) others n answerer is).1

        known : n < whole.known
        known = known_other n answerer is

        -- it has fetched
        pub record IsHearing (history : History) (so : IsLawfulSoFar whole history) : Type 0 where
          pub own : HasFetched whole may answerer n period ticks (due_other n answerer is) count history so
          pub rest : (m : ℕ) (other : Answerer A) → IsOther m other → m ≢ n → HasMadeTurns whole other m period ticks (turns_made count n m) history so
          pub late : IsLate (count * period) so.left

        pub turn_fetch : (history : History) (so : IsLawfulSoFar whole history) → Stand (turns_made count n) history so → count < ticks → IsLate (count * period) so.left
            → (on : IsLawfulSoFar whole (history ++ fetching ∷ [])) × IsHearing (history ++ fetching ∷ []) on
        turn_fetch history so stand more late = (
          made.0,
          record {
            own = made.1;
            rest = λ m other at apart_from. stays_turned whole may other m period ticks (due_other m other at) (turns_made count n m) history (fetching ∷ []) so made.0 (known_other m other at)
                (apart n m (count * period) Fetch (λ same. apart_from (sym same))) (stand m other at);
            late = late_on (count * period) n so.left made.0.left (omega (arith, low)) made.2 late;
          },
        )
          where
            own : HasMadeTurns whole answerer n period ticks count history so
            own = subst (λ made. HasMadeTurns whole answerer n period ticks made history so) (made_from count n n (omega arith)) (stand n answerer is)

            first_is : NoneBefore whole may (moment_at count n) so.left
            first_is = none_before (count * period) (moment_at count n) history so (moment_low count n answerer is) late
                (λ m other at. turned_rise other m (turns_made count n m) (moment_at count n) (hears whole m so.rest) (so.left m) (stand m other at).left (turn_behind count n m high))

            made : (on : IsLawfulSoFar whole (history ++ fetching ∷ [])) × HasFetched whole may answerer n period ticks (due_other n answerer is) count (history ++ fetching ∷ []) on × ((m : ℕ) → m ≢ n → on.left m ≡ so.left m)
            made = fetch_on whole may answerer n period ticks (due_other n answerer is) count history so known own more first_is

        -- and has posted
        pub turn_post : (history : History) (so : IsLawfulSoFar whole history) → IsHearing history so
            → (on : IsLawfulSoFar whole (history ++ saying so.rest ∷ [])) × Stand (turns_made count (suc n)) (history ++ saying so.rest ∷ []) on × IsLate (count * period) on.left
        turn_post history so heard = (made.0, stand, late_on (count * period) n so.left made.0.left (omega (arith, low)) made.2 heard.late)
          where
            call : Call
            call = Posts (answerer.says (hears whole n so.rest))

            rising : (m : ℕ) (other : Answerer A) → IsOther m other → ((m == n) ≡ true) ⊎ ((m == n) ≡ false) → never_falls (moment_at count n) (map whole.moment (so.left m)) ≡ true
            rising m other at (inl e) =
                let same : m ≡ n = grind (arith, nat_tests, e) in
                subst (λ m. never_falls (moment_at count n) (map whole.moment (so.left m)) ≡ true) (sym same)
                (posted_rise answerer n count (moment_at count n) call (hears whole n so.rest) (so.left n) heard.own.left (omega arith))
            rising m other at (inr e) =
                turned_rise other m (turns_made count n m) (moment_at count n) (hears whole m so.rest) (so.left m) (heard.rest m other at (λ same. absurd (grind (arith, nat_tests, e, same)))).left (turn_behind count n m high)

            first_is : NoneBefore whole may (moment_at count n) so.left
            first_is = none_before (count * period) (moment_at count n) history so (moment_low count n answerer is) heard.late (λ m other at. rising m other at (either (m == n)))

            made : (on : IsLawfulSoFar whole (history ++ saying so.rest ∷ [])) × HasMadeTurns whole answerer n period ticks (suc count) (history ++ saying so.rest ∷ []) on × ((m : ℕ) → m ≢ n → on.left m ≡ so.left m)
            made = post_on whole may answerer n period ticks (due_other n answerer is) count history so known heard.own first_is

            stand : Stand (turns_made count (suc n)) (history ++ saying so.rest ∷ []) made.0
            stand m other at = by (either (m == n))
              where
                by : ((m == n) ≡ true) ⊎ ((m == n) ≡ false) → HasMadeTurns whole other m period ticks (turns_made count (suc n) m) (history ++ saying so.rest ∷ []) made.0
                by (inl e) =
                    let same : m ≡ n = grind (arith, nat_tests, e) in
                    let here : IsOther n other = subst (λ m. IsOther m other) same at in
                    subst (λ m. HasMadeTurns whole other m period ticks (turns_made count (suc n) m) (history ++ saying so.rest ∷ []) made.0) (sym same)
                    (subst (λ made_now. HasMadeTurns whole other n period ticks made_now (history ++ saying so.rest ∷ []) made.0) (sym (made_before count (suc n) n (omega arith)))
                    (subst (λ one. HasMadeTurns whole one n period ticks (suc count) (history ++ saying so.rest ∷ []) made.0) (sole_number (suc clients) others n answerer other is here) made.1))
                by (inr e) =
                    let other_than : m ≢ n = λ same. absurd (grind (arith, nat_tests, e, same)) in
                    subst (λ made_now. HasMadeTurns whole other m period ticks made_now (history ++ saying so.rest ∷ []) made.0) (made_other count n m other_than)
                    (stays_turned whole may other m period ticks (due_other m other at) (turns_made count n m) history (saying so.rest ∷ []) so made.0 (known_other m other at)
                    (apart n m (count * period) call (λ same. other_than (sym same))) (heard.rest m other at other_than))

    -- before the first has answered, each has made so many turns
    pub none_answered : (count : ℕ) (history : History) (so : IsLawfulSoFar whole history) → Stand (λ n. count) history so → Stand (turns_made count (suc clients)) history so
    none_answered count history so stand n answerer is =
        subst (λ made. HasMadeTurns whole answerer n period ticks made history so) (sym (made_from count (suc clients) n (number_within (suc clients) others n answerer is).0)) (stand n answerer is)

    -- and once the last has, each has made one more
    pub all_answered : (count last : ℕ) (history : History) (so : IsLawfulSoFar whole history) → last ≡ suc clients + length others → Stand (turns_made count last) history so → Stand (λ n. suc count) history so
    all_answered count last history so end stand n answerer is =
        let high = (number_within (suc clients) others n answerer is).1 in
        subst (λ made. HasMadeTurns whole answerer n period ticks made history so) (made_before count last n (omega (arith, high, end))) (stand n answerer is)
