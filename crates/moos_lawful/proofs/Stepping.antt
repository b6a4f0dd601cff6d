-- One step of a script's clients and of those that answer: whatever the threads did, each client has done the first of what was
-- left for it.
use Rattle.std.proofs.Common.{◌≡◌, ℕ, zero, suc, ◌+◌, ◌-◌, ◌*◌, ◌/◌, ◌<◌, ◌≤◌, ◌==◌, ◌&&◌, ◌⊎◌, inl, inr, true, false, cond, List, [], ◌∷◌, ◌++◌, length, nat_le, nat_lt, refl, sym, ap, subst, ◌∙◌, arith, append_assoc, eq-eqb}
use Rattle.std.specs.Prelude.{map}
use Rattle.std.specs.List.{list_all}
use Rattle.std.proofs.lemmas.Bool.{and_from, and_parts}
use Rattle.std.proofs.lemmas.Bool.Decides.{nat_tests}
use Rattle.std.proofs.lemmas.List.{map-append}
use Rattle.std.proofs.lemmas.List.Elements.{filter-append}
use Rattle.std.proofs.Math.Nat.{mul-le-mul, mul-suc}
use Rattle.moos_post.specs.declared.entry.Entry.{Entry}
use Rattle.moos_post.specs.History.{History}
use Rattle.moos_client.specs.Calls.{entries_of}
use Rattle.moos_client.specs.Hearing.{heard_in, Mailed}
use Rattle.moos_client.proofs.Histories.{all_kept}
use Rattle.moos_lawful.specs.Schedules.{clients_below, due_in, entries_below, IsLawfulSoFar, never_falls, Schedule}
use Rattle.moos_lawful.specs.Answering.{Answerer, answers_of, moment_in, schedule_of, turns_from}
use Rattle.moos_lawful.proofs.Parts.{all_raised, below_kept, either, part_on}
use Rattle.moos_lawful.proofs.Rising.{end_rises, front_rises, suffix_rises}
use Rattle.script_reader.specs.declared.script.Order.{Order}
use Rattle.script_reader.specs.declared.script.Order.TheVariants.{Stamp, Race}

-- ---- moments

-- in a race all entries have one moment
pub race_rises : (clients others : ℕ) (xs : List Entry) → never_falls 0 (map (moment_in Race clients others) xs) ≡ true
race_rises clients others [] = refl
race_rises clients others (x ∷ xs) = race_rises clients others xs

race_before : (clients others : ℕ) (xs : List Entry) → never_falls 0 (map (moment_in Race clients others) xs ++ 0 ∷ []) ≡ true
race_before clients others [] = refl
race_before clients others (x ∷ xs) = race_before clients others xs

race_one : (clients others : ℕ) (xs : List Entry) → list_all (λ n. n == 0) (map (moment_in Race clients others) xs) ≡ true
race_one clients others [] = refl
race_one clients others (x ∷ xs) = race_one clients others xs

-- a line has the first moment of its stamp
pub line_moment : (clients others : ℕ) (line : Entry) → nat_lt line.client clients ≡ true → moment_in Stamp clients others line ≡ suc others * line.stamp
line_moment clients others line below =
    let less : line.client < clients = grind (arith, nat_tests, below) in
    let first : suc line.client - clients ≡ 0 = omega (arith, less) in
    ap (λ rank. suc others * line.stamp + rank) first ∙ omega arith

lines_one : (clients others stamp : ℕ) (lines : List Entry) → clients_below clients lines ≡ true → list_all (λ line. line.stamp == stamp) lines ≡ true → list_all (λ n. n == suc others * stamp) (map (moment_in Stamp clients others) lines) ≡ true
lines_one clients others stamp [] below one = refl
lines_one clients others stamp (line ∷ lines) below one =
    let belows = and_parts (nat_lt line.client clients) (clients_below clients lines) below in
    let ones = and_parts (line.stamp == stamp) (list_all (λ line. line.stamp == stamp) lines) one in
    let here = ones.0 in
    let same : line.stamp ≡ stamp = grind (arith, nat_tests, here) in
    and_from (moment_in Stamp clients others line == suc others * stamp) (list_all (λ n. n == suc others * stamp) (map (moment_in Stamp clients others) lines))
    (eq-eqb (moment_in Stamp clients others line) (suc others * stamp) (line_moment clients others line belows.0 ∙ ap (λ stamp. suc others * stamp) same)) (lines_one clients others stamp lines belows.1 ones.1)

-- lines that aren't before a bound
all_late : (clients others bound stamp : ℕ) (lines : List Entry) → bound ≤ suc others * stamp → clients_below clients lines ≡ true → list_all (λ line. nat_le stamp line.stamp) lines ≡ true → list_all (λ line. nat_le bound (moment_in Stamp clients others line)) lines ≡ true
all_late clients others bound stamp [] low below late = refl
all_late clients others bound stamp (line ∷ lines) low below late =
    let belows = and_parts (nat_lt line.client clients) (clients_below clients lines) below in
    let lates = and_parts (nat_le stamp line.stamp) (list_all (λ line. nat_le stamp line.stamp) lines) late in
    let here = lates.0 in
    let less : stamp ≤ line.stamp = grind (arith, nat_tests, here) in
    let factor : suc others ≤ suc others = omega arith in
    let above : bound ≤ moment_in Stamp clients others line = omega (arith, low, mul-le-mul factor less, line_moment clients others line belows.0) in
    and_from (nat_le bound (moment_in Stamp clients others line)) (list_all (λ line. nat_le bound (moment_in Stamp clients others line)) lines) (grind (arith, nat_tests, above)) (all_late clients others bound stamp lines low belows.1 lates.1)

-- what rises, and isn't before a bound, rises from it
late_rises : (key : Entry → ℕ) (bound : ℕ) (xs : List Entry) → list_all (λ x. nat_le bound (key x)) xs ≡ true → never_falls 0 (map key xs) ≡ true → never_falls bound (map key xs) ≡ true
late_rises key bound [] late h = refl
late_rises key bound (x ∷ xs) late h =
    and_from (nat_le bound (key x)) (never_falls (key x) (map key xs)) (and_parts (nat_le bound (key x)) (list_all (λ x. nat_le bound (key x)) xs) late).0 (and_parts (nat_le 0 (key x)) (never_falls (key x) (map key xs)) h).1

-- the turns of a client rise from any moment that isn't above the first
pub turns_rise : {A : Type 0} (answerer : Answerer A) (clients others n period : ℕ) (heard : List A) (i count bound : ℕ) → bound ≤ suc others * (i * period) + (suc n - clients) → never_falls bound (map (moment_in Stamp clients others) (turns_from answerer n period heard i count)) ≡ true
turns_rise answerer clients others n period heard i zero bound low = refl
turns_rise answerer clients others n period heard i (suc count) bound low =
    and_from (nat_le bound m) (nat_le m m && never_falls m (map (moment_in Stamp clients others) later)) (grind (arith, nat_tests, low))
    (and_from (nat_le m m) (never_falls m (map (moment_in Stamp clients others) later)) (grind (arith, nat_tests)) (turns_rise answerer clients others n period heard (suc i) count m next))
  where
    m : ℕ
    m = suc others * (i * period) + (suc n - clients)

    later : List Entry
    later = turns_from answerer n period heard (suc i) count

    more : i * period ≤ suc i * period
    more = omega arith

    next : m ≤ suc others * (suc i * period) + (suc n - clients)
    next = let factor : suc others ≤ suc others = omega arith in let raised : suc others * (i * period) ≤ suc others * (suc i * period) = mul-le-mul factor more in omega (arith, raised)

-- ---- a step

-- what is left of a script's lines, and for those that answer
abbrev pub left_by : ℕ → (ℕ → List Entry) → List Entry → (ℕ → List Entry) → ℕ → List Entry
left_by clients rest more left n = cond (nat_lt n clients) (rest n ++ entries_of n more) (left n)

module _ {A : Type 0} (lines : List Entry) (clients stop period : ℕ) (answerers : List (Answerer A)) (names : ℕ) (mailed : Mailed A)
  where
    abbrev schedule : Order → Schedule A
    schedule order = schedule_of order lines clients stop period answerers names mailed

    -- in order Stamp all entries of a step have one moment, before which nothing is left
    pub record HasMoment (rest later : History) (left : ℕ → List Entry) : Type 0 where
      pub moment : ℕ
      pub before : never_falls 0 (map (moment_in Stamp clients (length answerers)) (entries_below (clients + length answerers) rest) ++ moment ∷ []) ≡ true
      pub one : list_all (λ n. n == moment) (map (moment_in Stamp clients (length answerers)) later) ≡ true
      pub behind : (n : ℕ) → n < clients + length answerers → never_falls moment (map (moment_in Stamp clients (length answerers)) (left n)) ≡ true

    -- what an order asks of a step
    abbrev pub KeepsMoment : Order → History → History → (ℕ → List Entry) → Type 0
    KeepsMoment Stamp rest later left = HasMoment rest later left
    KeepsMoment Race rest later left = Unit {0}

    -- A STEP: of some lines each of the script's clients has made the first, and rests of these are left; each client that answers has done the
    -- first of what it is due to do.
    pub step_on : (order : Order) (part more : List Entry) (history later : History) (so : IsLawfulSoFar (schedule order) history) (rest left : ℕ → List Entry) → clients + length answerers ≤ names → ((n : ℕ) → n < clients → so.left n ≡ entries_of n (part ++ more))
        → ((n : ℕ) → n < clients → entries_of n part ≡ entries_of n later ++ rest n) → ((n : ℕ) → clients ≤ n → n < clients + length answerers → due_in (schedule order) n (so.rest ++ later) ≡ entries_of n (so.rest ++ later) ++ left n)
        → clients_below (clients + length answerers) later ≡ true → KeepsMoment order so.rest later (left_by clients rest more left) → (on : IsLawfulSoFar (schedule order) (history ++ later)) × (on.left ≡ left_by clients rest more left)
    step_on order part more history later so rest left room own fronts others known moment = by order so moment own others
      where
        named : clients_below names later ≡ true
        named = all_raised (clients + length answerers) names later room known

        cut : (n : ℕ) → n < clients → entries_of n part ≡ entries_of n later ++ rest n → entries_of n (part ++ more) ≡ entries_of n later ++ (rest n ++ entries_of n more)
        cut n less front = filter-append (λ entry. entry.client == n) part more ∙ ap (λ front. front ++ entries_of n more) front ∙ append_assoc (entries_of n later) (rest n) (entries_of n more)

        all : (order : Order) (so : IsLawfulSoFar (schedule order) history) → ((n : ℕ) → n < clients → so.left n ≡ entries_of n (part ++ more)) → ((n : ℕ) → clients ≤ n → n < clients + length answerers → due_in (schedule order) n (so.rest ++ later) ≡ entries_of n (so.rest ++ later) ++ left n)
            → (n : ℕ) → n < clients + length answerers → (nat_lt n clients ≡ true) ⊎ (nat_lt n clients ≡ false) → due_in (schedule order) n (so.rest ++ later) ≡ entries_of n (so.rest ++ later) ++ left_by clients rest more left n
        all order so own others n below (inl e) =
            let less : n < clients = grind (arith, nat_tests, e) in
            lines_due (due_is (so.rest ++ later)) ∙ sym (lines_due (due_is so.rest)) ∙ so.own n below ∙ ap (λ left. entries_of n so.rest ++ left) (own n less ∙ cut n less (fronts n less))
            ∙ sym (append_assoc (entries_of n so.rest) (entries_of n later) (rest n ++ entries_of n more))
            ∙ (λ i. sym (filter-append (λ entry. entry.client == n) so.rest later) i ++ sym (ap (λ b. cond b (rest n ++ entries_of n more) (left n)) e) i)
          where
            due_is : History → List A
            due_is past = heard_in mailed n (schedule order).start past

            lines_due : (heard : List A) → (schedule order).due n heard ≡ entries_of n lines
            lines_due heard = ap (λ b. cond b (entries_of n lines) (answers_of period (suc (stop / period)) clients answerers n heard)) e
        all order so own others n below (inr e) =
            others n (grind (arith, nat_tests, e)) below ∙ sym (ap (λ b. entries_of n (so.rest ++ later) ++ cond b (rest n ++ entries_of n more) (left n)) e)

        by : (order : Order) (so : IsLawfulSoFar (schedule order) history) → KeepsMoment order so.rest later (left_by clients rest more left) → ((n : ℕ) → n < clients → so.left n ≡ entries_of n (part ++ more))
            → ((n : ℕ) → clients ≤ n → n < clients + length answerers → due_in (schedule order) n (so.rest ++ later) ≡ entries_of n (so.rest ++ later) ++ left n) → (on : IsLawfulSoFar (schedule order) (history ++ later)) × (on.left ≡ left_by clients rest more left)
        by Stamp so moment own others =
            part_on (schedule Stamp) history later so moment.moment (left_by clients rest more left) (λ n below. all Stamp so own others n below (either (nat_lt n clients))) moment.before
            (subst (λ some. list_all (λ n. n == moment.moment) (map (moment_in Stamp clients (length answerers)) some) ≡ true) (sym (below_kept (clients + length answerers) later known)) moment.one) moment.behind named
        by Race so moment own others =
            part_on (schedule Race) history later so 0 (left_by clients rest more left) (λ n below. all Race so own others n below (either (nat_lt n clients))) (race_before clients (length answerers) (entries_below (clients + length answerers) so.rest))
            (race_one clients (length answerers) (entries_below (clients + length answerers) later)) (λ n below. race_rises clients (length answerers) (left_by clients rest more left n)) named

    -- ---- in order Stamp

    -- the moments so far, and of what is left for a client
    left_rises : (history : History) (so : IsLawfulSoFar (schedule Stamp) history) (n : ℕ) → n < clients + length answerers → never_falls 0 (map (moment_in Stamp clients (length answerers)) (so.left n)) ≡ true
    left_rises history so n below =
        end_rises 0 (map (moment_in Stamp clients (length answerers)) (entries_below (clients + length answerers) so.rest)) (map (moment_in Stamp clients (length answerers)) (so.left n))
        (subst (λ all. never_falls 0 all ≡ true) (map-append (moment_in Stamp clients (length answerers)) (entries_below (clients + length answerers) so.rest) (so.left n)) (so.moments n below))

    -- a moment at which something is left isn't below one so far
    begins_before : (history : History) (so : IsLawfulSoFar (schedule Stamp) history) (n moment : ℕ) (entry : Entry) (left : List Entry) → n < clients + length answerers → so.left n ≡ entry ∷ left → moment_in Stamp clients (length answerers) entry ≡ moment
        → never_falls 0 (map (moment_in Stamp clients (length answerers)) (entries_below (clients + length answerers) so.rest) ++ moment ∷ []) ≡ true
    begins_before history so n moment entry left below is at =
        subst (λ moment. never_falls 0 (some ++ moment ∷ []) ≡ true) at
        (front_rises 0 (some ++ key entry ∷ []) (map key left)
        (subst (λ all. never_falls 0 all ≡ true) (sym (append_assoc some (key entry ∷ []) (map key left)))
        (subst (λ all. never_falls 0 all ≡ true) (map-append key (entries_below (clients + length answerers) so.rest) (entry ∷ left)) (subst (λ left. never_falls 0 (map key (entries_below (clients + length answerers) so.rest ++ left)) ≡ true) is (so.moments n below)))))
      where
        key : Entry → ℕ
        key = moment_in Stamp clients (length answerers)

        some : List ℕ
        some = map key (entries_below (clients + length answerers) so.rest)

    -- what isn't before a bound of what is left for a client of the script
    rest_rises : (bound stamp : ℕ) (part more : List Entry) (history later : History) (so : IsLawfulSoFar (schedule Stamp) history) (rest : List Entry) (n : ℕ) → n < clients → so.left n ≡ entries_of n (part ++ more) → entries_of n part ≡ entries_of n later ++ rest → bound ≤ suc (length answerers) * stamp
        → clients_below clients (part ++ more) ≡ true → list_all (λ line. nat_le stamp line.stamp) (part ++ more) ≡ true → never_falls bound (map (moment_in Stamp clients (length answerers)) (rest ++ entries_of n more)) ≡ true
    rest_rises bound stamp part more history later so rest n less own front low below late =
        suffix_rises bound (map key (entries_of n later)) (map key (rest ++ entries_of n more))
        (subst (λ all. never_falls bound all ≡ true) (map-append key (entries_of n later) (rest ++ entries_of n more))
        (subst (λ left. never_falls bound (map key left) ≡ true) (filter-append (λ entry. entry.client == n) part more ∙ ap (λ front. front ++ entries_of n more) front ∙ append_assoc (entries_of n later) rest (entries_of n more))
        (late_rises key bound (entries_of n (part ++ more)) (all_kept (λ line. nat_le bound (key line)) (λ line. line.client == n) (part ++ more) (all_late clients (length answerers) bound stamp (part ++ more) low below late))
        (subst (λ left. never_falls 0 (map key left) ≡ true) own (left_rises history so n (omega (arith, less)))))))
      where
        key : Entry → ℕ
        key = moment_in Stamp clients (length answerers)

    -- lines of one stamp, which nothing that is left is before
    pub lines_moment : (stamp : ℕ) (line : Entry) (part more : List Entry) (history later : History) (so : IsLawfulSoFar (schedule Stamp) history) (rest left : ℕ → List Entry) → ((n : ℕ) → n < clients → so.left n ≡ entries_of n ((line ∷ part) ++ more))
        → ((n : ℕ) → n < clients → entries_of n (line ∷ part) ≡ entries_of n later ++ rest n) → clients_below clients ((line ∷ part) ++ more) ≡ true → list_all (λ line. nat_le stamp line.stamp) ((line ∷ part) ++ more) ≡ true → line.stamp ≡ stamp
        → clients_below clients later ≡ true → list_all (λ line. line.stamp == stamp) later ≡ true → ((n : ℕ) → clients ≤ n → n < clients + length answerers → never_falls (suc (length answerers) * stamp) (map (moment_in Stamp clients (length answerers)) (left n)) ≡ true)
        → HasMoment so.rest later (left_by clients rest more left)
    lines_moment stamp line part more history later so rest left own fronts below late here theirs one others = record {
      moment = suc (length answerers) * stamp;
      before = begins_before history so line.client (suc (length answerers) * stamp) line (entries_of line.client (part ++ more)) (omega (arith, less))
          (own line.client less ∙ ap (λ b. cond b (line ∷ entries_of line.client (part ++ more)) (entries_of line.client (part ++ more))) (eq-eqb line.client line.client refl))
          (line_moment clients (length answerers) line first ∙ ap (λ stamp. suc (length answerers) * stamp) here);
      one = lines_one clients (length answerers) stamp later theirs one;
      behind = λ n under. by n under (either (nat_lt n clients));
    }
      where
        first : nat_lt line.client clients ≡ true
        first = (and_parts (nat_lt line.client clients) (clients_below clients (part ++ more)) below).0

        less : line.client < clients
        less = grind (arith, nat_tests, first)

        by : (n : ℕ) → n < clients + length answerers → (nat_lt n clients ≡ true) ⊎ (nat_lt n clients ≡ false) → never_falls (suc (length answerers) * stamp) (map (moment_in Stamp clients (length answerers)) (left_by clients rest more left n)) ≡ true
        by n under (inl e) =
            let under : n < clients = grind (arith, nat_tests, e) in
            subst (λ b. never_falls (suc (length answerers) * stamp) (map (moment_in Stamp clients (length answerers)) (cond b (rest n ++ entries_of n more) (left n))) ≡ true) (sym e)
            (rest_rises (suc (length answerers) * stamp) stamp (line ∷ part) more history later so (rest n) n under (own n under) (fronts n under) (omega arith) below late)
        by n under (inr e) =
            subst (λ b. never_falls (suc (length answerers) * stamp) (map (moment_in Stamp clients (length answerers)) (cond b (rest n ++ entries_of n more) (left n))) ≡ true) (sym e)
            (others n (grind (arith, nat_tests, e)) under)

    -- a turn of a client that answers, where all lines that are left have later stamps
    pub turn_moment : (stamp k : ℕ) (entry : Entry) (due more : List Entry) (history later : History) (so : IsLawfulSoFar (schedule Stamp) history) (rest left : ℕ → List Entry) → clients ≤ k → k < clients + length answerers → so.left k ≡ entry ∷ due → moment_in Stamp clients (length answerers) entry ≡ suc (length answerers) * stamp + (suc k - clients)
        → ((n : ℕ) → n < clients → so.left n ≡ entries_of n more) → ((n : ℕ) → n < clients → [] ≡ entries_of n later ++ rest n) → clients_below clients more ≡ true → list_all (λ line. nat_le (suc stamp) line.stamp) more ≡ true
        → list_all (λ n. n == suc (length answerers) * stamp + (suc k - clients)) (map (moment_in Stamp clients (length answerers)) later) ≡ true
        → ((n : ℕ) → clients ≤ n → n < clients + length answerers → never_falls (suc (length answerers) * stamp + (suc k - clients)) (map (moment_in Stamp clients (length answerers)) (left n)) ≡ true) → HasMoment so.rest later (left_by clients rest more left)
    turn_moment stamp k entry due more history later so rest left past known is at own none below late one others = record {
      moment = moment;
      before = begins_before history so k moment entry due known is at;
      one = one;
      behind = λ n under. by n under (either (nat_lt n clients));
    }
      where
        moment : ℕ
        moment = suc (length answerers) * stamp + (suc k - clients)

        low : moment ≤ suc (length answerers) * suc stamp
        low = let next : suc (length answerers) * suc stamp ≡ suc (length answerers) * stamp + suc (length answerers) = mul-suc (suc (length answerers)) stamp in let rank : suc k - clients ≤ length answerers = omega (arith, past, known) in omega (arith, next, rank)

        by : (n : ℕ) → n < clients + length answerers → (nat_lt n clients ≡ true) ⊎ (nat_lt n clients ≡ false) → never_falls moment (map (moment_in Stamp clients (length answerers)) (left_by clients rest more left n)) ≡ true
        by n under (inl e) =
            let under : n < clients = grind (arith, nat_tests, e) in
            subst (λ b. never_falls moment (map (moment_in Stamp clients (length answerers)) (cond b (rest n ++ entries_of n more) (left n))) ≡ true) (sym e)
            (rest_rises moment (suc stamp) [] more history later so (rest n) n under (own n under) (none n under) low below late)
        by n under (inr e) =
            subst (λ b. never_falls moment (map (moment_in Stamp clients (length answerers)) (cond b (rest n ++ entries_of n more) (left n))) ≡ true) (sym e)
            (others n (grind (arith, nat_tests, e)) under)
