-- What is lawful for a script and a helm is lawful for their schedule, and the other way round.
use Rattle.std.proofs.Common.{◌≡◌, ◌≢◌, ℕ, zero, suc, ◌+◌, ◌-◌, ◌*◌, ◌/◌, ◌<◌, ◌≤◌, ◌==◌, ◌⊎◌, inl, inr, Bool, true, false, cond, List, [], ◌∷◌, ◌++◌, length, Option, None, Some, nat_le, nat_lt, refl, sym, ap, ◌∙◌, subst, arith, append-nil, eq-eqb}
use Rattle.std.specs.Prelude.{map, filter, IfSome}
use Rattle.std.specs.List.{list_all}
use Rattle.std.proofs.lemmas.Bool.{and_from}
use Rattle.std.proofs.lemmas.Bool.Decides.{nat_tests}
use Rattle.std.proofs.lemmas.List.{length-append}
use Rattle.std.proofs.lemmas.List.Elements.{filter-append}
use Rattle.helm_core.specs.Ticks.{Tick}
use Rattle.moos_client.specs.Calls.{entries_of}
use Rattle.moos_client.specs.Hearing.{fetches, heard_in}
use Rattle.moos_client.proofs.Hearing.{heard_many}
use Rattle.moos_lawful.specs.Answering.{answers_of, moment_in, openings, turns_from}
use Rattle.moos_lawful.specs.Schedules.{entries_below, IsLawfulFor, never_falls}
use Rattle.moos_lawful.proofs.Parts.{below_kept, either, none_of}
use Rattle.moos_lawful.proofs.Widening.{rises_from}
use Rattle.moos_post.specs.declared.entry.Entry.{Entry}
use Rattle.moos_post.specs.Delivery.{is_fetch}
use Rattle.moos_post.specs.History.{History}
use Rattle.moos_play.specs.Lawful.{heard_of, helm_number, IsLawful, KeepsOrder, mailed_in, moment_of, names_with, opening_of, HelmSetup, tick_entries, ticks_of, ticks_to}
use Rattle.moos_play.specs.Schedules.{answering, schedule_with}
use Rattle.moos_play.proofs.Below.{names_more}
use Rattle.moos_play.proofs.Finishing.{moment_new}
use Rattle.moos_play.proofs.Stepping.{lines_clients}
use Rattle.moos_play.proofs.Turns.{heard_rest, start_is, turns_are}
use Rattle.script_reader.specs.declared.script.Order.{Order}
use Rattle.script_reader.specs.declared.script.Order.TheVariants.{Stamp, Race}
use Rattle.script_reader.specs.declared.script.Script.{Script}
use Rattle.script_reader.specs.Validity.{IsValid}
use Rattle.moos_verdict.specs.Scheduled.{LawfulIsScheduled, ScheduledIsLawful}

-- no number is below 0, and zeros rise
from_none : (key : Entry → ℕ) (xs : List Entry) → list_all (λ entry. nat_le 0 (key entry)) xs ≡ true
from_none key [] = refl
from_none key (x ∷ xs) = and_from (nat_le 0 (key x)) (list_all (λ entry. nat_le 0 (key entry)) xs) (grind (arith, nat_tests)) (from_none key xs)

zeros_rise : (clients others : ℕ) (xs : List Entry) → never_falls 0 (map (moment_in Race clients others) xs) ≡ true
zeros_rise clients others [] = refl
zeros_rise clients others (x ∷ xs) = zeros_rise clients others xs

-- if nobody from a number on has an entry, all entries are of clients below it
all_known : (known : ℕ) (xs : History) → ((n : ℕ) → known ≤ n → entries_of n xs ≡ []) → list_all (λ entry. nat_lt entry.client known) xs ≡ true
all_known known [] none = refl
all_known known (x ∷ xs) none = and_from (nat_lt x.client known) (list_all (λ entry. nat_lt entry.client known) xs) (here (either (nat_lt x.client known))) (all_known known xs later)
  where
    here : (nat_lt x.client known ≡ true) ⊎ (nat_lt x.client known ≡ false) → nat_lt x.client known ≡ true
    here (inl e) = e
    here (inr e) =
        let past : known ≤ x.client = grind (arith, nat_tests, e) in
        let some : x ∷ entries_of x.client xs ≡ [] = sym (ap (λ b. cond b (x ∷ entries_of x.client xs) (entries_of x.client xs)) (eq-eqb x.client x.client refl)) ∙ none x.client past in
        absurd (omega (arith, ap length some))

    later : (n : ℕ) → known ≤ n → entries_of n xs ≡ []
    later n past = by (x.client == n) (none n past)
      where
        by : (b : Bool) → cond b (x ∷ entries_of n xs) (entries_of n xs) ≡ [] → entries_of n xs ≡ []
        by true e = absurd (omega (arith, ap length e))
        by false e = e

-- the moments of clients that are all known
all_moments : (moment : Entry → ℕ) (known : ℕ) (xs : History) → list_all (λ entry. nat_lt entry.client known) xs ≡ true → map moment (entries_below known xs ++ []) ≡ map moment xs
all_moments moment known xs all = ap (map moment) (append-nil (entries_below known xs) ∙ below_kept known xs all)

-- ---- with a helm

-- a fetch a tick, and a fetch a turn
fetches_ticks : (helm : HelmSetup) (heard : List Tick) (count : ℕ) → fetches (ticks_of helm heard count) ≡ count
fetches_ticks helm heard zero = refl
fetches_ticks helm heard (suc count) =
    ap length (filter-append (λ entry. is_fetch entry.call) (ticks_of helm heard count) (tick_entries helm heard count))
    ∙ length-append (filter (λ entry. is_fetch entry.call) (ticks_of helm heard count)) (filter (λ entry. is_fetch entry.call) (tick_entries helm heard count))
    ∙ ap (λ n. n + 1) (fetches_ticks helm heard count) ∙ omega arith

fetches_turns : (helm : HelmSetup) (heard : List Tick) (i count : ℕ) → fetches (turns_from (answering helm) helm.client helm.period heard i count) ≡ count
fetches_turns helm heard i zero = refl
fetches_turns helm heard i (suc count) = ap suc (fetches_turns helm heard (suc i) count)

module _ (order : Order) (script : Script) (helm : HelmSetup) (history : History) (valid : IsValid script) (number : helm.client ≡ helm_number script)
  where
    abbrev names : List (List ℕ)
    names = names_with script (Some helm)

    abbrev clients : ℕ
    clients = helm_number script

    abbrev ticks : ℕ
    ticks = suc (script.stop / helm.period)

    abbrev start : History
    start = openings clients (answering helm ∷ [])

    abbrev told : List Tick
    told = heard_of names helm.client history

    abbrev hears : History → ℕ → List Tick
    hears rest n = heard_in (mailed_in names) n start rest

    abbrev answered : History → ℕ → List Entry
    answered rest n = answers_of helm.period ticks clients (answering helm ∷ []) n (hears rest n)

    start_same : start ≡ opening_of helm
    start_same = start_is clients helm number

    no_more : ticks + 0 ≡ ticks
    no_more = omega arith

    heard : (rest : History) → history ≡ opening_of helm ++ rest → hears rest helm.client ≡ told
    heard rest opened = (λ i. heard_in (mailed_in names) helm.client (start_same i) rest) ∙ heard_rest names helm rest ∙ ap (heard_of names helm.client) (sym opened)

    lines_known : list_all (λ line. nat_lt line.client clients) script.lines ≡ true
    lines_known = lines_clients (length script.names) 0 script.stop script.lines valid.lines

    -- the moments of both
    moment_more : (x y : Entry) → nat_lt x.client (clients + 1) ≡ true → nat_lt y.client (clients + 1) ≡ true → moment_of clients x ≤ moment_of clients y → moment_in Stamp clients 1 x ≤ moment_in Stamp clients 1 y
    moment_more x y px py less = subst (λ m. m ≤ moment_in Stamp clients 1 y) (sym (moment_new clients x px)) (subst (λ m. moment_of clients x ≤ m) (sym (moment_new clients y py)) less)

    moment_back : (x y : Entry) → nat_lt x.client (clients + 1) ≡ true → nat_lt y.client (clients + 1) ≡ true → moment_in Stamp clients 1 x ≤ moment_in Stamp clients 1 y → moment_of clients x ≤ moment_of clients y
    moment_back x y px py less = subst (λ m. m ≤ moment_of clients y) (moment_new clients x px) (subst (λ m. moment_in Stamp clients 1 x ≤ m) (moment_new clients y py) less)

    module _ (is : IsLawful order script (Some helm) names history)
      where
        abbrev rest : History
        rest = is.rest

        steered : entries_of helm.client rest ≡ ticks_of helm told ticks
        steered = subst (λ n. entries_of n rest ≡ ticks_of helm (heard_of names n history) ticks) (sym number) is.steered

        many : length told ≡ ticks
        many = ap length (sym (heard rest is.opened)) ∙ heard_many (mailed_in names) helm.client start rest ∙ ap fetches steered ∙ fetches_ticks helm told ticks

        turns : entries_of helm.client rest ≡ turns_from (answering helm) helm.client helm.period (hears rest helm.client) 0 ticks
        turns =
            steered ∙ sym (append-nil (ticks_of helm told ticks)) ∙ sym (turns_are helm told ticks 0 (omega (arith, many)))
            ∙ ap (turns_from (answering helm) helm.client helm.period told 0) no_more ∙ ap (λ heard. turns_from (answering helm) helm.client helm.period heard 0 ticks) (sym (heard rest is.opened))

        own : (n : ℕ) → n < clients + 1 → (nat_lt n clients ≡ true) ⊎ (nat_lt n clients ≡ false) → entries_of n rest ≡ cond (nat_lt n clients) (entries_of n script.lines) (answered rest n)
        own n below (inl e) = is.own n (λ same. absurd (grind (arith, nat_tests, e, same))) ∙ sym (ap (λ b. cond b (entries_of n script.lines) (answered rest n)) e)
        own n below (inr e) =
            let same : n ≡ clients = grind (arith, nat_tests, e, below) in
            subst (λ n. entries_of n rest ≡ turns_from (answering helm) n helm.period (hears rest n) 0 ticks) (number ∙ sym same) turns
            ∙ sym (ap (λ b. cond b (turns_from (answering helm) n helm.period (hears rest n) 0 ticks) []) (eq-eqb clients n (sym same)))
            ∙ sym (ap (λ b. cond b (entries_of n script.lines) (answered rest n)) e)

        nobody : (n : ℕ) → clients + 1 ≤ n → entries_of n rest ≡ []
        nobody n past = is.own n (λ same. absurd (omega (arith, past, same))) ∙ none_of clients n script.lines (omega (arith, past)) lines_known

        known : list_all (λ entry. nat_lt entry.client (clients + 1)) rest ≡ true
        known = all_known (clients + 1) rest nobody

        moments : (order : Order) → KeepsOrder order clients rest → never_falls 0 (map (moment_in order clients 1) rest) ≡ true
        moments Race keeps = zeros_rise clients 1 rest
        moments Stamp keeps = rises_from (λ entry. nat_lt entry.client (clients + 1)) (moment_of clients) (moment_in Stamp clients 1) moment_more 0 rest known (from_none (moment_in Stamp clients 1) rest) keeps

        helm_scheduled : IsLawfulFor (schedule_with order script (Some helm) names) history
        helm_scheduled = record {
          rest = rest;
          opened = is.opened ∙ ap (λ front. front ++ rest) (sym start_same);
          own = λ n below. own n below (either (nat_lt n clients));
          moments = subst (λ some. never_falls 0 some ≡ true) (sym (all_moments (moment_in order clients 1) (clients + 1) rest known)) (moments order is.moments);
          named = subst (λ n. list_all (λ entry. nat_lt entry.client n) rest ≡ true) (sym (names_more script helm)) known;
        }

    module _ (so : IsLawfulFor (schedule_with order script (Some helm) names) history)
      where
        abbrev behind : History
        behind = so.rest

        opened_so : history ≡ opening_of helm ++ behind
        opened_so = so.opened ∙ ap (λ start. start ++ behind) start_same

        due_helm : (n : ℕ) → n ≡ clients → entries_of n behind ≡ turns_from (answering helm) n helm.period (hears behind n) 0 ticks
        due_helm n is =
            let below : n < clients + 1 = omega (arith, is) in
            let past : nat_lt n clients ≡ false = grind (arith, nat_tests, is) in
            so.own n below ∙ ap (λ b. cond b (entries_of n script.lines) (answered behind n)) past
            ∙ ap (λ b. cond b (turns_from (answering helm) n helm.period (hears behind n) 0 ticks) []) (eq-eqb clients n (sym is))

        many_heard : length (hears behind helm.client) ≡ ticks
        many_heard = heard_many (mailed_in names) helm.client start behind ∙ ap fetches (due_helm helm.client number) ∙ fetches_turns helm (hears behind helm.client) 0 ticks

        ticked : entries_of helm.client behind ≡ ticks_of helm told ticks
        ticked =
            due_helm helm.client number ∙ ap (turns_from (answering helm) helm.client helm.period (hears behind helm.client) 0) (sym no_more)
            ∙ turns_are helm (hears behind helm.client) ticks 0 (omega (arith, many_heard)) ∙ append-nil (ticks_of helm (hears behind helm.client) ticks)
            ∙ ap (λ heard. ticks_of helm heard ticks) (heard behind opened_so)

        all_named : list_all (λ entry. nat_lt entry.client (clients + 1)) behind ≡ true
        all_named = subst (λ n. list_all (λ entry. nat_lt entry.client n) behind ≡ true) (names_more script helm) so.named

        lines_own : (n : ℕ) → n ≢ clients → (nat_lt n clients ≡ true) ⊎ (nat_lt n clients ≡ false) → entries_of n behind ≡ entries_of n script.lines
        lines_own n other (inl e) = let less : n < clients = grind (arith, nat_tests, e) in so.own n (omega (arith, less)) ∙ ap (λ b. cond b (entries_of n script.lines) (answered behind n)) e
        lines_own n other (inr e) =
            let past : clients ≤ n = grind (arith, nat_tests, e) in
            none_of (clients + 1) n behind (omega (arith, past, (λ (is : n ≡ clients). other is))) all_named ∙ sym (none_of clients n script.lines past lines_known)

        keeps : (order : Order) → never_falls 0 (map (moment_in order clients 1) behind) ≡ true → KeepsOrder order clients behind
        keeps Race h = tt
        keeps Stamp h = rises_from (λ entry. nat_lt entry.client (clients + 1)) (moment_in Stamp clients 1) (moment_of clients) moment_back 0 behind all_named (from_none (moment_of clients) behind) h

        helm_lawful : IsLawful order script (Some helm) names history
        helm_lawful = record {
          rest = behind;
          opened = opened_so;
          steered = subst (λ n. entries_of n behind ≡ ticks_of helm (heard_of names n history) (ticks_to script.stop helm)) number ticked;
          own = λ n other. lines_own n other (either (nat_lt n clients));
          moments = keeps order (subst (λ some. never_falls 0 some ≡ true) (all_moments (moment_in order clients 1) (clients + 1) behind all_named) so.moments);
        }

-- ---- without one

-- a line's moment
line_moment : (count : ℕ) (x : Entry) → nat_lt x.client (count + 0) ≡ true → (moment_of count x ≡ 2 * x.stamp) × (moment_in Stamp count 0 x ≡ x.stamp)
line_moment count x below = (by (x.client == count) refl, first)
  where
    by : (b : Bool) → (x.client == count) ≡ b → cond b (suc (2 * x.stamp)) (2 * x.stamp) ≡ 2 * x.stamp
    by true e = absurd (grind (arith, nat_tests, e, below))
    by false e = refl

    first : suc 0 * x.stamp + (suc x.client - count) ≡ x.stamp
    first = let less : x.client < count = grind (arith, nat_tests, below) in omega (arith, less)

module _ (order : Order) (script : Script) (history : History) (valid : IsValid script) (is : IsLawful order script None script.names history)
  where
    abbrev count : ℕ
    count = helm_number script

    abbrev lines : History
    lines = is.rest

    count_same : count + 0 ≡ count
    count_same = omega arith

    nobody_else : (n : ℕ) → count + 0 ≤ n → entries_of n lines ≡ []
    nobody_else n past = by (either (n == count))
      where
        by : ((n == count) ≡ true) ⊎ ((n == count) ≡ false) → entries_of n lines ≡ []
        by (inl e) = let same : n ≡ count = grind (arith, nat_tests, e) in subst (λ n. entries_of n lines ≡ []) (sym same) is.steered
        by (inr e) = is.own n (λ same. absurd (grind (arith, nat_tests, e, same))) ∙ none_of count n script.lines (omega (arith, past)) (lines_clients (length script.names) 0 script.stop script.lines valid.lines)

    all_lines : list_all (λ entry. nat_lt entry.client (count + 0)) lines ≡ true
    all_lines = all_known (count + 0) lines nobody_else

    lines_due : (n : ℕ) → n < count + 0 → entries_of n lines ≡ cond (nat_lt n count) (entries_of n script.lines) []
    lines_due n below =
        let here : nat_lt n count ≡ true = grind (arith, nat_tests, below) in
        is.own n (λ same. absurd (omega (arith, below, same))) ∙ sym (ap (λ b. cond b (entries_of n script.lines) []) here)

    line_moments : (order : Order) → KeepsOrder order count lines → never_falls 0 (map (moment_in order count 0) lines) ≡ true
    line_moments Race keeps = zeros_rise count 0 lines
    line_moments Stamp keeps =
        rises_from (λ entry. nat_lt entry.client (count + 0)) (moment_of count) (moment_in Stamp count 0)
        (λ x y px py less. omega (arith, (line_moment count x px).0, (line_moment count x px).1, (line_moment count y py).0, (line_moment count y py).1, less)) 0 lines all_lines (from_none (moment_in Stamp count 0) lines) keeps

    lines_scheduled : IsLawfulFor (schedule_with order script None script.names) history
    lines_scheduled = record {
      rest = lines;
      opened = is.opened;
      own = lines_due;
      moments = subst (λ some. never_falls 0 some ≡ true) (sym (all_moments (moment_in order count 0) (count + 0) lines all_lines)) (line_moments order is.moments);
      named = subst (λ n. list_all (λ entry. nat_lt entry.client n) lines ≡ true) count_same all_lines;
    }

module _ (order : Order) (script : Script) (history : History) (valid : IsValid script) (so : IsLawfulFor (schedule_with order script None script.names) history)
  where
    abbrev number : ℕ
    number = helm_number script

    abbrev due : History
    due = so.rest

    same_number : number ≡ number + 0
    same_number = omega arith

    under : list_all (λ entry. nat_lt entry.client (number + 0)) due ≡ true
    under = subst (λ n. list_all (λ entry. nat_lt entry.client n) due ≡ true) same_number so.named

    due_own : (n : ℕ) → n ≢ number → (nat_lt n number ≡ true) ⊎ (nat_lt n number ≡ false) → entries_of n due ≡ entries_of n script.lines
    due_own n other (inl e) = let less : n < number = grind (arith, nat_tests, e) in so.own n (omega (arith, less)) ∙ ap (λ b. cond b (entries_of n script.lines) []) e
    due_own n other (inr e) =
        let past : number ≤ n = grind (arith, nat_tests, e) in
        none_of number n due past so.named ∙ sym (none_of number n script.lines past (lines_clients (length script.names) 0 script.stop script.lines valid.lines))

    due_keeps : (order : Order) → never_falls 0 (map (moment_in order number 0) due) ≡ true → KeepsOrder order number due
    due_keeps Race h = tt
    due_keeps Stamp h =
        rises_from (λ entry. nat_lt entry.client (number + 0)) (moment_in Stamp number 0) (moment_of number)
        (λ x y px py less. omega (arith, (line_moment number x px).0, (line_moment number x px).1, (line_moment number y py).0, (line_moment number y py).1, less)) 0 due under (from_none (moment_of number) due) h

    lines_lawful : IsLawful order script None script.names history
    lines_lawful = record {
      rest = due;
      opened = so.opened;
      steered = none_of number number due (omega arith) so.named;
      own = λ n other. due_own n other (either (nat_lt n number));
      moments = due_keeps order (subst (λ some. never_falls 0 some ≡ true) (all_moments (moment_in order number 0) (number + 0) due under) so.moments);
    }

-- ---- both

to_schedule : (order : Order) (script : Script) (helm : Option HelmSetup) (history : History) → IsValid script → IfSome helm (λ helm. helm.client ≡ helm_number script) → IsLawful order script helm (names_with script helm) history
    → IsLawfulFor (schedule_with order script helm (names_with script helm)) history
to_schedule order script None history valid counted is = lines_scheduled order script history valid is
to_schedule order script (Some helm) history valid counted is = helm_scheduled order script helm history valid counted is

from_schedule : (order : Order) (script : Script) (helm : Option HelmSetup) (history : History) → IsValid script → IfSome helm (λ helm. helm.client ≡ helm_number script)
    → IsLawfulFor (schedule_with order script helm (names_with script helm)) history → IsLawful order script helm (names_with script helm) history
from_schedule order script None history valid counted so = lines_lawful order script history valid so
from_schedule order script (Some helm) history valid counted so = helm_lawful order script helm history valid counted so

-- WHAT IS LAWFUL IN A CASE is lawful for its schedule,
pub lawful_scheduled : LawfulIsScheduled
lawful_scheduled case history plain is = to_schedule case.order case.script case.helm history plain.valid plain.number is

-- and what is lawful for that in the case.
pub scheduled_lawful : ScheduledIsLawful
scheduled_lawful case history plain so = from_schedule case.order case.script case.helm history plain.valid plain.number so
