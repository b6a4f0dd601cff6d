-- The steps of a run: lines, a tick, or all of a race. With each the history is lawful so far, and where memory was found just
-- what was asked for is played.
use Rattle.std.proofs.Common.{◌≡◌, ℕ, zero, suc, ◌+◌, ◌-◌, ◌*◌, ◌/◌, ◌<◌, ◌≤◌, ◌==◌, ◌⊎◌, inl, inr, Bool, true, false, cond, List, [], ◌∷◌, ◌++◌, length, take, drop, Option, None, Some, nat_le, nat_lt, refl, sym, ap, ◌∙◌, subst, arith, append-nil}
use Rattle.std.specs.Prelude.{map}
use Rattle.std.specs.List.{list_all}
use Rattle.std.proofs.lemmas.Bool.{and_from, and_parts}
use Rattle.std.proofs.lemmas.Bool.Decides.{nat_tests}
use Rattle.std.proofs.lemmas.List.{take-append-drop}
use Rattle.std.proofs.lemmas.List.Elements.{filter-append}
use Rattle.std.proofs.lemmas.List.Folds.{list_all-append}
use Rattle.std.proofs.Math.Nat.{mul-le-mul}
use Rattle.moos_client.specs.Calls.{entries_of}
use Rattle.moos_client.proofs.Histories.{fronts_pass}
use Rattle.moos_lawful.specs.Answering.{moment_in, turns_from}
use Rattle.moos_lawful.specs.Schedules.{clients_below, due_in, IsLawfulSoFar, never_falls}
use Rattle.moos_lawful.proofs.Parts.{all_raised, due_stays, either, none_of}
use Rattle.moos_lawful.proofs.Stepping.{KeepsMoment, left_by, lines_moment, step_on, turns_rise}
use Rattle.moos_post.specs.declared.entry.Entry.{Entry}
use Rattle.moos_post.specs.History.{History}
use Rattle.moos_play.specs.declared.helm_client.HelmClient.{HelmClient}
use Rattle.moos_play.specs.Lawful.{heard_of, mailed_in, HelmSetup, ticks_to}
use Rattle.moos_play.specs.Schedules.{answerers, answering, schedule_with, tick_period}
use Rattle.moos_play.specs.Steered.{comes_before, HasPlayed, helm_of, left_for, parts, helm_setup_of, tick_due, turns_left}
use Rattle.moos_play.proofs.Standing.{StandsAt}
use Rattle.script_reader.specs.declared.script.Order.{Order}
use Rattle.script_reader.specs.declared.script.Order.TheVariants.{Stamp, Race}
use Rattle.script_reader.specs.declared.script.Script.{Script}
use Rattle.script_reader.specs.Validity.{are_lines, keeps_limits}
use Rattle.script_reader.proofs.Sound.{line_tests}

-- ---- lines of a script

-- they are of clients below the helm
pub lines_clients : (clients last stop : ℕ) (lines : List Entry) → are_lines clients last stop lines ≡ true → clients_below clients lines ≡ true
lines_clients clients last stop [] valid = refl
lines_clients clients last stop (line ∷ lines) valid =
    let tests = line_tests (nat_lt line.client clients) (nat_le last line.stamp) (keeps_limits line.call) (are_lines clients line.stamp stop lines) valid in
    and_from (nat_lt line.client clients) (clients_below clients lines) tests.0 (lines_clients clients line.stamp stop lines tests.3)

-- none has a stamp below one that none is below
pub later_stamps : (low high : ℕ) (lines : List Entry) → low ≤ high → list_all (λ line. nat_le high line.stamp) lines ≡ true → list_all (λ line. nat_le low line.stamp) lines ≡ true
later_stamps low high [] less all = refl
later_stamps low high (line ∷ lines) less all =
    let tests = and_parts (nat_le high line.stamp) (list_all (λ line. nat_le high line.stamp) lines) all in
    let here = tests.0 in
    and_from (nat_le low line.stamp) (list_all (λ line. nat_le low line.stamp) lines) (grind (arith, nat_tests, less)) (later_stamps low high lines less tests.1)

pub lines_late : (clients last stop : ℕ) (lines : List Entry) → are_lines clients last stop lines ≡ true → list_all (λ line. nat_le last line.stamp) lines ≡ true
lines_late clients last stop [] valid = refl
lines_late clients last stop (line ∷ lines) valid =
    let tests = line_tests (nat_lt line.client clients) (nat_le last line.stamp) (keeps_limits line.call) (are_lines clients line.stamp stop lines) valid in
    let here = tests.1 in
    let less : last ≤ line.stamp = grind (arith, nat_tests) in
    and_from (nat_le last line.stamp) (list_all (λ line. nat_le last line.stamp) lines) tests.1 (later_stamps last line.stamp lines less (lines_late clients line.stamp stop lines tests.3))

-- nor one of those from a place on below that of the first there
pub drop_late : (clients last stop : ℕ) (lines : List Entry) (from : ℕ) (line : Entry) (left : List Entry) → are_lines clients last stop lines ≡ true → drop from lines ≡ line ∷ left → list_all (λ other. nat_le line.stamp other.stamp) (line ∷ left) ≡ true
drop_late clients last stop [] zero line left valid is = absurd cc
drop_late clients last stop [] (suc from) line left valid is = absurd cc
drop_late clients last stop (one ∷ lines) zero line left valid is =
    let tests = line_tests (nat_lt one.client clients) (nat_le last one.stamp) (keeps_limits one.call) (are_lines clients one.stamp stop lines) valid in
    let late : list_all (λ other. nat_le one.stamp other.stamp) (one ∷ lines) ≡ true = and_from (nat_le one.stamp one.stamp) (list_all (λ other. nat_le one.stamp other.stamp) lines) (self one.stamp) (lines_late clients one.stamp stop lines tests.3) in
    let same : one ≡ line = head is in
    subst (λ (first : Entry). list_all (λ (other : Entry). nat_le first.stamp other.stamp) (line ∷ left) ≡ true) same (subst (λ (all : List Entry). list_all (λ (other : Entry). nat_le one.stamp other.stamp) all ≡ true) is late)
  where
    self : (n : ℕ) → nat_le n n ≡ true
    self n = grind (arith, nat_tests)

    head : {a b : Entry} {xs ys : List Entry} → a ∷ xs ≡ b ∷ ys → a ≡ b
    head h = cc
drop_late clients last stop (one ∷ lines) (suc from) line left valid is =
    let tests = line_tests (nat_lt one.client clients) (nat_le last one.stamp) (keeps_limits one.call) (are_lines clients one.stamp stop lines) valid in
    drop_late clients one.stamp stop lines from line left tests.3 is

-- a list that isn't empty
some_first : (xs : List Entry) → 0 < length xs → (x : Entry) × (ys : List Entry) × (xs ≡ x ∷ ys)
some_first [] some = absurd (omega (arith, some))
some_first (x ∷ xs) some = (x, xs, refl)

-- a test that all lines pass a part of them passes
pub all_part : (p : Entry → Bool) (lines : List Entry) (from n : ℕ) → list_all p lines ≡ true → list_all p (take n (drop from lines)) ≡ true
all_part p lines from n all =
    let behind = (and_parts (list_all p (take from lines)) (list_all p (drop from lines)) (sym (list_all-append p (take from lines) (drop from lines)) ∙ ap (list_all p) (take-append-drop from lines) ∙ all)).1 in
    (and_parts (list_all p (take n (drop from lines))) (list_all p (drop n (drop from lines))) (sym (list_all-append p (take n (drop from lines)) (drop n (drop from lines))) ∙ ap (list_all p) (take-append-drop n (drop from lines)) ∙ behind)).0

pub all_end : (p : Entry → Bool) (lines : List Entry) (from : ℕ) → list_all p lines ≡ true → list_all p (drop from lines) ≡ true
all_end p lines from all = (and_parts (list_all p (take from lines)) (list_all p (drop from lines)) (sym (list_all-append p (take from lines) (drop from lines)) ∙ ap (list_all p) (take-append-drop from lines) ∙ all)).1

-- what an order asks of lines: by their stamps they have one stamp, are some, and aren't behind the next tick
pub record ComeNext (script : Script) (s : Option HelmClient) (lines : List Entry) : Type 0 where
  pub stamp : ℕ
  pub one : list_all (λ line. line.stamp == stamp) lines ≡ true
  pub some : 0 < length lines
  pub early : comes_before (tick_due script.stop s) stamp ≡ false

abbrev pub MayCome : Script → Order → Option HelmClient → List Entry → Type 0
MayCome script Stamp s lines = ComeNext script s lines
MayCome script Race s lines = Unit {0}

-- a stamp that isn't behind the next tick
pub ahead : (script : Script) (s : Option HelmClient) (stamp : ℕ) → comes_before (tick_due script.stop s) stamp ≡ false → (t : HelmClient) → s ≡ Some t → t.ticks < ticks_to script.stop (helm_setup_of t) → stamp ≤ t.ticks * t.period
ahead script s stamp late t is left =
    let here : nat_le t.ticks (script.stop / t.period) ≡ true = grind (arith, nat_tests, left) in
    let now : nat_lt (t.ticks * t.period) stamp ≡ false = subst (λ b. comes_before (cond b (Some (t.ticks * t.period)) None) stamp ≡ false) here (subst (λ s. comes_before (tick_due script.stop s) stamp ≡ false) is late) in
    grind (arith, nat_tests, now)

module _ (script : Script) (names : List (List ℕ)) (valid : are_lines (length script.names) 0 script.stop script.lines ≡ true)
  where
    theirs : (from : ℕ) → clients_below (length script.names) (drop from script.lines) ≡ true
    theirs from = all_end (λ line. nat_lt line.client (length script.names)) script.lines from (lines_clients (length script.names) 0 script.stop script.lines valid)

    -- what is left for a client of the script
    pub own_left : (order : Order) (s : Option HelmClient) (from : ℕ) (history : History) (played : HasPlayed order script names s from history) (n : ℕ) → n < (length script.names) → played.so_far.left n ≡ entries_of n (drop from script.lines)
    own_left order s from history played n less =
        played.left n (omega (arith, less)) ∙ ap (λ b. cond b (entries_of n (drop from script.lines)) (turns_left script.stop s names history)) below
      where
        below : nat_lt n (length script.names) ≡ true
        below = grind (arith, nat_tests, less)

    -- and for the helm
    helm_has_left : (order : Order) (s : Option HelmClient) (from : ℕ) (history : History) (played : HasPlayed order script names s from history) (n : ℕ) → (length script.names) ≤ n → n < parts script s → played.so_far.left n ≡ turns_left script.stop s names history
    helm_has_left order s from history played n past under =
        played.left n under ∙ ap (λ b. cond b (entries_of n (drop from script.lines)) (turns_left script.stop s names history)) above
      where
        above : nat_lt n (length script.names) ≡ false
        above = grind (arith, nat_tests, past)

    -- what is left by a step is what is left from there
    pub has_played : (order : Order) (s : Option HelmClient) (to : ℕ) (history : History) (so : IsLawfulSoFar (schedule_with order script (helm_of s) names) history) (left : ℕ → List Entry) → so.left ≡ left_by (length script.names) (λ n. []) (drop to script.lines) left
        → ((n : ℕ) → (length script.names) ≤ n → n < parts script s → left n ≡ turns_left script.stop s names history) → HasPlayed order script names s to history
    has_played order s to history so left is turns = record {
      so_far = so;
      left = λ n under. ap (λ (left : ℕ → List Entry). left n) is ∙ by n under (either (nat_lt n (length script.names)));
    }
      where
        by : (n : ℕ) → n < parts script s → (nat_lt n (length script.names) ≡ true) ⊎ (nat_lt n (length script.names) ≡ false) → left_by (length script.names) (λ n. []) (drop to script.lines) left n ≡ left_for script s names to history n
        by n under (inl e) =
            ap (λ b. cond b ([] ++ entries_of n (drop to script.lines)) (left n)) e ∙ sym (ap (λ b. cond b (entries_of n (drop to script.lines)) (turns_left script.stop s names history)) e)
        by n under (inr e) =
            ap (λ b. cond b ([] ++ entries_of n (drop to script.lines)) (left n)) e ∙ turns n (grind (arith, nat_tests, e)) under ∙ sym (ap (λ b. cond b (entries_of n (drop to script.lines)) (turns_left script.stop s names history)) e)

    -- the helm's next turns rise from a moment that isn't above the next tick
    turns_late : (s : Option HelmClient) (number : ℕ) (history : History) (bound : ℕ) → StandsAt names number s history → ((t : HelmClient) → s ≡ Some t → t.ticks < ticks_to script.stop (helm_setup_of t) → bound ≤ suc (length (answerers (helm_of s))) * (t.ticks * t.period) + (suc t.number - (length script.names)))
        → never_falls bound (map (moment_in Stamp (length script.names) (length (answerers (helm_of s)))) (turns_left script.stop s names history)) ≡ true
    turns_late None number history bound stands low = refl
    turns_late (Some t) number history bound stands low = by (ticks_to script.stop (helm_setup_of t) - t.ticks) refl
      where
        by : (count : ℕ) → ticks_to script.stop (helm_setup_of t) - t.ticks ≡ count → never_falls bound (map (moment_in Stamp (length script.names) 1) (turns_from (answering (helm_setup_of t)) t.number t.period (heard_of names t.number history) t.ticks count)) ≡ true
        by zero e = refl
        by (suc count) e = turns_rise (answering (helm_setup_of t)) (length script.names) 1 t.number t.period (heard_of names t.number history) t.ticks (suc count) bound (low t refl (omega (arith, e)))

    -- LINES ARE PLAYED, or fronts of them.
    pub lines_step : (order : Order) (s : Option HelmClient) (from to : ℕ) (lines : List Entry) (history later : History) (played : HasPlayed order script names s from history) (rest : ℕ → List Entry) → parts script s ≤ length names → drop from script.lines ≡ lines ++ drop to script.lines
        → ((n : ℕ) → entries_of n lines ≡ entries_of n later ++ rest n) → MayCome script order s lines → StandsAt names (length script.names) s history
        → (on : IsLawfulSoFar (schedule_with order script (helm_of s) names) (history ++ later)) × (on.left ≡ left_by (length script.names) rest (drop to script.lines) (λ n. turns_left script.stop s names history))
    lines_step order s from to lines history later played rest room cut fronts come stands =
        step_on script.lines (length script.names) script.stop (tick_period (helm_of s)) (answerers (helm_of s)) (length names) (mailed_in names) order lines (drop to script.lines) history later played.so_far rest (λ n. turns_left script.stop s names history) room
        (λ n less. own_left order s from history played n less ∙ ap (entries_of n) cut) (λ n less. fronts n) (λ n past under. silent n past under) (all_raised (length script.names) (parts script s) later (omega arith) mine) (moment order played come)
      where
        all : clients_below (length script.names) (lines ++ drop to script.lines) ≡ true
        all = subst (λ lines. clients_below (length script.names) lines ≡ true) cut (theirs from)

        below : clients_below (length script.names) lines ≡ true
        below = (and_parts (clients_below (length script.names) lines) (clients_below (length script.names) (drop to script.lines)) (sym (list_all-append (λ line. nat_lt line.client (length script.names)) lines (drop to script.lines)) ∙ all)).0

        mine : clients_below (length script.names) later ≡ true
        mine = fronts_pass (λ line. nat_lt line.client (length script.names)) lines later (λ n. (rest n, fronts n)) below

        none : (n : ℕ) → (length script.names) ≤ n → entries_of n later ≡ []
        none n past = none_of (length script.names) n later past mine

        silent : (n : ℕ) → (length script.names) ≤ n → n < parts script s → due_in (schedule_with order script (helm_of s) names) n (played.so_far.rest ++ later) ≡ entries_of n (played.so_far.rest ++ later) ++ turns_left script.stop s names history
        silent n past under =
            due_stays (schedule_with order script (helm_of s) names) n played.so_far.rest later (none n past) ∙ played.so_far.own n under ∙ ap (λ left. entries_of n played.so_far.rest ++ left) (helm_has_left order s from history played n past under)
            ∙ ap (λ own. own ++ turns_left script.stop s names history) (sym (filter-append (λ entry. entry.client == n) played.so_far.rest later ∙ ap (λ end. entries_of n played.so_far.rest ++ end) (none n past) ∙ append-nil (entries_of n played.so_far.rest)))

        bounded : (factor low high rank : ℕ) → low ≤ high → factor * low ≤ factor * high + rank
        bounded factor low high rank less = let same : factor ≤ factor = omega arith in omega (arith, mul-le-mul same less)

        moment : (order : Order) (played : HasPlayed order script names s from history) → MayCome script order s lines
            → KeepsMoment script.lines (length script.names) script.stop (tick_period (helm_of s)) (answerers (helm_of s)) (length names) (mailed_in names) order played.so_far.rest later (left_by (length script.names) rest (drop to script.lines) (λ n. turns_left script.stop s names history))
        moment Race played come = tt
        moment Stamp played come =
            let first = some_first lines come.some in
            let line = first.0 in
            let part = first.1 in
            let is = first.2 in
            let one = subst (λ lines. list_all (λ line. line.stamp == come.stamp) lines ≡ true) is come.one in
            let here = (and_parts (line.stamp == come.stamp) (list_all (λ line. line.stamp == come.stamp) part) one).0 in
            let same : line.stamp ≡ come.stamp = grind (arith, nat_tests, here) in
            lines_moment script.lines (length script.names) script.stop (tick_period (helm_of s)) (answerers (helm_of s)) (length names) (mailed_in names) come.stamp line part (drop to script.lines) history later played.so_far rest (λ n. turns_left script.stop s names history)
            (λ n less. own_left Stamp s from history played n less ∙ ap (entries_of n) (cut ∙ ap (λ lines. lines ++ drop to script.lines) is)) (λ n less. ap (entries_of n) (sym is) ∙ fronts n)
            (subst (λ lines. clients_below (length script.names) (lines ++ drop to script.lines) ≡ true) is all)
            (subst (λ stamp. list_all (λ (line : Entry). nat_le stamp line.stamp) ((line ∷ part) ++ drop to script.lines) ≡ true) same (drop_late (length script.names) 0 script.stop script.lines from line (part ++ drop to script.lines) valid (cut ∙ ap (λ lines. lines ++ drop to script.lines) is)))
            same mine (fronts_pass (λ line. line.stamp == come.stamp) lines later (λ n. (rest n, fronts n)) come.one)
            (λ n past under. turns_late s (length script.names) history (suc (length (answerers (helm_of s))) * come.stamp) stands (λ t is left. bounded (suc (length (answerers (helm_of s)))) come.stamp (t.ticks * t.period) (suc t.number - (length script.names)) (ahead script s come.stamp come.early t is left)))

    -- THE HELM MAKES TURNS beside lines that are played, or fronts of both.
    pub helm_step : (order : Order) (helm : HelmSetup) (from to : ℕ) (lines : List Entry) (history later : History) (so : IsLawfulSoFar (schedule_with order script (Some helm) names) history) (rest : ℕ → List Entry) (left : List Entry) → length script.names + 1 ≤ length names
        → ((n : ℕ) → n < length script.names → so.left n ≡ entries_of n (drop from script.lines)) → drop from script.lines ≡ lines ++ drop to script.lines → ((n : ℕ) → n < length script.names → entries_of n lines ≡ entries_of n later ++ rest n)
        → due_in (schedule_with order script (Some helm) names) (length script.names) (so.rest ++ later) ≡ entries_of (length script.names) (so.rest ++ later) ++ left → clients_below (length script.names + 1) later ≡ true
        → KeepsMoment script.lines (length script.names) script.stop helm.period (answerers (Some helm)) (length names) (mailed_in names) order so.rest later (left_by (length script.names) rest (drop to script.lines) (λ n. left))
        → (on : IsLawfulSoFar (schedule_with order script (Some helm) names) (history ++ later)) × (on.left ≡ left_by (length script.names) rest (drop to script.lines) (λ n. left))
    helm_step order helm from to lines history later so rest left room own cut fronts due known moment =
        step_on script.lines (length script.names) script.stop helm.period (answerers (Some helm)) (length names) (mailed_in names) order lines (drop to script.lines) history later so rest (λ n. left) room
        (λ n less. own n less ∙ ap (entries_of n) cut) fronts
        (λ n past under. subst (λ n. due_in (schedule_with order script (Some helm) names) n (so.rest ++ later) ≡ entries_of n (so.rest ++ later) ++ left) (only n past under) due) known moment
      where
        only : (n : ℕ) → length script.names ≤ n → n < length script.names + 1 → length script.names ≡ n
        only n past under = omega (arith, past, under)
