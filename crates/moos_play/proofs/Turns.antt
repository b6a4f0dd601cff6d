-- The helm as a client that answers: its ticks are turns, and what it has done at its seat is the first of what it is due to do.
use Rattle.std.proofs.Common.{◌≡◌, ◌≢◌, ℕ, zero, suc, ◌+◌, ◌-◌, ◌*◌, ◌/◌, ◌<◌, ◌≤◌, ◌==◌, ◌&&◌, Bool, true, false, cond, List, [], ◌∷◌, ◌++◌, length, length-append, take, drop, Some, nat_lt, refl, sym, ap, ◌∙◌, subst, arith, append-nil, append_assoc, eq-eqb}
use Rattle.std.specs.Prelude.{map, not}
use Rattle.std.specs.List.{list_all}
use Rattle.std.proofs.lemmas.Bool.{and_from, and_parts}
use Rattle.std.proofs.lemmas.Bool.Decides.{nat_tests}
use Rattle.std.proofs.lemmas.List.{append_cancel_left, length-take, map-append, take-append-drop}
use Rattle.std.proofs.lemmas.List.Elements.{filter-append}
use Rattle.std.proofs.lemmas.List.Folds.{list_all-append}
use Rattle.std.proofs.Math.Nat.{mul-le-mul}
use native.Mathlib.Decide.{ℕ_discrete}
use Rattle.helm_core.proofs.Growing.{iteration_same}
use Rattle.helm_core.specs.declared.iteration.Iteration.{Iteration}
use Rattle.helm_core.specs.Iterations.{iteration_at}
use Rattle.helm_core.specs.Plans.{wants_of}
use Rattle.helm_core.specs.Ticks.{Tick}
use Rattle.moos_client.specs.Calls.{entries_of, entry_of}
use Rattle.moos_client.specs.Hearing.{heard_in}
use Rattle.moos_client.proofs.Hearing.{heard_append, heard_deaf}
use Rattle.moos_client.proofs.Histories.{front_pass, own_rest}
use Rattle.moos_lawful.specs.Answering.{answers_of, moment_in, openings, turns_from}
use Rattle.moos_lawful.specs.Schedules.{due_in, never_falls}
use Rattle.moos_lawful.proofs.Parts.{one_rises}
use Rattle.moos_lawful.proofs.Stepping.{turns_rise}
use Rattle.moos_play.proofs.Hearing.{ticks_stay}
use Rattle.script_reader.specs.declared.script.Order.TheVariants.{Stamp}
use Rattle.turn_lock.specs.Passes.{Begins}
use Rattle.moos_post.specs.declared.entry.Call.TheVariants.{Register, Post as Posts, Fetch}
use Rattle.moos_post.specs.declared.entry.Entry.{Entry}
use Rattle.moos_post.specs.Delivery.{is_fetch}
use Rattle.moos_post.specs.History.{History}
use Rattle.moos_play.specs.declared.helm_client.HelmClient.{HelmClient}
use Rattle.moos_play.specs.Lawful.{heard_of, mailed_in, opening_of, HelmSetup, tick_entries, ticks_of, ticks_to}
use Rattle.moos_play.specs.Schedules.{answering, schedule_with}
use Rattle.moos_play.specs.Steered.{IsStopped, helm_setup_of, Steers, turns_left}
use Rattle.script_reader.specs.declared.script.Order.{Order}
use Rattle.script_reader.specs.declared.script.Script.{Script}

-- the opening is the helm's
pub own_opening : (helm : HelmSetup) → entries_of helm.client (opening_of helm) ≡ opening_of helm
own_opening helm = subst (λ b. cond b (registering ∷ entries_of helm.client (more (nat_lt 0 (length helm.plan.opening)))) (entries_of helm.client (more (nat_lt 0 (length helm.plan.opening)))) ≡ registering ∷ more (nat_lt 0 (length helm.plan.opening))) (sym self)
    (ap (λ rest. registering ∷ rest) (by (nat_lt 0 (length helm.plan.opening))))
  where
    self : (helm.client == helm.client) ≡ true
    self = eq-eqb helm.client helm.client refl

    registering : Entry
    registering = entry_of helm.client 0 (Register (wants_of helm.plan))

    posting : Entry
    posting = entry_of helm.client 0 (Posts helm.plan.opening)

    more : Bool → List Entry
    more b = cond b (posting ∷ []) []

    by : (b : Bool) → entries_of helm.client (more b) ≡ more b
    by true = ap (λ b. cond b (posting ∷ []) []) self
    by false = refl

-- what the helm says at a turn is what its iteration posts
says_same : (helm : HelmSetup) (heard : List Tick) (i : ℕ) → i < length heard → (answering helm).says (take (suc i) heard) ≡ (iteration_at helm.plan heard i).posts
says_same helm heard i below =
    let many : length (take (suc i) heard) ≡ suc i = omega (arith, below, length-take (suc i) heard) in
    ap (λ n. (iteration_at helm.plan (take (suc i) heard) n).posts) (ap (λ n. n - 1) many ∙ omega arith)
    ∙ ap (λ (iteration : Iteration). iteration.posts) (sym (iteration_same helm.plan (take (suc i) heard) (drop (suc i) heard) i (omega (arith, many))) ∙ ap (λ heard. iteration_at helm.plan heard i) (take-append-drop (suc i) heard))

pub turns_are : (helm : HelmSetup) (heard : List Tick) (count more : ℕ) → count ≤ length heard
    → turns_from (answering helm) helm.client helm.period heard 0 (count + more) ≡ ticks_of helm heard count ++ turns_from (answering helm) helm.client helm.period heard count more
turns_are helm heard zero more below = ap (turns_from (answering helm) helm.client helm.period heard 0) (omega arith)
turns_are helm heard (suc count) more below =
    ap (turns_from (answering helm) helm.client helm.period heard 0) (omega arith)
    ∙ turns_are helm heard count (suc more) (omega (arith, below))
    ∙ (λ j. ticks_of helm heard count ++ entry_of helm.client (count * helm.period) Fetch ∷ entry_of helm.client (count * helm.period) (Posts (says_same helm heard count (omega (arith, below)) j)) ∷ turns_from (answering helm) helm.client helm.period heard (suc count) more)
    ∙ sym (append_assoc (ticks_of helm heard count) (tick_entries helm heard count) (turns_from (answering helm) helm.client helm.period heard (suc count) more))

pub start_is : (n : ℕ) (helm : HelmSetup) → helm.client ≡ n → openings n (answering helm ∷ []) ≡ opening_of helm
start_is n helm is = append-nil (map (entry_of n 0) (answering helm).opening) ∙ subst (λ n. map (entry_of n 0) (answering helm).opening ≡ opening_of helm) is (by (nat_lt 0 (length helm.plan.opening)))
  where
    by : (b : Bool) → map (entry_of helm.client 0) (Register (wants_of helm.plan) ∷ cond b (Posts helm.plan.opening ∷ []) []) ≡ entry_of helm.client 0 (Register (wants_of helm.plan)) ∷ cond b (entry_of helm.client 0 (Posts helm.plan.opening) ∷ []) []
    by true = refl
    by false = refl

-- the helm hears nothing at its opening
pub opening_deaf : (helm : HelmSetup) → list_all (λ entry. not (is_fetch entry.call)) (opening_of helm) ≡ true
opening_deaf helm = by (nat_lt 0 (length helm.plan.opening))
  where
    by : (b : Bool) → list_all (λ entry. not (is_fetch entry.call)) (entry_of helm.client 0 (Register (wants_of helm.plan)) ∷ cond b (entry_of helm.client 0 (Posts helm.plan.opening) ∷ []) []) ≡ true
    by true = refl
    by false = refl

pub heard_rest : (names : List (List ℕ)) (helm : HelmSetup) (rest : History) → heard_in (mailed_in names) helm.client (opening_of helm) rest ≡ heard_of names helm.client (opening_of helm ++ rest)
heard_rest names helm rest =
    sym (heard_append (mailed_in names) helm.client [] (opening_of helm) rest ∙ ap (λ heard. heard ++ heard_in (mailed_in names) helm.client (opening_of helm) rest) (heard_deaf (mailed_in names) helm.client [] (opening_of helm) (opening_deaf helm)))

-- what is known of the helm at its seat, and what is left of its turns
helm_due : (names : List (List ℕ)) (s : HelmClient) (stop : ℕ) (rest history : History) → history ≡ opening_of (helm_setup_of s) ++ rest → Steers names s history → s.ticks ≤ ticks_to stop (helm_setup_of s)
    → turns_from (answering (helm_setup_of s)) s.number s.period (heard_in (mailed_in names) s.number (opening_of (helm_setup_of s)) rest) 0 (suc (stop / s.period))
    ≡ entries_of s.number rest ++ turns_from (answering (helm_setup_of s)) s.number s.period (heard_of names s.number history) s.ticks (suc (stop / s.period) - s.ticks)
helm_due names s stop rest history is steers few =
    (λ j. turns_from (answering helm) s.number s.period (heard_is j) 0 (count j))
    ∙ turns_are helm heard s.ticks (suc (stop / s.period) - s.ticks) (omega (arith, steers.many))
    ∙ ap (λ front. front ++ turns_from (answering helm) s.number s.period heard s.ticks (suc (stop / s.period) - s.ticks)) (sym own)
  where
    helm : HelmSetup
    helm = helm_setup_of s

    heard : List Tick
    heard = heard_of names s.number history

    heard_is : heard_in (mailed_in names) s.number (opening_of helm) rest ≡ heard
    heard_is = heard_rest names helm rest ∙ ap (heard_of names s.number) (sym is)

    count : suc (stop / s.period) ≡ s.ticks + (suc (stop / s.period) - s.ticks)
    count = omega (arith, few)

    own : entries_of s.number rest ≡ ticks_of helm heard s.ticks
    own = own_rest (opening_of helm) rest s.number (ticks_of helm heard s.ticks) (ap (entries_of s.number) (sym is) ∙ steers.own ∙ ap (λ front. front ++ ticks_of helm heard s.ticks) (sym (own_opening helm)))

-- A helm that has stopped, between two ticks or within one, has made the first of what it is due to make: what is left of its tick, and the
-- ticks behind that, are left.
pub stopped_due : (names : List (List ℕ)) (helm : HelmSetup) (stop whole most : ℕ) (rest history : History) → history ≡ opening_of helm ++ rest → (stopped : IsStopped names helm whole most history) → most ≤ ticks_to stop helm
    → turns_from (answering helm) helm.client helm.period (heard_in (mailed_in names) helm.client (opening_of helm) rest) 0 (suc (stop / helm.period))
    ≡ entries_of helm.client rest ++ (stopped.left ++ turns_from (answering helm) helm.client helm.period (heard_of names helm.client history) (length (heard_of names helm.client history)) (suc (stop / helm.period) - length (heard_of names helm.client history)))
stopped_due names helm stop whole most rest history is stopped few =
    (λ j. turns_from (answering helm) helm.client helm.period (heard_is j) 0 (count j))
    ∙ turns_are helm heard (length heard) (suc (stop / helm.period) - length heard) (omega arith)
    ∙ ap (λ front. front ++ later) (sym own) ∙ append_assoc (entries_of helm.client rest) stopped.left later
  where
    heard : List Tick
    heard = heard_of names helm.client history

    later : List Entry
    later = turns_from (answering helm) helm.client helm.period heard (length heard) (suc (stop / helm.period) - length heard)

    heard_is : heard_in (mailed_in names) helm.client (opening_of helm) rest ≡ heard
    heard_is = heard_rest names helm rest ∙ ap (heard_of names helm.client) (sym is)

    count : suc (stop / helm.period) ≡ length heard + (suc (stop / helm.period) - length heard)
    count = omega (arith, stopped.few, few)

    all : opening_of helm ++ (entries_of helm.client rest ++ stopped.left) ≡ opening_of helm ++ ticks_of helm heard (length heard)
    all =
        sym (append_assoc (opening_of helm) (entries_of helm.client rest) stopped.left)
        ∙ ap (λ front. (front ++ entries_of helm.client rest) ++ stopped.left) (sym (own_opening helm))
        ∙ ap (λ front. front ++ stopped.left) (sym (filter-append (λ entry. entry.client == helm.client) (opening_of helm) rest) ∙ ap (entries_of helm.client) (sym is))
        ∙ stopped.own

    own : entries_of helm.client rest ++ stopped.left ≡ ticks_of helm heard (length heard)
    own = append_cancel_left (opening_of helm) (entries_of helm.client rest ++ stopped.left) (ticks_of helm heard (length heard)) all

-- what the helm is due to do by the schedule of a script are its turns
pub helm_part : (order : Order) (script : Script) (helm : HelmSetup) (names : List (List ℕ)) (rest : History) → helm.client ≡ length script.names
    → due_in (schedule_with order script (Some helm) names) (length script.names) rest ≡ turns_from (answering helm) helm.client helm.period (heard_in (mailed_in names) helm.client (opening_of helm) rest) 0 (ticks_to script.stop helm)
helm_part order script helm names rest number =
    ap (λ b. cond b (entries_of clients script.lines) (answers_of helm.period (ticks_to script.stop helm) clients (answering helm ∷ []) clients heard)) past
    ∙ ap (λ b. cond b (turns_from (answering helm) clients helm.period heard 0 (ticks_to script.stop helm)) []) (eq-eqb clients clients refl)
    ∙ (λ j. turns_from (answering helm) (sym number j) helm.period (heard_in (mailed_in names) (sym number j) (start_is clients helm number j) rest) 0 (ticks_to script.stop helm))
  where
    clients : ℕ
    clients = length script.names

    heard : List Tick
    heard = heard_in (mailed_in names) clients (openings clients (answering helm ∷ [])) rest

    past : nat_lt clients clients ≡ false
    past = grind (arith, nat_tests)

-- a helm between two ticks has its next turns left
pub helm_left : (order : Order) (script : Script) (names : List (List ℕ)) (s : HelmClient) (rest history : History) → history ≡ opening_of (helm_setup_of s) ++ rest → s.number ≡ length script.names → Steers names s history → s.ticks ≤ ticks_to script.stop (helm_setup_of s)
    → due_in (schedule_with order script (Some (helm_setup_of s)) names) (length script.names) rest ≡ entries_of (length script.names) rest ++ turns_left script.stop (Some s) names history
helm_left order script names s rest history is number steers few =
    helm_part order script (helm_setup_of s) names rest number ∙ helm_due names s script.stop rest history is steers few ∙ (λ i. entries_of (number i) rest ++ turns_left script.stop (Some s) names history)

-- what a helm that has stopped has left: what is left of its tick, and the turns behind that
abbrev pub stopped_left : (script : Script) (names : List (List ℕ)) (helm : HelmSetup) (whole most : ℕ) (history : History) → IsStopped names helm whole most history → List Entry
stopped_left script names helm whole most history stopped =
    let heard = heard_of names helm.client history in
    stopped.left ++ turns_from (answering helm) helm.client helm.period heard (length heard) (ticks_to script.stop helm - length heard)

pub helm_stopped : (order : Order) (script : Script) (names : List (List ℕ)) (helm : HelmSetup) (whole most : ℕ) (rest history : History) → history ≡ opening_of helm ++ rest → helm.client ≡ length script.names → (stopped : IsStopped names helm whole most history) → most ≤ ticks_to script.stop helm
    → due_in (schedule_with order script (Some helm) names) (length script.names) rest ≡ entries_of (length script.names) rest ++ stopped_left script names helm whole most history stopped
helm_stopped order script names helm whole most rest history is number stopped few =
    helm_part order script helm names rest number ∙ stopped_due names helm script.stop whole most rest history is stopped few ∙ (λ i. entries_of (number i) rest ++ stopped_left script names helm whole most history stopped)

-- a list that is empty with what stands behind it
pub front_none : (xs ys : List Entry) → xs ++ ys ≡ [] → xs ≡ []
front_none [] ys none = refl
front_none (x ∷ xs) ys none = absurd (omega (arith, ap length none))

-- What a helm that was alone has made of its next tick: nothing, or all but what is left of it.
pub record HasBegun (names : List (List ℕ)) (helm : HelmSetup) (count : ℕ) (history later left : History) : Type 0 where
  pub nothing : length (heard_of names helm.client (history ++ later)) ≡ count → later ++ left ≡ []
  pub begun : length (heard_of names helm.client (history ++ later)) ≢ count → (length (heard_of names helm.client (history ++ later)) ≡ suc count) × (later ++ left ≡ tick_entries helm (heard_of names helm.client (history ++ later)) count)

pub has_begun : (names : List (List ℕ)) (helm : HelmSetup) (count whole : ℕ) (history later : History) → length (heard_of names helm.client history) ≡ count → entries_of helm.client history ≡ opening_of helm ++ ticks_of helm (heard_of names helm.client history) count
    → later ≡ entries_of helm.client later → (stopped : IsStopped names helm whole (count + 1) (history ++ later)) → HasBegun names helm count history later stopped.left
has_begun names helm count whole history later many own alone stopped = record {
  nothing = λ is. append_cancel_left front (later ++ stopped.left) [] (made ∙ ap (λ n. opening_of helm ++ ticks_of helm now n) is ∙ sym (append-nil front));
  begun = λ other.
      let all : length now ≡ suc count = omega (arith, other, stopped.few, ap length gone_on, length-append start (heard_in (mailed_in names) helm.client history later), many) in (
        all,
        append_cancel_left front (later ++ stopped.left) (tick_entries helm now count)
            (made ∙ ap (λ n. opening_of helm ++ ticks_of helm now n) all ∙ sym (append_assoc (opening_of helm) (ticks_of helm now count) (tick_entries helm now count))),
      );
}
  where
    start : List Tick
    start = heard_of names helm.client history

    now : List Tick
    now = heard_of names helm.client (history ++ later)

    front : List Entry
    front = opening_of helm ++ ticks_of helm now count

    gone_on : now ≡ start ++ heard_in (mailed_in names) helm.client history later
    gone_on = heard_append (mailed_in names) helm.client [] history later

    earlier : ticks_of helm now count ≡ ticks_of helm start count
    earlier = ap (λ heard. ticks_of helm heard count) gone_on ∙ ticks_stay helm start (heard_in (mailed_in names) helm.client history later) count (omega (arith, many))

    made : front ++ (later ++ stopped.left) ≡ opening_of helm ++ ticks_of helm now (length now)
    made = ap (λ ticks. (opening_of helm ++ ticks) ++ (later ++ stopped.left)) earlier ∙ ap (λ front. front ++ (later ++ stopped.left)) (sym own)
        ∙ sym (append_assoc (entries_of helm.client history) later stopped.left) ∙ ap (λ own. (entries_of helm.client history ++ own) ++ stopped.left) alone
        ∙ ap (λ front. front ++ stopped.left) (sym (filter-append (λ entry. entry.client == helm.client) history later)) ∙ stopped.own

-- so its entries are a front of the tick's
pub begun_front : (names : List (List ℕ)) (helm : HelmSetup) (count : ℕ) (history later left : History) → HasBegun names helm count history later left → Begins (tick_entries helm (heard_of names helm.client (history ++ later)) count) later
begun_front names helm count history later left so = by (ℕ_discrete (length (heard_of names helm.client (history ++ later))) count)
  where
    tick : List Entry
    tick = tick_entries helm (heard_of names helm.client (history ++ later)) count

    by : Dec (length (heard_of names helm.client (history ++ later)) ≡ count) → Begins tick later
    by (yes is) = (tick, ap (λ front. front ++ tick) (sym (front_none later left (so.nothing is))))
    by (no other) = (left, sym (so.begun other).1)

-- all entries of a tick have the second moment of their stamp
tick_one : (clients : ℕ) (helm : HelmSetup) (heard : List Tick) (i : ℕ) → list_all (λ entry. moment_in Stamp clients 1 entry == 2 * (i * helm.period) + (suc helm.client - clients)) (tick_entries helm heard i) ≡ true
tick_one clients helm heard i = and_from (m == m) ((m == m) && true) same (and_from (m == m) true same refl)
  where
    m : ℕ
    m = 2 * (i * helm.period) + (suc helm.client - clients)

    same : (m == m) ≡ true
    same = eq-eqb m m refl

-- a test of all entries by their moments
by_moments : (key : Entry → ℕ) (moment : ℕ) (xs : List Entry) → list_all (λ entry. key entry == moment) xs ≡ true → list_all (λ n. n == moment) (map key xs) ≡ true
by_moments key moment [] all = refl
by_moments key moment (x ∷ xs) all =
    let tests = and_parts (key x == moment) (list_all (λ entry. key entry == moment) xs) all in
    and_from (key x == moment) (list_all (λ n. n == moment) (map key xs)) tests.0 (by_moments key moment xs tests.1)

-- so have those of a front of it
pub front_one : (clients : ℕ) (helm : HelmSetup) (heard : List Tick) (i : ℕ) (later : List Entry) → Begins (tick_entries helm heard i) later → list_all (λ n. n == 2 * (i * helm.period) + (suc helm.client - clients)) (map (moment_in Stamp clients 1) later) ≡ true
front_one clients helm heard i later begins =
    by_moments (moment_in Stamp clients 1) (2 * (i * helm.period) + (suc helm.client - clients)) later (front_pass (λ entry. moment_in Stamp clients 1 entry == 2 * (i * helm.period) + (suc helm.client - clients)) (tick_entries helm heard i) later begins (tick_one clients helm heard i))

-- and what is left of it, with the turns behind
pub left_late : (clients : ℕ) (names : List (List ℕ)) (helm : HelmSetup) (count whole more : ℕ) (history later : History) (stopped : IsStopped names helm whole (count + 1) (history ++ later)) → HasBegun names helm count history later stopped.left → count ≤ length (heard_of names helm.client (history ++ later))
    → never_falls (2 * (count * helm.period) + (suc helm.client - clients))
    (map (moment_in Stamp clients 1) (stopped.left ++ turns_from (answering helm) helm.client helm.period (heard_of names helm.client (history ++ later)) (length (heard_of names helm.client (history ++ later))) more)) ≡ true
left_late clients names helm count whole more history later stopped begun heard =
    subst (λ all. never_falls m all ≡ true) (sym (map-append key stopped.left turns))
    (one_rises m (map key stopped.left) (map key turns) (by_moments key m stopped.left (same (ℕ_discrete (length now) count))) (turns_rise (answering helm) clients 1 helm.client helm.period now (length now) more m low))
  where
    key : Entry → ℕ
    key = moment_in Stamp clients 1

    m : ℕ
    m = 2 * (count * helm.period) + (suc helm.client - clients)

    now : List Tick
    now = heard_of names helm.client (history ++ later)

    turns : List Entry
    turns = turns_from (answering helm) helm.client helm.period now (length now) more

    low : m ≤ 2 * (length now * helm.period) + (suc helm.client - clients)
    low = let period : helm.period ≤ helm.period = omega arith in omega (arith, mul-le-mul heard period)

    back_none : (xs ys : List Entry) → xs ++ ys ≡ [] → ys ≡ []
    back_none [] ys none = none
    back_none (x ∷ xs) ys none = absurd (omega (arith, ap length none))

    same : Dec (length now ≡ count) → list_all (λ entry. key entry == m) stopped.left ≡ true
    same (yes is) = subst (λ left. list_all (λ entry. key entry == m) left ≡ true) (sym (back_none later stopped.left (begun.nothing is))) refl
    same (no other) =
        (and_parts (list_all (λ entry. key entry == m) later) (list_all (λ entry. key entry == m) stopped.left)
        (sym (list_all-append (λ entry. key entry == m) later stopped.left) ∙ ap (list_all (λ entry. key entry == m)) (begun.begun other).1 ∙ tick_one clients helm now count)).1
