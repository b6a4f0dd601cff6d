-- A run that is over, and one that was cut off: what is lawful by the schedule is lawful beside the entries of further clients.
use Rattle.moos_play.proofs.Moving.{made_many}
use Rattle.std.proofs.Common.{◌≡◌, ◌≢◌, ℕ, zero, suc, ◌+◌, ◌-◌, ◌*◌, ◌/◌, ◌<◌, ◌≤◌, ◌==◌, ◌⊎◌, inl, inr, Bool, true, false, cond, List, [], ◌∷◌, ◌++◌, length, drop, Option, None, Some, nat_le, nat_lt, refl, sym, ap, ◌∙◌, subst, arith, append-nil, eq-eqb, ne_eqb}
use Rattle.std.specs.Prelude.{map, option_map, IfSome}
use Rattle.std.specs.List.{list_all}
use Rattle.std.proofs.lemmas.Bool.{and_from}
use Rattle.std.proofs.lemmas.Bool.Decides.{nat_tests}
use Rattle.std.proofs.lemmas.List.{drop_all}
use Rattle.helm_core.specs.Ticks.{Tick}
use Rattle.moos_client.specs.Calls.{entries_of}
use Rattle.moos_client.specs.Hearing.{fetches, heard_in}
use Rattle.moos_client.proofs.Hearing.{heard_many}
use Rattle.moos_lawful.specs.Answering.{answers_of, moment_in, openings, turns_from}
use Rattle.moos_lawful.specs.Schedules.{clients_below, entries_below, IsLawfulFor, IsPlayable, never_falls}
use Rattle.moos_lawful.proofs.Going.{completion, lawful_then}
use Rattle.moos_lawful.proofs.Parts.{either, none_of}
use Rattle.moos_lawful.proofs.Playable.{is_playable}
use Rattle.moos_lawful.proofs.Widening.{rises_from}
use Rattle.moos_post.specs.declared.entry.Entry.{Entry}
use Rattle.moos_post.specs.History.{History}
use Rattle.moos_play.specs.declared.stage.Stage.{Stage}
use Rattle.moos_play.specs.declared.run.HelmRun.{HelmRun}
use Rattle.moos_play.specs.declared.helm_client.HelmClient.{HelmClient}
use Rattle.moos_play.specs.Lawful.{heard_of, helm_number, IsLawful, IsLawfulBeside, iterations, KeepsOrder, known_clients, mailed_in, moment_of, names_with, opening_of, HelmSetup, helm_setup_with, ticks_of, ticks_to}
use Rattle.moos_play.specs.Plays.{clients_in, GoesOnWith, HasCompletion, HasSteeredSoFar, HasTicked, helm_in, history_in, IsPlayedOut, IsRunFor, iterations_by, iterations_made, left_in, order_played, Playing, script_played, ticks_behind}
use Rattle.moos_play.specs.Runs.{IsAtPlay, IsCutOff, IsPaused, playing_of, shown_by}
use Rattle.moos_play.specs.Schedules.{answerers, answering, schedule_with, tick_period}
use Rattle.moos_play.specs.Steered.{helm_of, parts, helm_setup_of, turns_left, ticks_in}
use Rattle.moos_play.proofs.Standing.{HasHeard, StandsAt}
use Rattle.moos_play.proofs.Below.{kept_pass, lawful_alone, names_more, own_below}
use Rattle.moos_play.proofs.Coming.{has_heard}
use Rattle.moos_play.proofs.Ending.{made_over}
use Rattle.moos_play.proofs.Handing.{iterations_more}
use Rattle.moos_play.proofs.Stepping.{lines_clients}
use Rattle.moos_play.proofs.Turns.{heard_rest, start_is, turns_are}
use Rattle.script_reader.specs.declared.script.Order.{Order}
use Rattle.script_reader.specs.declared.script.Order.TheVariants.{Stamp, Race}
use Rattle.script_reader.specs.declared.script.Script.{Script}
use Rattle.script_reader.specs.Validity.{are_lines}

-- a fetch a turn
fetches_turns : (helm : HelmSetup) (heard : List Tick) (i count : ℕ) → fetches (turns_from (answering helm) helm.client helm.period heard i count) ≡ count
fetches_turns helm heard i zero = refl
fetches_turns helm heard i (suc count) = ap suc (fetches_turns helm heard (suc i) count)

-- no number is below 0
from_none : (key : Entry → ℕ) (xs : List Entry) → list_all (λ entry. nat_le 0 (key entry)) xs ≡ true
from_none key [] = refl
from_none key (x ∷ xs) = and_from (nat_le 0 (key x)) (list_all (λ entry. nat_le 0 (key entry)) xs) (grind (arith, nat_tests)) (from_none key xs)

-- nobody from a number on is below it
past_below : (known n : ℕ) (xs : History) → known ≤ n → entries_of n (entries_below known xs) ≡ []
past_below known n [] past = refl
past_below known n (x ∷ xs) past = by (nat_lt x.client known) refl (past_below known n xs past)
  where
    by : (b : Bool) → nat_lt x.client known ≡ b → entries_of n (entries_below known xs) ≡ [] → entries_of n (cond b (x ∷ entries_below known xs) (entries_below known xs)) ≡ []
    by true e rest =
        let below : x.client < known = grind (arith, nat_tests, e) in
        ap (λ b. cond b (x ∷ entries_of n (entries_below known xs)) (entries_of n (entries_below known xs))) (ne_eqb x.client n (λ is. absurd (omega (arith, is, below, past)))) ∙ rest
    by false e rest = rest

-- the moment of a client that is known: as before
pub moment_new : (clients : ℕ) (entry : Entry) → nat_lt entry.client (clients + 1) ≡ true → moment_in Stamp clients 1 entry ≡ moment_of clients entry
moment_new clients entry below = by (entry.client == clients) refl
  where
    by : (b : Bool) → (entry.client == clients) ≡ b → suc 1 * entry.stamp + (suc entry.client - clients) ≡ cond b (suc (2 * entry.stamp)) (2 * entry.stamp)
    by true e = let same : entry.client ≡ clients = grind (arith, nat_tests, e) in omega (arith, same)
    by false e = let less : entry.client < clients = grind (arith, nat_tests, e, below) in omega (arith, less)

-- with a helm
lawful_helm : (order : Order) (script : Script) (helm : HelmSetup) (names : List (List ℕ)) (history : History) → helm.client ≡ helm_number script → list_all (λ line. nat_lt line.client (helm_number script)) script.lines ≡ true
    → IsLawfulFor (schedule_with order script (Some helm) names) history → IsLawfulBeside order script (Some helm) names history
lawful_helm order script helm names history number lines so = record {
  rest = so.rest;
  opened = so.opened ∙ ap (λ start. start ++ so.rest) start;
  steered = own_below known clients so.rest (omega (arith, known_is)) ∙ subst (λ n. entries_of n so.rest ≡ ticks_of helm (heard_of names n history) (ticks_to script.stop helm)) number steered;
  own = λ n other. own n other (either (nat_lt n clients));
  moments = moments order so.moments;
  named = so.named;
}
  where
    clients : ℕ
    clients = helm_number script

    known : ℕ
    known = known_clients script (Some helm)

    known_is : known ≡ clients + 1
    known_is = names_more script helm

    start : openings clients (answering helm ∷ []) ≡ opening_of helm
    start = start_is clients helm number

    ticks : ℕ
    ticks = suc (script.stop / helm.period)

    -- what the helm hears
    hears : List Tick
    hears = heard_in (mailed_in names) helm.client (openings clients (answering helm ∷ [])) so.rest

    heard : hears ≡ heard_of names helm.client history
    heard = (λ i. heard_in (mailed_in names) helm.client (start i) so.rest) ∙ heard_rest names helm so.rest ∙ ap (heard_of names helm.client) (sym (so.opened ∙ ap (λ start. start ++ so.rest) start))

    due_helm : (n : ℕ) → n ≡ clients → entries_of n so.rest ≡ turns_from (answering helm) n helm.period (heard_in (mailed_in names) n (openings clients (answering helm ∷ [])) so.rest) 0 ticks
    due_helm n is =
        let below : n < clients + 1 = omega (arith, is) in
        let past : nat_lt n clients ≡ false = grind (arith, nat_tests, is) in
        so.own n below
        ∙ ap (λ b. cond b (entries_of n script.lines) (answers_of helm.period ticks clients (answering helm ∷ []) n (heard_in (mailed_in names) n (openings clients (answering helm ∷ [])) so.rest))) past
        ∙ ap (λ b. cond b (turns_from (answering helm) n helm.period (heard_in (mailed_in names) n (openings clients (answering helm ∷ [])) so.rest) 0 ticks) []) (eq-eqb clients n (sym is))

    turns : entries_of helm.client so.rest ≡ turns_from (answering helm) helm.client helm.period hears 0 ticks
    turns = due_helm helm.client number

    many : length hears ≡ ticks
    many = heard_many (mailed_in names) helm.client (openings clients (answering helm ∷ [])) so.rest ∙ ap fetches turns ∙ fetches_turns helm hears 0 ticks

    no_more : ticks ≡ ticks + 0
    no_more = omega arith

    steered : entries_of helm.client so.rest ≡ ticks_of helm (heard_of names helm.client history) ticks
    steered =
        turns ∙ ap (turns_from (answering helm) helm.client helm.period hears 0) no_more ∙ turns_are helm hears ticks 0 (omega (arith, many)) ∙ append-nil (ticks_of helm hears ticks)
        ∙ ap (λ heard. ticks_of helm heard ticks) heard

    own : (n : ℕ) → n ≢ clients → (nat_lt n clients ≡ true) ⊎ (nat_lt n clients ≡ false) → entries_of n (entries_below known so.rest) ≡ entries_of n script.lines
    own n other (inl e) =
        let less : n < clients = grind (arith, nat_tests, e) in
        own_below known n so.rest (omega (arith, less, known_is)) ∙ so.own n (omega (arith, less))
        ∙ ap (λ b. cond b (entries_of n script.lines) (answers_of helm.period ticks clients (answering helm ∷ []) n (heard_in (mailed_in names) n (openings clients (answering helm ∷ [])) so.rest))) e
    own n other (inr e) =
        let past : clients ≤ n = grind (arith, nat_tests, e) in
        past_below known n so.rest (above past) ∙ sym (none_of clients n script.lines past lines)
      where
        above : clients ≤ n → known ≤ n
        above past = omega (arith, past, known_is, other)

    below_all : list_all (λ entry. nat_lt entry.client (clients + 1)) (entries_below known so.rest) ≡ true
    below_all = subst (λ k. list_all (λ entry. nat_lt entry.client k) (entries_below known so.rest) ≡ true) known_is (kept_pass (λ entry. nat_lt entry.client known) so.rest)

    moments : (order : Order) → never_falls 0 (map (moment_in order clients 1) (entries_below (clients + 1) so.rest ++ [])) ≡ true → KeepsOrder order clients (entries_below known so.rest)
    moments Race h = tt
    moments Stamp h =
        rises_from (λ entry. nat_lt entry.client (clients + 1)) (moment_in Stamp clients 1) (moment_of clients)
        (λ x y px py less. subst (λ m. m ≤ moment_of clients y) (moment_new clients x px) (subst (λ m. moment_in Stamp clients 1 x ≤ m) (moment_new clients y py) less)) 0 (entries_below known so.rest) below_all (from_none (moment_of clients) (entries_below known so.rest))
        (subst (λ k. never_falls 0 (map (moment_in Stamp clients 1) (entries_below k so.rest)) ≡ true) (sym known_is) (subst (λ all. never_falls 0 (map (moment_in Stamp clients 1) all) ≡ true) (append-nil (entries_below (clients + 1) so.rest)) h))

-- and without one
lawful_lines : (order : Order) (script : Script) (names : List (List ℕ)) (history : History) → clients_below (helm_number script) script.lines ≡ true → IsLawfulFor (schedule_with order script None names) history → IsLawfulBeside order script None names history
lawful_lines order script names history lines so = record {
  rest = so.rest;
  opened = so.opened;
  steered = past_below clients clients so.rest (omega arith);
  own = λ n other. own n other (either (nat_lt n clients));
  moments = moments order so.moments;
  named = so.named;
}
  where
    clients : ℕ
    clients = helm_number script

    no_more : clients + 0 ≡ clients
    no_more = omega arith

    own : (n : ℕ) → n ≢ clients → (nat_lt n clients ≡ true) ⊎ (nat_lt n clients ≡ false) → entries_of n (entries_below clients so.rest) ≡ entries_of n script.lines
    own n other (inl e) =
        let less : n < clients = grind (arith, nat_tests, e) in
        own_below clients n so.rest less ∙ so.own n (omega (arith, less)) ∙ ap (λ b. cond b (entries_of n script.lines) []) e
    own n other (inr e) =
        let past : clients ≤ n = grind (arith, nat_tests, e) in
        past_below clients n so.rest past ∙ sym (none_of clients n script.lines past lines)

    keeps : (x y : Entry) → nat_lt x.client clients ≡ true → nat_lt y.client clients ≡ true → moment_in Stamp clients 0 x ≤ moment_in Stamp clients 0 y → moment_of clients x ≤ moment_of clients y
    keeps x y px py less = omega (arith, line_stamp x px, line_stamp y py, less, first_moment x px, first_moment y py)
      where
        line_stamp : (e : Entry) → nat_lt e.client clients ≡ true → moment_of clients e ≡ 2 * e.stamp
        line_stamp e below = ap (λ b. cond b (suc (2 * e.stamp)) (2 * e.stamp)) (ne_eqb e.client clients (λ is. absurd (grind (arith, nat_tests, below, is))))

        first_moment : (e : Entry) → nat_lt e.client clients ≡ true → suc 0 * e.stamp + (suc e.client - clients) ≡ e.stamp
        first_moment e below = let less : e.client < clients = grind (arith, nat_tests, below) in omega (arith, less)

    moments : (order : Order) → never_falls 0 (map (moment_in order clients 0) (entries_below (clients + 0) so.rest ++ [])) ≡ true → KeepsOrder order clients (entries_below clients so.rest)
    moments Race h = tt
    moments Stamp h =
        rises_from (λ entry. nat_lt entry.client clients) (moment_in Stamp clients 0) (moment_of clients) keeps 0 (entries_below clients so.rest) (kept_pass (λ entry. nat_lt entry.client clients) so.rest) (from_none (moment_of clients) (entries_below clients so.rest))
        (subst (λ k. never_falls 0 (map (moment_in Stamp clients 0) (entries_below k so.rest)) ≡ true) no_more (subst (λ all. never_falls 0 (map (moment_in Stamp clients 0) all) ≡ true) (append-nil (entries_below (clients + 0) so.rest)) h))

-- A HISTORY THAT IS LAWFUL FOR THE SCHEDULE of a script and its helm is lawful beside the entries of further clients.
lawful_beside : (order : Order) (script : Script) (s : Option HelmClient) (names : List (List ℕ)) (history past : History) → are_lines (length script.names) 0 script.stop script.lines ≡ true → HasHeard names (helm_number script) script.stop s past
    → IsLawfulFor (schedule_with order script (helm_of s) names) history → IsLawfulBeside order script (helm_of s) names history
lawful_beside order script None names history past valid heard so = lawful_lines order script names history (lines_clients (length script.names) 0 script.stop script.lines valid) so
lawful_beside order script (Some s) names history past valid heard so = lawful_helm order script (helm_setup_of s) names history heard.0 (lines_clients (length script.names) 0 script.stop script.lines valid) so

-- the schedule is playable
pub plays : (order : Order) (script : Script) (s : Option HelmClient) (names : List (List ℕ)) → parts script s ≤ length names → IsPlayable (schedule_with order script (helm_of s) names)
plays order script s names room = is_playable order script.lines (length script.names) script.stop (tick_period (helm_of s)) (answerers (helm_of s)) (length names) (mailed_in names) room

-- as many clients have a part as are known
pub parts_known : (script : Script) (s : Option HelmClient) → parts script s ≡ known_clients script (helm_of s)
parts_known script None = omega arith
parts_known script (Some s) = sym (names_more script (helm_setup_of s))

-- a run that was cut off can be completed
pub completed : (play : Stage) (w : Bool) → are_lines (length play.script.now.names) 0 play.script.now.stop play.script.now.lines ≡ true → IsCutOff play → HasCompletion (playing_of play w)
completed play w valid cut =
    let whole = completion (schedule_with play.order play.script.now (helm_of play.helm_client) play.lock.base) (plays play.order play.script.now play.helm_client play.lock.base cut.room) play.first.seat.seen cut.so_far in
    let made = iterations_more play.lock.base (helm_number play.script.now) play.script.now.stop play.helm_client play.first.seat.seen whole.rest cut.heard in
    let lawful = lawful_beside play.order play.script.now play.helm_client play.lock.base (play.first.seat.seen ++ whole.rest) play.first.seat.seen valid cut.heard whole.lawful in
    record {
      rest = whole.rest;
      known = subst (λ number. clients_below number whole.rest ≡ true) (parts_known play.script.now play.helm_client) whole.known_alone;
      lawful = lawful;
      alone = λ named. lawful_alone play.order play.script.now (helm_of play.helm_client) play.lock.base (play.first.seat.seen ++ whole.rest) named lawful;
      more = made.0;
      iterations = made.1;
    }

-- so can one between two rounds
pub has_completion : (play : Stage) (w : Bool) → IsPaused play → HasCompletion (playing_of play w)
has_completion play w between = completed play w between.at_play.valid.lines (record {
  so_far = between.at_play.under.played.so_far;
  room = between.at_play.under.seats;
  heard = has_heard play.lock.base (helm_number play.script.now) play.script.now.stop play.helm_client play.first.seat.seen between.at_play.under.steered between.at_play.period;
})

-- a run in which nothing is left
lawful_end : (play : Stage) → IsAtPlay play → left_in (shown_by play) ≡ 0 → IsLawfulBeside play.order play.script.now (helm_of play.helm_client) play.lock.base play.first.seat.seen
lawful_end play at none =
    lawful_beside play.order play.script.now play.helm_client play.lock.base play.first.seat.seen play.first.seat.seen at.valid.lines (has_heard play.lock.base (helm_number play.script.now) play.script.now.stop play.helm_client play.first.seat.seen at.under.steered at.period)
    (lawful_then (schedule_with play.order play.script.now (helm_of play.helm_client) play.lock.base) (plays play.order play.script.now play.helm_client play.lock.base at.under.seats) play.first.seat.seen at.under.played.so_far (λ n below. at.under.played.left n below ∙ by n (nat_lt n (length play.script.now.names))))
  where
    no_lines : drop play.from play.script.now.lines ≡ []
    no_lines = drop_all play.from play.script.now.lines (omega (arith, none))

    no_turns : (s : Option HelmClient) → ticks_behind play.script.now.stop (helm_of s) (ticks_in s) ≡ 0 → turns_left play.script.now.stop s play.lock.base play.first.seat.seen ≡ []
    no_turns None none = refl
    no_turns (Some s) none = ap (turns_from (answering (helm_setup_of s)) s.number s.period (heard_of play.lock.base s.number play.first.seat.seen) s.ticks) none

    by : (n : ℕ) (b : Bool) → cond b (entries_of n (drop play.from play.script.now.lines)) (turns_left play.script.now.stop play.helm_client play.lock.base play.first.seat.seen) ≡ []
    by n true = ap (entries_of n) no_lines
    by n false = no_turns play.helm_client (omega (arith, none))

-- so its history is lawful, and by itself where there are no further clients, and its iterations are those of this history
pub over_now : (play : Stage) (w : Bool) → IsAtPlay play → left_in (shown_by play) ≡ 0 → IsPlayedOut (playing_of play w)
over_now play w at none = record {
  lawful = lawful;
  alone = λ named. lawful_alone play.order play.script.now (helm_of play.helm_client) play.lock.base play.first.seat.seen named lawful;
  iterations = made_over play.lock.base (helm_number play.script.now) play.script.now.stop play.first.seat.seen play.helm_client at.under.steered at.period (omega (arith, none));
}
  where
    lawful : IsLawfulBeside play.order play.script.now (helm_of play.helm_client) play.lock.base play.first.seat.seen
    lawful = lawful_end play at none

-- the same of a run without further clients, where what it was begun with has other names
pub over_as : (start play : Playing) (order : Order) (script : Script) (helm : Option HelmRun) (names : List (List ℕ)) (history : History) → IsPlayedOut play → GoesOnWith start play → order_played start ≡ order → script_played start ≡ script
    → helm_in start ≡ option_map (helm_setup_with script) helm → clients_in start ≡ names_with script helm → clients_in play ≡ names → history_in play ≡ history → IsLawful order script (option_map (helm_setup_with script) helm) names history
    × (iterations_made play ≡ iterations (option_map (helm_setup_with script) helm) script.stop (heard_of names (helm_number script) history))
over_as start play order script helm names history out on order_is script_is helm_is named names_is history_is = (
  subst (λ (p : Playing). IsLawful (order_played p) (script_played p) (helm_in p) (clients_in p) (history_in p)) is
      (out.alone (on.names ∙ named ∙ same helm ∙ (λ i. names_with (sym (on.script ∙ script_is) i) (sym (on.helm ∙ helm_is) i)))),
  out.iterations ∙ ap (λ (p : Playing). iterations (helm_in p) (script_played p).stop (heard_of (clients_in p) (helm_number (script_played p)) (history_in p))) is,
)
  where
    is : play ≡ record play { order = order; script = script; helm = option_map (helm_setup_with script) helm; names = names; history = history }
    is = λ i. record play { order = (on.order ∙ order_is) i; script = (on.script ∙ script_is) i; helm = (on.helm ∙ helm_is) i; names = names_is i; history = history_is i }

    same : (helm : Option HelmRun) → names_with script helm ≡ names_with script (option_map (helm_setup_with script) helm)
    same None = refl
    same (Some run) = refl

-- between two rounds the helm has made as many ticks as there are iterations, and heard as many mails
pub has_steered : (play : Stage) (w : Bool) → IsPaused play → HasSteeredSoFar (playing_of play w)
has_steered play w between = at play.helm_client between.at_play.under.steered
  where
    at : (s : Option HelmClient) → StandsAt play.lock.base (helm_number play.script.now) s play.first.seat.seen
        → IfSome (helm_of s) (λ helm. HasTicked play.lock.base helm (length (iterations_by play.lock.base play.first.seat.seen (helm_of s) (ticks_in s))) play.first.seat.seen)
    at None stands = tt
    at (Some s) stands =
        let many = made_many play.lock.base play.first.seat.seen (Some s) in
        subst (λ n. HasTicked play.lock.base (helm_setup_of s) n play.first.seat.seen) (sym many) (record {
          own = stands.1.own;
          many = stands.1.many;
        })

-- the helm, where there is one, is run for the script
pub runs_for : (play : Stage) (w : Bool) → IsPaused play → IfSome (helm_of play.helm_client) (IsRunFor play.script.now (length (iterations_made (playing_of play w))))
runs_for play w ready = at play.helm_client ready.at_play.under.steered ready.at_play.period
  where
    at : (s : Option HelmClient) → StandsAt play.lock.base (helm_number play.script.now) s play.first.seat.seen → IfSome s (λ helm. (1 ≤ helm.period) × (helm.ticks ≤ ticks_to play.script.now.stop (helm_setup_of helm)))
        → IfSome (helm_of s) (IsRunFor play.script.now (length (iterations_by play.lock.base play.first.seat.seen (helm_of s) (ticks_in s))))
    at None stands period = tt
    at (Some s) stands period = record { client = stands.0; period = period.0; few = omega (arith, made_many play.lock.base play.first.seat.seen (Some s), period.1) }
