-- How a run begins.
use Rattle.script_reader.proofs.Sound.{line_tests}
use Rattle.script_reader.specs.declared.script.Order.TheVariants.{Stamp, Race}
use Rattle.script_reader.specs.declared.script.Order.{Order}
use Rattle.moos_step.specs.Steps.{CommunityLock, IsGathered, IsWhole, KnowsNothing}
use Rattle.moos_play.proofs.Turns.{helm_part, opening_deaf, own_opening, start_is}
use Rattle.moos_play.specs.Lawful.{heard_of, helm_number, iterations_of, mailed_in, names_with, opening, opening_of, HelmSetup, helm_setup_with, ticks_of, ticks_to}
use Rattle.moos_play.specs.Plays.{helm_in, history_in}
use Rattle.moos_play.specs.Runs.{IsPaused, shown_by}
use Rattle.moos_play.specs.Schedules.{answerers, answering, schedule_with, tick_period}
use Rattle.moos_play.specs.Steered.{HasOpened, helm_of, IsUnticked, IsUnderWay, iterations_in, left_for, parts, helm_setup_of, Steers, ticks_in, turns_left}
use Rattle.moos_play.proofs.Standing.{StandsAt}
use Rattle.moos_post.specs.declared.entry.Entry.{Entry}
use Rattle.moos_lawful.proofs.Stepping.{line_moment, race_rises, turns_rise}
use Rattle.moos_lawful.proofs.Rising.{lower}
use Rattle.moos_lawful.proofs.Parts.{either}
use Rattle.moos_lawful.specs.Schedules.{due_in, never_falls}
use Rattle.moos_lawful.specs.Answering.{answers_of, moment_in, openings, turns_from}
use Rattle.helm_core.specs.Ticks.{Tick}
use Rattle.std.proofs.Math.Nat.{mul-le-mul}
use Rattle.std.proofs.lemmas.Bool.Decides.{nat_tests}
use Rattle.std.proofs.lemmas.Bool.{and_from}
use Rattle.std.proofs.Common.{◌≡◌, ℕ, ◌+◌, ◌*◌, ◌^◌, ◌<◌, ◌≤◌, Bool, true, false, cond, List, [], ◌∷◌, ◌++◌, length, length-append, Option, None, Some, nat_lt, refl, sym, ap, ◌∙◌, subst, arith, suc, ◌/◌, ◌==◌, ◌⊎◌, inl, inr, nat_le, append-nil, append_assoc, ◌-◌}
use Rattle.std.proofs.lemmas.List.{drop_all}
use Rattle.std.specs.Prelude.{IfSome, option_map, map}
use Rattle.moos_play.specs.declared.stage.Stage.{Stage}
use Rattle.moos_play.specs.declared.run.HelmRun.{HelmRun}
use Rattle.moos_play.specs.declared.helm_client.HelmClient.{HelmClient}
use Rattle.helm_core.specs.Helms.{plan_of, StandsFor}
use Rattle.helm_core.specs.Plans.{wants_of}
use Rattle.moos_client.specs.Calls.{entry_of, entries_of, SeatState}
use Rattle.moos_post.specs.declared.entry.Call.TheVariants.{Register, Post as Posts}
use Rattle.moos_post.specs.History.{History}
use Rattle.moos_post.specs.declared.registration.Reg.{Reg}
use Rattle.moos_post.specs.declared.value.Pair.{Pair}
use Rattle.moos_play.proofs.Below.{names_more}
use Rattle.moos_client.proofs.Hearing.{heard_deaf}
use Rattle.moos_play.proofs.Hearing.{iterations_many}
use Rattle.script_reader.specs.declared.script.Script.{Script}
use Rattle.script_reader.specs.Validity.{are_lines, IsValid, keeps_limits}

-- a client's lines have later and later moments
lines_rise : (clients others n last stop : ℕ) (lines : List Entry) → are_lines clients last stop lines ≡ true → never_falls (suc others * last) (map (moment_in Stamp clients others) (entries_of n lines)) ≡ true
lines_rise clients others n last stop [] valid = refl
lines_rise clients others n last stop (line ∷ lines) valid =
    let tests = line_tests (nat_lt line.client clients) (nat_le last line.stamp) (keeps_limits line.call) (are_lines clients line.stamp stop lines) valid in
    let here = tests.1 in
    let less : last ≤ line.stamp = grind (arith, nat_tests) in
    by (line.client == n) (line_moment clients others line tests.0) (more less) (lines_rise clients others n line.stamp stop lines tests.3)
  where
    m : ℕ
    m = moment_in Stamp clients others line

    more : last ≤ line.stamp → suc others * last ≤ suc others * line.stamp
    more less = let factor : suc others ≤ suc others = omega arith in mul-le-mul factor less

    by : (b : Bool) → m ≡ suc others * line.stamp → suc others * last ≤ suc others * line.stamp → never_falls (suc others * line.stamp) (map (moment_in Stamp clients others) (entries_of n lines)) ≡ true
        → never_falls (suc others * last) (map (moment_in Stamp clients others) (cond b (line ∷ entries_of n lines) (entries_of n lines))) ≡ true
    by true is less rest =
        and_from (nat_le (suc others * last) m) (never_falls m (map (moment_in Stamp clients others) (entries_of n lines))) (grind (arith, nat_tests, is, less)) (subst (λ m. never_falls m (map (moment_in Stamp clients others) (entries_of n lines)) ≡ true) (sym is) rest)
    by false is less rest = lower (suc others * last) (suc others * line.stamp) (map (moment_in Stamp clients others) (entries_of n lines)) less rest

-- a helm hears nothing at its opening
opening_silent : (names : List (List ℕ)) (helm : HelmSetup) → heard_of names helm.client (opening_of helm) ≡ []
opening_silent names helm = heard_deaf (mailed_in names) helm.client [] (opening_of helm) (opening_deaf helm)

-- the number of a helm that is run for the script
run_number : (script : Script) (run : HelmRun) (s : HelmClient) → Some (helm_setup_of s) ≡ Some (helm_setup_with script run) → s.number ≡ helm_number script
run_number script run s is = let same : helm_setup_of s ≡ helm_setup_with script run = cc in ap (λ (helm : HelmSetup). helm.client) same

-- a helm that has made its opening alone stands where that has brought it
new_stands : (script : Script) (helm : Option HelmRun) (lock : CommunityLock) (helm_client : Option HelmClient) (first : SeatState) → helm_of helm_client ≡ option_map (helm_setup_with script) helm → HasOpened lock helm_client first
    → StandsAt lock.base (helm_number script) helm_client first.seen
new_stands script helm lock None first is so = tt
new_stands script None lock (Some s) first is so = absurd cc
new_stands script (Some run) lock (Some s) first is so = (
  run_number script run s is,
  subst (λ (seen : History). Steers lock.base s seen) (sym so.opened) (record {
    clock = subst (λ clock. clock ≤ s.ticks * s.period) (sym so.new.stands.clock) (omega arith);
    stands = subst (StandsFor s.helm) (sym silent) so.new.stands;
    many = ap length silent ∙ sym so.new.ticks;
    own = own_opening helm ∙ sym (ap (λ n. opening_of helm ++ ticks_of helm (heard_of lock.base s.number (opening_of helm)) n) so.new.ticks ∙ append-nil (opening_of helm));
    same = so.new.iterations ∙ sym (drop_all (s.ticks - length s.iterations) (iterations_of helm.plan (heard_of lock.base s.number (opening_of helm)) s.ticks) few);
  }),
)
  where
    helm : HelmSetup
    helm = helm_setup_of s

    silent : heard_of lock.base s.number (opening_of helm) ≡ []
    silent = opening_silent lock.base helm

    few : length (iterations_of helm.plan (heard_of lock.base s.number (opening_of helm)) s.ticks) ≤ s.ticks - length s.iterations
    few = omega (arith, so.new.ticks, iterations_many helm.plan (heard_of lock.base s.number (opening_of helm)) s.ticks)

-- before the first step: nothing is played, and all is left
pub start_under : (order : Order) (script : Script) (lock : CommunityLock) (helm_client : Option HelmClient) (first : SeatState) → are_lines (length script.names) 0 script.stop script.lines ≡ true → parts script helm_client ≤ length lock.base
    → HasOpened lock helm_client first → StandsAt lock.base (helm_number script) helm_client first.seen → IsUnderWay order script lock helm_client 0 first
start_under order script lock helm_client first valid seats so stands = record {
  gathered = so.gathered;
  whole = so.whole;
  within = omega arith;
  seats = seats;
  played = record {
    so_far = record {
      rest = [];
      opened = so.opened ∙ start helm_client stands ∙ sym (append-nil (schedule_with order script (helm_of helm_client) lock.base).start);
      left = left_for script helm_client lock.base 0 first.seen;
      own = λ n below. own helm_client n below stands so.new (either (nat_lt n clients));
      moments = λ n below. moments order n below (nat_lt n clients);
      named = refl;
    };
    left = λ n below. refl;
  };
  steered = stands;
}
  where
    clients : ℕ
    clients = length script.names

    start : (s : Option HelmClient) → StandsAt lock.base (helm_number script) s first.seen → opening (helm_of s) ≡ openings clients (answerers (helm_of s))
    start None stands = refl
    start (Some t) stands = sym (start_is clients (helm_setup_of t) stands.0)

    own : (s : Option HelmClient) (n : ℕ) → n < parts script s → StandsAt lock.base (helm_number script) s first.seen → IfSome s IsUnticked → (nat_lt n clients ≡ true) ⊎ (nat_lt n clients ≡ false)
        → due_in (schedule_with order script (helm_of s) lock.base) n [] ≡ left_for script s lock.base 0 first.seen n
    own s n below stands new (inl e) =
        ap (λ b. cond b (entries_of n script.lines) (answers_of (tick_period (helm_of s)) (suc (script.stop / tick_period (helm_of s))) clients (answerers (helm_of s)) n [])) e
        ∙ sym (ap (λ b. cond b (entries_of n script.lines) (turns_left script.stop s lock.base first.seen)) e)
    own None n below stands new (inr e) = absurd (grind (arith, nat_tests, e, below))
    own (Some t) n below stands new (inr e) =
        let same : n ≡ clients = grind (arith, nat_tests, e, below) in
        ap (λ n. due_in (schedule_with order script (Some (helm_setup_of t)) lock.base) n []) same ∙ helm_part order script (helm_setup_of t) lock.base [] stands.0
        ∙ (λ i. turns_from (answering (helm_setup_of t)) t.number t.period (sym (deaf (omega (arith, stands.1.many, new.ticks))) i) (sym new.ticks i) (count (sym new.ticks) i))
        ∙ sym (ap (λ b. cond b (entries_of n script.lines) (turns_left script.stop (Some t) lock.base first.seen)) e)
      where
        count : 0 ≡ t.ticks → ticks_to script.stop (helm_setup_of t) ≡ ticks_to script.stop (helm_setup_of t) - t.ticks
        count none = omega (arith, none)

        deaf : length (heard_of lock.base t.number first.seen) ≡ 0 → heard_of lock.base t.number first.seen ≡ []
        deaf none = empty (heard_of lock.base t.number first.seen) none
          where
            empty : (xs : List Tick) → length xs ≡ 0 → xs ≡ []
            empty [] none = refl
            empty (x ∷ xs) none = absurd cc

    moments : (o : Order) (n : ℕ) → n < parts script helm_client → (b : Bool) → never_falls 0 (map (moment_in o clients (length (answerers (helm_of helm_client)))) (cond b (entries_of n script.lines) (turns_left script.stop helm_client lock.base first.seen))) ≡ true
    moments Race n below b = race_rises clients (length (answerers (helm_of helm_client))) (cond b (entries_of n script.lines) (turns_left script.stop helm_client lock.base first.seen))
    moments Stamp n below true = subst (λ low. never_falls low (map (moment_in Stamp clients (length (answerers (helm_of helm_client)))) (entries_of n script.lines)) ≡ true) (omega arith) (lines_rise clients (length (answerers (helm_of helm_client))) n 0 script.stop script.lines valid)
    moments Stamp n below false = turns helm_client
      where
        turns : (s : Option HelmClient) → never_falls 0 (map (moment_in Stamp clients (length (answerers (helm_of s)))) (turns_left script.stop s lock.base first.seen)) ≡ true
        turns None = refl
        turns (Some t) = turns_rise (answering (helm_setup_of t)) clients 1 t.number t.period (heard_of lock.base t.number first.seen) t.ticks (ticks_to script.stop (helm_setup_of t) - t.ticks) 0 (omega arith)

-- the helm has a seat
pub new_within : (script : Script) (helm : Option HelmRun) (further : List (List ℕ)) (base : List (List ℕ)) (helm_client : Option HelmClient) → helm_of helm_client ≡ option_map (helm_setup_with script) helm → IfSome helm_client IsUnticked → base ≡ names_with script helm ++ further
    → IfSome helm_client (λ s. IsUnticked s × (s.number < length base))
new_within script helm further base None is new names = tt
new_within script None further base (Some s) is new names = absurd cc
new_within script (Some run) further base (Some s) is new names = (new, omega (arith, run_number script run s is, ap length names, length-append (names_with script (Some run)) further, names_more script run))

-- each client that is known from the start has a seat
seats_made : (script : Script) (helm : Option HelmRun) (further : List (List ℕ)) (base : List (List ℕ)) (helm_client : Option HelmClient) → helm_of helm_client ≡ option_map (helm_setup_with script) helm → base ≡ names_with script helm ++ further
    → parts script helm_client ≤ length base
seats_made script None further base None is names = omega (arith, ap length names, length-append script.names further)
seats_made script None further base (Some s) is names = absurd cc
seats_made script (Some run) further base None is names = absurd cc
seats_made script (Some run) further base (Some s) is names = omega (arith, ap length names, length-append (names_with script (Some run)) further, names_more script run)

-- no tick is made yet
ticks_begin : (stop : ℕ) (helm_client : Option HelmClient) → IfSome helm_client IsUnticked → IfSome helm_client (λ helm. (1 ≤ helm.period) × (helm.ticks ≤ ticks_to stop (helm_setup_of helm)))
ticks_begin stop None new = tt
ticks_begin stop (Some s) new = (new.period, omega (arith, new.ticks))

-- and no iteration is kept
new_untold : (helm_client : Option HelmClient) → IfSome helm_client IsUnticked → iterations_in helm_client ≡ []
new_untold None new = refl
new_untold (Some s) new = new.iterations

-- the run that is made
pub play_made : (helm : Option HelmRun) (further : List (List ℕ)) (play : Stage) → IsValid play.script.now → helm_of play.helm_client ≡ option_map (helm_setup_with play.script.now) helm → play.lock.base ≡ names_with play.script.now helm ++ further
    → HasOpened play.lock play.helm_client play.first.seat → length play.calls.items ≡ length play.script.now.names → play.from ≡ 0 → IsPaused play
play_made helm further play valid is names opened calls from = record {
  at_play = record {
    valid = valid;
    under = subst (λ from. IsUnderWay play.order play.script.now play.lock play.helm_client from play.first.seat) (sym from)
        (start_under play.order play.script.now play.lock play.helm_client play.first.seat valid.lines (seats_made play.script.now helm further play.lock.base play.helm_client is names) opened
        (new_stands play.script.now helm play.lock play.helm_client play.first.seat is opened));
    calls = calls;
    period = ticks_begin play.script.now.stop play.helm_client opened.new;
  };
  told = new_untold play.helm_client opened.new;
}

-- the names are few where there are no further ones
pub few_names : (script : Script) (helm : Option HelmRun) (further : List (List ℕ)) → further ≡ [] → length script.names ≤ 64 → length (names_with script helm ++ further) < 2 ^ 32
few_names script None further none few = omega (arith, length-append script.names further, ap length none, few)
few_names script (Some run) further none few = omega (arith, length-append (names_with script (Some run)) further, ap length none, names_more script run, few)

-- a run that has made just its opening has made no tick
pub none_ticked : (play : Stage) → IsPaused play → history_in (shown_by play) ≡ opening (helm_in (shown_by play)) → ticks_in play.helm_client ≡ 0
none_ticked play between begun = by play.helm_client between.at_play.under.steered begun
  where
    by : (s : Option HelmClient) → StandsAt play.lock.base (helm_number play.script.now) s play.first.seat.seen → play.first.seat.seen ≡ opening (helm_of s) → ticks_in s ≡ 0
    by None stands begun = refl
    by (Some s) stands begun =
        sym stands.1.many ∙ ap (λ history. length (heard_of play.lock.base s.number history)) begun ∙ ap length (opening_silent play.lock.base (helm_setup_of s))

-- nothing was seen, as nothing is known
pub nothing_whole : (first : SeatState) → KnowsNothing first → IsWhole first
nothing_whole first nothing n = ap (entries_of n) nothing.seen ∙ sym (nothing.known n)

-- the opening, by whether there are pairs to post
opening_is : (helm : HelmSetup) (b : Bool) → nat_lt 0 (length helm.plan.opening) ≡ b → opening_of helm ≡ entry_of helm.client 0 (Register (wants_of helm.plan)) ∷ cond b (entry_of helm.client 0 (Posts helm.plan.opening) ∷ []) []
opening_is helm b is = ap (λ b. entry_of helm.client 0 (Register (wants_of helm.plan)) ∷ cond b (entry_of helm.client 0 (Posts helm.plan.opening) ∷ []) []) is

-- so the entries of a helm's client that registers, and posts where it has pairs, are its opening
pub opens_posting : (old s : HelmClient) (regs : List Reg) (pairs : List Pair) (start between after : History) → s ≡ record old { calls = s.calls } → regs ≡ wants_of (plan_of s.helm) → pairs ≡ (plan_of s.helm).opening → 0 < length pairs
    → between ≡ start ++ entry_of s.number 0 (Register regs) ∷ [] → after ≡ between ++ entry_of s.number 0 (Posts pairs) ∷ [] → after ≡ start ++ opening_of (helm_setup_of old)
opens_posting old s regs pairs start between after is regs_is pairs_is some first second =
    second ∙ ap (λ front. front ++ entry_of s.number 0 (Posts pairs) ∷ []) first ∙ append_assoc start (entry_of s.number 0 (Register regs) ∷ []) (entry_of s.number 0 (Posts pairs) ∷ [])
    ∙ ap (λ regs. start ++ entry_of s.number 0 (Register regs) ∷ entry_of s.number 0 (Posts pairs) ∷ []) regs_is
    ∙ ap (λ pairs. start ++ entry_of s.number 0 (Register (wants_of (plan_of s.helm))) ∷ entry_of s.number 0 (Posts pairs) ∷ []) pairs_is
    ∙ ap (λ opening. start ++ opening) (sym (opening_is (helm_setup_of s) true (more (plan_of s.helm).opening pairs_is))) ∙ ap {A = HelmClient} (λ s. start ++ opening_of (helm_setup_of s)) is
  where
    more : (all : List Pair) → pairs ≡ all → nat_lt 0 (length all) ≡ true
    more all is = let here : 0 < length all = omega (arith, some, ap length is) in grind (arith, nat_tests)

pub opens_alone : (old s : HelmClient) (regs : List Reg) (pairs : List Pair) (start after : History) → s ≡ record old { calls = s.calls } → regs ≡ wants_of (plan_of s.helm) → pairs ≡ (plan_of s.helm).opening → length pairs ≤ 0
    → after ≡ start ++ entry_of s.number 0 (Register regs) ∷ [] → after ≡ start ++ opening_of (helm_setup_of old)
opens_alone old s regs pairs start after is regs_is pairs_is none first =
    first ∙ ap (λ regs. start ++ entry_of s.number 0 (Register regs) ∷ []) regs_is
    ∙ ap (λ opening. start ++ opening) (sym (opening_is (helm_setup_of s) false (less (plan_of s.helm).opening pairs_is))) ∙ ap {A = HelmClient} (λ s. start ++ opening_of (helm_setup_of s)) is
  where
    less : (all : List Pair) → pairs ≡ all → nat_lt 0 (length all) ≡ false
    less all is = let here : length all ≤ 0 = omega (arith, none, ap length is) in grind (arith, nat_tests)

-- a helm that has made its opening, and nobody else an entry
pub opened_first : (lock : CommunityLock) (old new : HelmClient) (first after : SeatState) → KnowsNothing first → IsUnticked old → new ≡ record old { calls = new.calls } → IsGathered lock after → IsWhole after → after.seen ≡ first.seen ++ opening_of (helm_setup_of old)
    → HasOpened lock (Some new) after
opened_first lock old new first after nothing is new_is gathered whole seen =
    subst (λ s. HasOpened lock (Some s) after) (sym new_is) (record {
      gathered = gathered;
      whole = whole;
      opened = seen ∙ ap (λ front. front ++ opening_of (helm_setup_of old)) nothing.seen;
      new = record { ticks = is.ticks; iterations = is.iterations; stands = is.stands; period = is.period };
    })
