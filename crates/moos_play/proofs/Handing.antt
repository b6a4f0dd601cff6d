-- The iterations of a round, and a run after they were handed out.
use Rattle.std.proofs.Common.{◌≡◌, ℕ, zero, suc, ◌+◌, ◌-◌, ◌≤◌, List, [], ◌∷◌, ◌++◌, length, take, drop, Bool, true, false, nat_le, Option, None, Some, refl, sym, ap, ◌∙◌, subst, arith, append_assoc}
use Rattle.std.specs.Prelude.{option_map, IfSome}
use Rattle.std.proofs.lemmas.Bool.Decides.{nat_tests}
use Rattle.std.proofs.lemmas.List.{drop_all, take-append-drop, take-append-le, take_all}
use Rattle.helm_core.specs.declared.iteration.Iteration.{Iteration}
use Rattle.helm_core.specs.Helms.{plan_of}
use Rattle.helm_core.specs.Iterations.{iteration_at}
use Rattle.helm_core.specs.Plans.{Plan}
use Rattle.helm_core.specs.Ticks.{Tick}
use Rattle.moos_client.specs.Calls.{SeatState}
use Rattle.moos_post.specs.History.{History}
use Rattle.moos_play.specs.declared.stage.Stage.{Stage}
use Rattle.moos_play.specs.declared.helm_client.HelmClient.{HelmClient}
use Rattle.moos_client.specs.Hearing.{heard_in}
use Rattle.moos_play.specs.Lawful.{heard_of, helm_number, iterations, iterations_of, mailed_in, HelmSetup, ticks_to}
use Rattle.moos_play.specs.Plays.{GoesOnWith, iterations_by, iterations_made, Playing}
use Rattle.moos_play.specs.Runs.{handed, IsAtPlay, IsPaused, KeepsSeats, shown_by}
use Rattle.moos_play.specs.Steered.{helm_of, IsUnderWay, iterations_in, KeepsEach, helm_setup_of, Steers, ticks_in}
use Rattle.moos_play.proofs.Standing.{HasHeard, StandsAt}
use Rattle.moos_step.specs.Steps.{CommunityLock}
use Rattle.moos_client.proofs.Hearing.{heard_append}
use Rattle.moos_play.proofs.Hearing.{iterations_many, iterations_stay}
use Rattle.script_reader.specs.declared.script.Order.{Order}
use Rattle.script_reader.specs.declared.script.Script.{Script}

-- the first of the iterations
iterations_front : (plan : Plan) (heard : List Tick) (n m : ℕ) → n ≤ m → take n (iterations_of plan heard m) ≡ iterations_of plan heard n
iterations_front plan heard n zero below = let none : n ≡ 0 = omega (arith, below) in rw none refl
iterations_front plan heard n (suc m) below = by (nat_le n m) refl (iterations_front plan heard n m)
  where
    all : n ≡ suc m → take n (iterations_of plan heard (suc m)) ≡ iterations_of plan heard n
    all same = take_all n (iterations_of plan heard (suc m)) (omega (arith, same, iterations_many plan heard (suc m))) ∙ ap (iterations_of plan heard) (sym same)

    front : n ≤ m → take n (iterations_of plan heard (suc m)) ≡ take n (iterations_of plan heard m)
    front less = take-append-le n (iterations_of plan heard m) (iteration_at plan heard m ∷ []) (omega (arith, less, iterations_many plan heard m))

    by : (b : Bool) → nat_le n m ≡ b → (n ≤ m → take n (iterations_of plan heard m) ≡ iterations_of plan heard n) → take n (iterations_of plan heard (suc m)) ≡ iterations_of plan heard n
    by true e before = let less : n ≤ m = grind (arith, nat_tests) in front less ∙ before less
    by false e before = all (grind (arith, nat_tests))

-- and of those over a history that goes on
iterations_before : (names : List (List ℕ)) (plan : Plan) (client n m : ℕ) (history rest : History) → n ≤ m → n ≤ length (heard_of names client history)
    → take n (iterations_of plan (heard_of names client (history ++ rest)) m) ≡ iterations_of plan (heard_of names client history) n
iterations_before names plan client n m history rest below many =
    iterations_front plan (heard_of names client (history ++ rest)) n m below ∙ ap (λ heard. iterations_of plan heard n) (heard_append (mailed_in names) client [] history rest)
    ∙ iterations_stay plan (heard_of names client history) (heard_in (mailed_in names) client history rest) n (omega (arith, many))

-- the iterations over a history that goes on: those before, and those behind them
told_on : (names : List (List ℕ)) (s t : HelmClient) (history rest : History) → helm_setup_of t ≡ helm_setup_of s → s.iterations ≡ [] → KeepsEach (Some s) (Some t) → Steers names s history → Steers names t (history ++ rest)
    → iterations_by names (history ++ rest) (helm_of (Some t)) (ticks_in (Some t)) ≡ iterations_by names history (helm_of (Some s)) (ticks_in (Some s)) ++ t.iterations
told_on names s t history rest same none kept before after =
    let done = iterations_of (plan_of s.helm) (heard_of names s.number (history ++ rest)) t.ticks in
    let is : iterations_of (plan_of t.helm) (heard_of names t.number (history ++ rest)) t.ticks ≡ done = ap (λ (helm : HelmSetup). iterations_of helm.plan (heard_of names helm.client (history ++ rest)) t.ticks) same in
    let told : ℕ = t.ticks - length t.iterations in
    let count : told ≡ s.ticks = omega (arith, kept, ap length none) in
    let front : take told done ≡ iterations_of (plan_of s.helm) (heard_of names s.number history) s.ticks =
    ap (λ n. take n done) count ∙ iterations_before names (plan_of s.helm) s.number s.ticks t.ticks history rest (omega (arith, count)) (omega (arith, before.many)) in
    is ∙ sym (take-append-drop told done) ∙ ap (λ first. first ++ drop told done) front
    ∙ ap (λ last. iterations_of (plan_of s.helm) (heard_of names s.number history) s.ticks ++ last) (ap (drop told) (sym is) ∙ sym after.same)

-- the same of a run with a helm or without
pub made_on : (names : List (List ℕ)) (number : ℕ) (before after : Option HelmClient) (history later rest : History) → later ≡ history ++ rest → helm_of after ≡ helm_of before → iterations_in before ≡ [] → KeepsEach before after
    → StandsAt names number before history → StandsAt names number after later → iterations_by names later (helm_of after) (ticks_in after) ≡ iterations_by names history (helm_of before) (ticks_in before) ++ iterations_in after
made_on names number None None history later rest is same told kept stood stands = refl
made_on names number None (Some t) history later rest is same told kept stood stands = absurd cc
made_on names number (Some s) None history later rest is same told kept stood stands = absurd cc
made_on names number (Some s) (Some t) history later rest is same told kept stood stands =
    subst (λ later. iterations_by names later (helm_of (Some t)) (ticks_in (Some t)) ≡ iterations_by names history (helm_of (Some s)) (ticks_in (Some s)) ++ t.iterations) (sym is)
    (told_on names s t history rest (cc) told kept stood.1 (subst (Steers names t) is stands.1))

-- the helm once its iterations so far are handed out
abbrev pub handed_of : HelmClient → HelmClient
handed_of helm = record helm { iterations = [] }

handed_steers : (names : List (List ℕ)) (s : HelmClient) (history : History) → Steers names s history → Steers names (handed_of s) history
handed_steers names s history so = record {
  clock = so.clock;
  stands = so.stands;
  many = so.many;
  own = so.own;
  same = sym (drop_all (s.ticks - 0) (iterations_of (plan_of s.helm) (heard_of names s.number history) s.ticks) (omega (arith, iterations_many (plan_of s.helm) (heard_of names s.number history) s.ticks)));
}

handed_under : (order : Order) (script : Script) (lock : CommunityLock) (helm_client : Option HelmClient) (from : ℕ) (first : SeatState) → IsUnderWay order script lock helm_client from first
    → IsUnderWay order script lock (option_map handed_of helm_client) from first
handed_under order script lock None from first under = under
handed_under order script lock (Some s) from first under = record {
  gathered = under.gathered;
  whole = under.whole;
  within = under.within;
  seats = under.seats;
  played = record { so_far = under.played.so_far; left = under.played.left };
  steered = (under.steered.0, handed_steers lock.base s first.seen under.steered.1);
}

-- the run stands between two rounds once they are
pub handed_between : (play : Stage) → IsAtPlay play → IsPaused (handed play)
handed_between play at = record {
  at_play = record {
    valid = at.valid;
    under = handed_under play.order play.script.now play.lock play.helm_client play.from play.first.seat at.under;
    calls = at.calls;
    period = period play.helm_client at.period;
  };
  told = told play.helm_client;
}
  where
    period : (s : Option HelmClient) → IfSome s (λ helm. (1 ≤ helm.period) × (helm.ticks ≤ ticks_to play.script.now.stop (helm_setup_of helm)))
        → IfSome (option_map handed_of s) (λ helm. (1 ≤ helm.period) × (helm.ticks ≤ ticks_to play.script.now.stop (helm_setup_of helm)))
    period None so = tt
    period (Some s) so = so

    told : (s : Option HelmClient) → iterations_in (option_map handed_of s) ≡ []
    told None = refl
    told (Some s) = refl

-- and it shows what it showed
pub last_shown : (play last : Stage) → last ≡ handed play → shown_by play ≡ shown_by last
last_shown play last is = sym (ap shown_by is ∙ by play.helm_client)
  where
    by : (s : Option HelmClient) → shown_by (record play { helm_client = option_map handed_of s }) ≡ shown_by (record play { helm_client = s })
    by None = refl
    by (Some s) = refl

-- a run that goes on twice
pub stays_twice : (before middle after : Stage) → KeepsSeats before middle → KeepsSeats middle after → KeepsSeats before after
stays_twice before middle after one other = record {
  seated = other.seated;
  lock = other.lock ∙ one.lock;
  later = (one.later.0 ++ other.later.0, other.later.1 ∙ ap (λ front. front ++ other.later.0) one.later.1 ∙ append_assoc before.first.seat.seen one.later.0 other.later.0);
}

pub goes_on_twice : (before middle after : Playing) → GoesOnWith before middle → GoesOnWith middle after → GoesOnWith before after
goes_on_twice before middle after one other = record {
  script = other.script ∙ one.script;
  order = other.order ∙ one.order;
  names = other.names ∙ one.names;
  helm = other.helm ∙ one.helm;
}

-- the iterations of a round follow those before
pub round_iterations : (before after : Stage) → IsPaused before → IsAtPlay after → KeepsSeats before after → GoesOnWith (shown_by before) (shown_by after) → KeepsEach before.helm_client after.helm_client
    → iterations_made (shown_by after) ≡ iterations_made (shown_by before) ++ iterations_in after.helm_client
round_iterations before after between at stays on kept =
    ap (λ names. iterations_by names after.first.seat.seen (helm_of after.helm_client) (ticks_in after.helm_client)) on.names
    ∙ made_on before.lock.base (helm_number before.script.now) before.helm_client after.helm_client before.first.seat.seen after.first.seat.seen stays.later.0 stays.later.1 on.helm between.told kept
    between.at_play.under.steered
    (subst (λ (script : Script). StandsAt before.lock.base (helm_number script) after.helm_client after.first.seat.seen) on.script
    (subst (λ names. StandsAt names (helm_number after.script.now) after.helm_client after.first.seat.seen) on.names at.under.steered))

-- the iterations of a history that goes on begin with those so far
pub iterations_more : (names : List (List ℕ)) (number stop : ℕ) (helm_client : Option HelmClient) (history rest : History) → HasHeard names number stop helm_client history
    → (more : List Iteration) × (iterations (helm_of helm_client) stop (heard_of names number (history ++ rest)) ≡ iterations_by names history (helm_of helm_client) (ticks_in helm_client) ++ more)
iterations_more names number stop None history rest heard = ([], refl)
iterations_more names number stop (Some s) history rest heard =
    let all = iterations_of (plan_of s.helm) (heard_of names s.number (history ++ rest)) (ticks_to stop (helm_setup_of s)) in (
      drop s.ticks all,
      ap (λ n. iterations_of (plan_of s.helm) (heard_of names n (history ++ rest)) (ticks_to stop (helm_setup_of s))) (sym heard.0) ∙ sym (take-append-drop s.ticks all)
          ∙ ap (λ front. front ++ drop s.ticks all) (iterations_before names (plan_of s.helm) s.number s.ticks (ticks_to stop (helm_setup_of s)) history rest heard.2 heard.1),
    )
