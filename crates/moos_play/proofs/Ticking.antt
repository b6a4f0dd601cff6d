-- A tick in two parts: the helm has its iteration or found no memory on the way, and then has posted and kept it or hasn't.
use Rattle.std.proofs.Common.{◌≡◌, ℕ, ◌+◌, ◌*◌, ◌^◌, ◌<◌, ◌≤◌, inl, inr, List, [], ◌∷◌, ◌++◌, OnOk, Result, Some, Ok, Err, refl, sym, ap, subst, arith, ◌∙◌, append-nil}
use Rattle.std.proofs.Math.Nat.{mul-le-mul}
use Rattle.std.specs.Prelude.{IfOk, OnErr}
use Rattle.std.specs.declared.alloc.AllocError.{AllocError}
use Rattle.helm_core.specs.declared.helm.Helm.{Helm}
use Rattle.helm_core.specs.declared.iteration.Iteration.{Iteration}
use Rattle.helm_core.specs.Helms.{IsTicked, plan_of}
use Rattle.helm_core.specs.Plans.{Plan}
use Rattle.moos_client.specs.Calls.{IsFetched, IsUncalled, MayCall, SeatState}
use Rattle.moos_db.specs.declared.mail.Letter.{Letter}
use Rattle.moos_post.specs.declared.entry.Call.{Call}
use Rattle.moos_post.specs.declared.entry.Call.TheVariants.{Post as Posts, Fetch}
use Rattle.moos_play.specs.declared.helm_client.HelmClient.{HelmClient}
use Rattle.moos_step.specs.Steps.{Anything, CommunityLock, HasMade, Makes}
use Rattle.moos_play.specs.Lawful.{HelmSetup}
use Rattle.moos_play.specs.Steered.{HasIterated, HasOwn, HasSteered, HasStopped, KeepsEach, MayHaveCalled, MaySteer, helm_setup_of, Steers}
use Rattle.moos_play.proofs.Helming.{ticks_once}
use Rattle.moos_step.proofs.Lines.{made_more, made_none}
use Rattle.moos_play.proofs.Steering.{anything, called_of, called_own}
use Rattle.moos_step.proofs.Calling.{called_made}
use Rattle.moos_play.proofs.Stopping.{posted_stops, ready_stops, stops_here, stops_uncalled, stops_within, tick_fetched}

-- a seat whose call found no memory has made nothing
uncalled_made : (seat after : SeatState) → IsUncalled seat after → HasMade [] seat after
uncalled_made seat after uncalled = record {
  later = uncalled.later;
  same = uncalled.same ∙ ap (λ mine. record seat { seen = after.seen; mine = mine }) (sym (append-nil seat.mine));
}

-- what it has made with a call or without it
pub calling_makes : (seat after : SeatState) (stamp : ℕ) (call : Call) → MayHaveCalled seat after stamp call → Makes Anything seat after
calling_makes seat after stamp call (inl uncalled) = anything (uncalled_made seat after uncalled)
calling_makes seat after stamp call (inr called) = anything (called_made seat after stamp call called)

-- and behind what it has made before
pub makes_more : (seat between after : SeatState) → Makes Anything seat between → Makes Anything between after → Makes Anything seat after
makes_more seat between after one other = anything (made_more one.added other.added seat between after one.made other.made)

-- the helm has its iteration, where there is one
pub iterated : {E : Type 0} (names : List (List ℕ)) (seat after : SeatState) (old new : Helm) (stamp : ℕ) (mail : List Letter) (result : Result Iteration E) → IsFetched seat after names stamp mail → IfOk result (IsTicked old new stamp mail)
    → IfOk result (HasIterated names seat after old new stamp)
iterated names seat after old new stamp mail (Ok iteration) fetched ticked = record { mail = mail; fetched = fetched; ticked = ticked }
iterated names seat after old new stamp mail (Err _) fetched ticked = tt

-- where it has stopped if there is none
pub fetching_stops : (names : List (List ℕ)) (s : HelmClient) (seat after : SeatState) (stamp : ℕ) → Steers names s seat.seen → seat.number ≡ s.number → HasOwn seat → stamp ≡ s.ticks * s.period
    → MayHaveCalled seat after stamp Fetch → HasStopped names (helm_setup_of s) s.ticks (s.ticks + 1) after
fetching_stops names s seat after stamp so number own stamp_is (inl uncalled) = stops_uncalled names (helm_setup_of s) s.ticks (s.ticks + 1) seat after own (ready_stops names s seat.seen so) uncalled
fetching_stops names s seat after stamp so number own stamp_is (inr fetched) =
    stops_here names (helm_setup_of s) s.ticks (s.ticks + 1) after (called_own seat after stamp Fetch fetched) (tick_fetched names s seat after stamp so number own stamp_is fetched)

-- and where, if it couldn't be posted or kept
pub telling_stops : (names : List (List ℕ)) (s : HelmClient) (helm : Helm) (seat between after : SeatState) (stamp : ℕ) (iteration : Iteration) → Steers names s seat.seen → seat.number ≡ s.number → HasOwn seat → stamp ≡ s.ticks * s.period
    → HasIterated names seat between s.helm helm stamp iteration → MayHaveCalled between after stamp (Posts iteration.posts) → HasStopped names (helm_setup_of s) s.ticks (s.ticks + 1) after
telling_stops names s helm seat between after stamp iteration so number own stamp_is made (inl uncalled) =
    let fetched = called_of seat between names stamp made.mail made.fetched in
    stops_uncalled names (helm_setup_of s) s.ticks (s.ticks + 1) between after (called_own seat between stamp Fetch fetched) (tick_fetched names s seat between stamp so number own stamp_is fetched) uncalled
telling_stops names s helm seat between after stamp iteration so number own stamp_is made (inr posted) =
    posted_stops names s (record s { helm = helm; ticks = s.ticks + 1; iterations = s.iterations ++ iteration ∷ [] }) after (ap {A = Plan} (λ plan. record { client = s.number; plan = plan; period = s.period }) made.ticked.plan) refl
    (called_own between after stamp (Posts iteration.posts) posted)
    (ticks_once names s s (record s { helm = helm }) helm seat between after stamp made.mail iteration iteration.posts (s.iterations ++ iteration ∷ []) refl refl refl stamp_is so number own made.fetched made.ticked posted refl)

-- no tick, as many as the helm has made
pub steered_none : (lock : CommunityLock) (seat : SeatState) (s : HelmClient) (ticks workers : ℕ) → MaySteer lock seat s ticks workers → HasSteered {E = AllocError} lock s.ticks seat seat s s (Ok tt)
steered_none lock seat s ticks workers may = record { made = anything (made_none seat); same = refl; told = refl; own = may.own; steered = may.tick.steered; reached = refl; stopped = tt }

-- the next tick may be made behind others
pub steers_next : (lock : CommunityLock) (before seat : SeatState) (old s : HelmClient) (ticks workers : ℕ) → MaySteer lock before old ticks workers → HasSteered {E = AllocError} lock s.ticks before seat old s (Ok tt) → s.ticks < ticks → MaySteer lock seat s (s.ticks + 1) workers
steers_next lock before seat old s ticks workers may so more = record {
  may = subst (MayCall lock) (sym so.made.made.same) (record { of_lock = record { same = may.may.of_lock.same; live = may.may.of_lock.live; base = may.may.of_lock.base }; free = may.may.free; client = may.may.client });
  number = ap (λ seat. seat.number) so.made.made.same ∙ may.number ∙ ap (λ (helm : HelmSetup). helm.client) (sym so.same);
  own = so.own;
  tick = record {
    steered = so.steered;
    count = omega arith;
    early = subst (λ period. (s.ticks + 1) * period < 2 ^ 64 + period) (ap (λ (helm : HelmSetup). helm.period) (sym so.same))
        (let below : s.ticks + 1 ≤ ticks = omega (arith, more) in let period : old.period ≤ old.period = omega arith in omega (arith, may.tick.early, mul-le-mul below period));
    few = may.tick.few;
  };
}

-- one tick more, or the stop within it
pub steered_more : (lock : CommunityLock) (before seat after : SeatState) (old s t : HelmClient) (ticks most : ℕ) (result : Result (Unit {0}) AllocError) → HasSteered {E = AllocError} lock s.ticks before seat old s (Ok tt)
    → HasSteered lock ticks seat after s t result → OnOk result (ticks ≡ most) → ticks ≤ most → HasSteered lock most before after old t result
steered_more lock before seat after old s t ticks most result one other last within = record {
  made = makes_more before seat after one.made other.made;
  same = other.same ∙ one.same;
  told = told result other.told;
  own = other.own;
  steered = other.steered;
  reached = reached result other.reached last;
  stopped = stopped result other.stopped;
}
  where
    told : (r : Result (Unit {0}) AllocError) → OnOk r (KeepsEach (Some s) (Some t)) → OnOk r (KeepsEach (Some old) (Some t))
    told (Ok _) so = omega (arith, so, one.told)
    told (Err _) so = tt

    reached : (r : Result (Unit {0}) AllocError) → OnOk r (t.ticks ≡ ticks) → OnOk r (ticks ≡ most) → OnOk r (t.ticks ≡ most)
    reached (Ok _) so last = so ∙ last
    reached (Err _) so last = tt

    stopped : (r : Result (Unit {0}) AllocError) → OnErr r (HasStopped lock.base (helm_setup_of s) t.ticks ticks after) → OnErr r (HasStopped lock.base (helm_setup_of old) t.ticks most after)
    stopped (Ok _) so = tt
    stopped (Err _) so = stops_within lock.base (helm_setup_of s) (helm_setup_of old) t.ticks t.ticks ticks most after one.same refl within so

-- how the helm is run stays the same, and its iterations, and the count of ticks until it is raised
pub ticked_same : (s t u : HelmClient) (helm : Helm) → t ≡ record s { calls = t.calls } → u ≡ record t { helm = helm; calls = u.calls } → plan_of helm ≡ plan_of t.helm → (helm_setup_of u ≡ helm_setup_of s) × (u.iterations ≡ s.iterations) × (u.ticks ≡ s.ticks)
ticked_same s t u helm first second plan = (
  ap {A = HelmClient} helm_setup_of second ∙ ap {A = Plan} (λ plan. record { client = t.number; plan = plan; period = t.period }) plan ∙ ap {A = HelmClient} helm_setup_of first,
  ap (λ (s : HelmClient). s.iterations) second ∙ ap (λ (s : HelmClient). s.iterations) first,
  ap (λ (s : HelmClient). s.ticks) second ∙ ap (λ (s : HelmClient). s.ticks) first,
)
