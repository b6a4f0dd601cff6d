-- A run after a call of a further client.
use Rattle.script_reader.specs.declared.script.Script.{Script}
use Rattle.script_reader.specs.declared.script.Order.{Order}
use Rattle.moos_play.specs.Lawful.{helm_number, iterations_of, known_clients, mailed_in}
use Rattle.moos_play.specs.Plays.{IsFurther, iterations_made, iterations_by}
use Rattle.moos_play.specs.Runs.{playing_of, IsPaused, shown_by}
use Rattle.moos_play.specs.Schedules.{schedule_with}
use Rattle.moos_play.specs.Steered.{HasPlayed, helm_of, IsUnderWay, parts, turns_left, ticks_in}
use Rattle.moos_play.proofs.Standing.{StandsAt}
use Rattle.moos_lawful.proofs.Going.{further_on}
use Rattle.moos_play.proofs.Finishing.{parts_known, plays}
use Rattle.moos_play.proofs.Showing.{seated_at}
use Rattle.std.proofs.Common.{◌≡◌, ℕ, ◌≤◌, ◌<◌, true, cond, [], ◌∷◌, ◌++◌, length, nat_lt, Option, None, Some, Ok, Err, OnOk, Result, refl, sym, ap, ◌∙◌, subst, arith, append-nil, ne_eqb, List, drop, Bool, false}
use Rattle.std.specs.Prelude.{OnErr}
use Rattle.std.specs.declared.alloc.AllocError.{AllocError}
use Rattle.helm_core.specs.Helms.{plan_of}
use Rattle.moos_client.specs.Calls.{entries_of, SeatState}
use Rattle.moos_play.proofs.Below.{known_helm}
use Rattle.moos_play.proofs.Coming.{stands_on, turns_stay}
use Rattle.moos_client.proofs.Hearing.{heard_on}
use Rattle.moos_lawful.specs.Schedules.{IsLawfulSoFar}
use Rattle.moos_step.specs.Steps.{added_by, IsGathered, IsWhole}
use Rattle.moos_play.specs.declared.stage.Stage.{Stage}
use Rattle.moos_play.specs.declared.helm_client.HelmClient.{HelmClient}
use Rattle.moos_post.specs.History.{History}
use Rattle.moos_post.specs.declared.entry.Entry.{Entry}

pub just_entered : {A : Type 0} (result : Result A AllocError) (entry : Entry) (before after : History) → after ≡ before ++ added_by result entry → OnOk result (after ≡ before ++ entry ∷ [])
just_entered (Ok _) entry before after is = is
just_entered (Err _) entry before after is = tt

pub none_entered : {A : Type 0} (result : Result A AllocError) (entry : Entry) (before after : History) → after ≡ before ++ added_by result entry → OnErr result (after ≡ before)
none_entered (Ok _) entry before after is = tt
none_entered (Err _) entry before after is = is ∙ append-nil before

-- it isn't the helm's
not_helm : {A : Type 0} (result : Result A AllocError) (n : ℕ) (entry : Entry) → n < entry.client → entries_of n (added_by result entry) ≡ []
not_helm (Ok _) n entry past = ap (λ b. cond b (entry ∷ []) []) (ne_eqb entry.client n (λ e. omega (arith, e, past)))
not_helm (Err _) n entry past = refl

-- who is at the helm stands as before
helm_stands : {A : Type 0} (result : Result A AllocError) (play : Stage) (entry : Entry) (helm_client : Option HelmClient) (history : History) → known_clients play.script.now (helm_of helm_client) ≤ entry.client → StandsAt play.lock.base (helm_number play.script.now) helm_client history
    → StandsAt play.lock.base (helm_number play.script.now) helm_client (history ++ added_by result entry)
helm_stands result play entry None history past so = tt
helm_stands result play entry (Some s) history past so =
    stands_on play.lock.base (helm_number play.script.now) (Some s) history (added_by result entry) so (not_helm result (helm_number play.script.now) entry (omega (arith, past, known_helm play.script.now s)))

-- and has made the same iterations
helm_made : {A : Type 0} (result : Result A AllocError) (play : Stage) (entry : Entry) (helm_client : Option HelmClient) (history : History) → known_clients play.script.now (helm_of helm_client) ≤ entry.client → StandsAt play.lock.base (helm_number play.script.now) helm_client history
    → iterations_by play.lock.base (history ++ added_by result entry) (helm_of helm_client) (ticks_in helm_client) ≡ iterations_by play.lock.base history (helm_of helm_client) (ticks_in helm_client)
helm_made result play entry None history past so = refl
helm_made result play entry (Some s) history past so =
    ap (λ heard. iterations_of (plan_of s.helm) heard s.ticks) (heard_on (mailed_in play.lock.base) s.number history (added_by result entry) (not_helm result s.number entry (omega (arith, past, so.0, known_helm play.script.now s))))

-- the entry of a further client changes nothing of what is left for the others
further_played : {A : Type 0} (result : Result A AllocError) (order : Order) (script : Script) (names : List (List ℕ)) (s : Option HelmClient) (from : ℕ) (history : History) (entry : Entry) → HasPlayed order script names s from history → parts script s ≤ length names → StandsAt names (helm_number script) s history
    → parts script s ≤ entry.client → entry.client < length names → HasPlayed order script names s from (history ++ added_by result entry)
further_played (Err _) order script names s from history entry played room stands past named = subst (HasPlayed order script names s from) (sym (append-nil history)) played
further_played (Ok _) order script names s from history entry played room stands past named = record {
  so_far = on.0;
  left = λ n below. ap (λ (left : ℕ → List Entry). left n) on.1 ∙ played.left n below ∙ by n (nat_lt n (length script.names));
}
  where
    on : (on : IsLawfulSoFar (schedule_with order script (helm_of s) names) (history ++ entry ∷ [])) × (on.left ≡ played.so_far.left)
    on = further_on (schedule_with order script (helm_of s) names) (plays order script s names room) history played.so_far entry past named

    silent : helm_number script < entry.client → entries_of (helm_number script) (entry ∷ []) ≡ []
    silent past = ap (λ b. cond b (entry ∷ []) []) (ne_eqb entry.client (helm_number script) (λ e. omega (arith, e, past)))

    turns : (s : Option HelmClient) → StandsAt names (helm_number script) s history → parts script s ≤ entry.client → turns_left script.stop s names history ≡ turns_left script.stop s names (history ++ entry ∷ [])
    turns None stands past = refl
    turns (Some t) stands past = turns_stay script.stop names (helm_number script) (Some t) history (entry ∷ []) stands (silent (omega (arith, past)))

    by : (n : ℕ) (b : Bool) → cond b (entries_of n (drop from script.lines)) (turns_left script.stop s names history) ≡ cond b (entries_of n (drop from script.lines)) (turns_left script.stop s names (history ++ entry ∷ []))
    by n true = refl
    by n false = turns s stands past

-- the run after a call of a further client
pub entered_between : {A : Type 0} (result : Result A AllocError) (play : Stage) (w : Bool) (entry : Entry) (after : SeatState) → IsPaused play → IsFurther (playing_of play w) entry.client → IsGathered play.lock after → IsWhole after → after.seen ≡ play.first.seat.seen ++ added_by result entry
    → IsPaused (seated_at play after)
entered_between result play w entry after between further gathered whole is = record {
  at_play = record {
    valid = between.at_play.valid;
    under = record {
      gathered = gathered;
      whole = whole;
      within = under.within;
      seats = under.seats;
      played = subst (HasPlayed play.order play.script.now play.lock.base play.helm_client play.from) (sym is) (further_played result play.order play.script.now play.lock.base play.helm_client play.from play.first.seat.seen entry under.played under.seats under.steered (omega (arith, further.past, parts_known play.script.now play.helm_client)) further.named);
      steered = subst (StandsAt play.lock.base (helm_number play.script.now) play.helm_client) (sym is) (helm_stands result play entry play.helm_client play.first.seat.seen further.past under.steered);
    };
    calls = between.at_play.calls;
    period = between.at_play.period;
  };
  told = between.told;
}
  where
    under : IsUnderWay play.order play.script.now play.lock play.helm_client play.from play.first.seat
    under = between.at_play.under

pub entered_made : {A : Type 0} (result : Result A AllocError) (play : Stage) (w : Bool) (entry : Entry) (after : SeatState) → IsPaused play → IsFurther (playing_of play w) entry.client → after.seen ≡ play.first.seat.seen ++ added_by result entry
    → iterations_made (shown_by (seated_at play after)) ≡ iterations_made (shown_by play)
entered_made result play w entry after between further is =
    ap (λ history. iterations_by play.lock.base history (helm_of play.helm_client) (ticks_in play.helm_client)) is ∙ helm_made result play entry play.helm_client play.first.seat.seen further.past between.at_play.under.steered
