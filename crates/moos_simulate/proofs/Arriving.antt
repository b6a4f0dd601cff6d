-- A play beside its vehicle that is completed: the iterations go on behind those so far.
use Rattle.std.proofs.Common.{◌≡◌, ℕ, zero, suc, ◌+◌, ◌≤◌, ◌⊎◌, inl, inr, true, false, List, [], ◌∷◌, ◌++◌, length, nat_le, Some, sym, ap, subst, ◌∙◌, arith, append-nil, append_assoc}
use Rattle.std.specs.Prelude.{IfSome}
use Rattle.std.proofs.lemmas.Bool.Decides.{nat_tests}
use Rattle.helm_core.specs.declared.iteration.Iteration.{Iteration}
use Rattle.helm_core.specs.Iterations.{iteration_at}
use Rattle.helm_core.specs.Plans.{Plan}
use Rattle.helm_core.specs.Ticks.{Tick}
use Rattle.moos_client.proofs.Hearing.{heard_append}
use Rattle.moos_client.specs.Hearing.{heard_in}
use Rattle.moos_lawful.proofs.Parts.{either}
use Rattle.moos_lawful.specs.Schedules.{Completion}
use Rattle.moos_play.proofs.Hearing.{iterations_many, iterations_stay}
use Rattle.moos_play.specs.Lawful.{heard_of, iterations, iterations_of, mailed_in, HelmSetup, ticks_to}
use Rattle.moos_play.specs.Plays.{clients_in, HasSteeredSoFar, HasTicked, helm_in, history_in, IsRunFor, iterations_by, iterations_made, Playing, script_played}
use Rattle.moos_post.specs.History.{History}
use Rattle.moos_simulate.proofs.Going.{room_beside}
use Rattle.moos_simulate.specs.declared.vehicle.Vehicle.{Vehicle}
use Rattle.moos_simulate.specs.Sailing.{HasVoyage, IsSailing}
use Rattle.moos_simulate.specs.Simulated.{IsSimulated, schedule_simulated, vehicle_clients}
use Rattle.script_reader.specs.declared.script.Script.{Script}

-- the iterations of more ticks are those of fewer, and some more
iterations_behind : (plan : Plan) (heard : List Tick) (n m : ℕ) → n ≤ m → (more : List Iteration) × (iterations_of plan heard m ≡ iterations_of plan heard n ++ more)
iterations_behind plan heard n zero below = ([], ap (iterations_of plan heard) none ∙ sym (append-nil (iterations_of plan heard n)))
  where
    none : 0 ≡ n
    none = omega (arith, below)
iterations_behind plan heard n (suc m) below = by (either (nat_le n m)) (iterations_behind plan heard n m)
  where
    by : (nat_le n m ≡ true) ⊎ (nat_le n m ≡ false) → (n ≤ m → (more : List Iteration) × (iterations_of plan heard m ≡ iterations_of plan heard n ++ more))
        → (more : List Iteration) × (iterations_of plan heard (suc m) ≡ iterations_of plan heard n ++ more)
    by (inl e) before =
        let less : n ≤ m = grind (arith, nat_tests, e) in
        let first = before less in
        (first.0 ++ iteration_at plan heard m ∷ [], ap (λ front. front ++ iteration_at plan heard m ∷ []) first.1 ∙ append_assoc (iterations_of plan heard n) first.0 (iteration_at plan heard m ∷ []))
    by (inr e) before =
        let all : suc m ≡ n = grind (arith, nat_tests, e, below) in
        ([], ap (iterations_of plan heard) all ∙ sym (append-nil (iterations_of plan heard n)))

module _ (vehicle : Vehicle) (helm : HelmSetup) (play : Playing) (sailing : IsSailing vehicle helm play) (steered : HasSteeredSoFar play)
    (run : IfSome (helm_in play) (IsRunFor (script_played play) (length (iterations_made play))))
  where
    abbrev script : Script
    script = script_played play

    abbrev names : List (List ℕ)
    names = clients_in play

    abbrev history : History
    history = history_in play

    ticked : HasTicked names helm (length (iterations_made play)) history
    ticked = subst (λ helm. IfSome helm (λ helm. HasTicked names helm (length (iterations_made play)) history)) sailing.beside.steered steered

    runs : IsRunFor script (length (iterations_made play)) helm
    runs = subst (λ helm. IfSome helm (IsRunFor script (length (iterations_made play)))) sailing.beside.steered run

    made : iterations_made play ≡ iterations_of helm.plan (heard_of names helm.client history) play.ticks
    made = λ i. iterations_by names history (sailing.beside.steered i) play.ticks

    many : length (iterations_made play) ≡ play.ticks
    many = ap length made ∙ iterations_many helm.plan (heard_of names helm.client history) play.ticks

    -- whatever entries come
    iterations_then : (rest : History) → (more : List Iteration) × (iterations (helm_in play) script.stop (heard_of names (length script.names) (history ++ rest)) ≡ iterations_made play ++ more)
    iterations_then rest = (
      on.0,
      (λ i. iterations (sailing.beside.steered i) script.stop (heard_of names (sym sailing.beside.number i) (history ++ rest)))
          ∙ on.1
          ∙ ap (λ front. front ++ on.0)
          (ap (λ heard. iterations_of helm.plan heard play.ticks) (heard_append (mailed_in names) helm.client [] history rest)
          ∙ iterations_stay helm.plan (heard_of names helm.client history) (heard_in (mailed_in names) helm.client history rest) play.ticks (omega (arith, many, ticked.many))
          ∙ sym made),
    )
      where
        on : (more : List Iteration)
            × (iterations_of helm.plan (heard_of names helm.client (history ++ rest)) (ticks_to script.stop helm) ≡ iterations_of helm.plan (heard_of names helm.client (history ++ rest)) play.ticks ++ more)
        on = iterations_behind helm.plan (heard_of names helm.client (history ++ rest)) play.ticks (ticks_to script.stop helm) (omega (arith, many, runs.few))

    abbrev Room : Type 0
    Room = length script.names + suc (length (vehicle_clients vehicle.gear helm.period)) ≤ length names

    room_left : Room
    room_left = let count = room_beside vehicle helm play sailing.beside in omega (arith, count)

    -- THE PLAY MAY BE COMPLETED
    pub arrives : (Room → Completion (schedule_simulated script (Some helm) vehicle.gear names) history) → HasVoyage vehicle.gear play
    arrives complete =
        let completion = complete room_left in
        let then = iterations_then completion.rest in
        record {
          rest = completion.rest;
          simulated = subst (λ helm. IsSimulated script helm vehicle.gear names (history ++ completion.rest)) (sym sailing.beside.steered) completion.lawful;
          more = then.0;
          iterations = then.1;
        }
