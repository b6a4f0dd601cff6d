-- What is added to a history in a round beside a vehicle has the round's stamp: the round's own entries, and those of the vehicle's clients
-- behind them.
use Rattle.std.proofs.Common.{◌≡◌, ◌≢◌, ℕ, suc, ◌+◌, ◌<◌, ◌≤◌, ◌==◌, ◌⊎◌, inl, inr, Bool, true, false, cond, List, [], ◌∷◌, ◌++◌, length, drop, filter, nat_le, nat_lt, refl, sym, ap, subst, ◌∙◌, arith, append-nil, eq-eqb}
use Rattle.std.specs.Prelude.{Err, Ok, OnErr, OnOk, Result}
use Rattle.std.specs.List.{list_all}
use Rattle.std.proofs.Math.Seq.{drop-append_seam}
use Rattle.std.proofs.lemmas.Bool.{and_from}
use Rattle.std.proofs.lemmas.Bool.Decides.{nat_tests}
use Rattle.std.proofs.lemmas.List.{append_cancel_left}
use Rattle.std.proofs.lemmas.List.Elements.{filter-append}
use Rattle.moos_client.specs.Calls.{entry_of}
use Rattle.moos_lawful.proofs.Parts.{all_raised}
use Rattle.moos_lawful.specs.Schedules.{clients_below, entries_from}
use Rattle.moos_play.proofs.Stamping.{adds_none, adds_twice, all_stamped}
use Rattle.moos_play.specs.declared.round_made.Round.{Round}
use Rattle.moos_play.specs.Lawful.{HelmSetup, KeepsStamp, known_clients}
use Rattle.moos_play.specs.Plays.{AddsAt, clients_in, GoesOnWith, HasTurn, history_in, IsRound, IsTurn, known_clients_in, left_in, next_stamp, order_played, Playing, StaysSeated}
use Rattle.moos_post.specs.declared.entry.Call.{Call}
use Rattle.moos_post.specs.declared.entry.Call.TheVariants.{Fetch, Post as Posts}
use Rattle.moos_post.specs.declared.entry.Entry.{Entry}
use Rattle.moos_post.specs.declared.value.Pair.{Pair}
use Rattle.moos_post.specs.History.{History}
use Rattle.moos_simulate.proofs.Going.{known_beside, room_beside}
use Rattle.moos_simulate.specs.declared.vehicle.Vehicle.{Vehicle}
use Rattle.moos_simulate.specs.Sailing.{IsBeside, IsRoundBeside}
use Rattle.moos_simulate.specs.Simulated.{contact_clients, vehicle_clients}
use Rattle.moos_simulate.specs.Turns.{HasHeardAtMost, HasSaid, StaysBetween}
use Rattle.script_reader.specs.declared.script.Order.TheVariants.{Stamp}

-- ---- what a client adds

-- an entry of this stamp
adds_entry : (client stamp number : ℕ) (call : Call) (history : History) → client < number → AddsAt Stamp stamp number history (history ++ entry_of client stamp call ∷ [])
adds_entry client stamp number call history named = record {
  later = (entry_of client stamp call ∷ [], refl);
  stamped = and_from (stamp == stamp) true (eq-eqb stamp stamp refl) refl;
  known = and_from (nat_lt client number) true (grind (arith, nat_tests, named)) refl;
}

-- a turn: a fetch and a post
said_adds : (client stamp number : ℕ) (said : List Pair) (old new : Playing) → client < number → HasSaid client stamp said old new → AddsAt Stamp stamp number (history_in old) (history_in new)
said_adds client stamp number said old new named turn =
    subst (AddsAt Stamp stamp number (history_in old)) (sym turn)
    (adds_twice Stamp stamp number (history_in old) (history_in old ++ entry_of client stamp Fetch ∷ []) ((history_in old ++ entry_of client stamp Fetch ∷ []) ++ entry_of client stamp (Posts said) ∷ [])
    (adds_entry client stamp number Fetch (history_in old) named) (adds_entry client stamp number (Posts said) (history_in old ++ entry_of client stamp Fetch ∷ []) named))

-- a front of a turn
heard_adds : (client stamp number : ℕ) (old new : Playing) → client < number → HasHeardAtMost client stamp old new → AddsAt Stamp stamp number (history_in old) (history_in new)
heard_adds client stamp number old new named (inl none) = subst (AddsAt Stamp stamp number (history_in old)) (sym none) (adds_none Stamp stamp number (history_in old))
heard_adds client stamp number old new named (inr one) = subst (AddsAt Stamp stamp number (history_in old)) (sym one) (adds_entry client stamp number Fetch (history_in old) named)

-- whichever of both it is
pub turn_adds : {A E : Type 0} (result : Result A E) (client stamp number : ℕ) (said : List Pair) (old new : Playing) → client < number
    → OnOk result (HasSaid client stamp said old new) → OnErr result (HasHeardAtMost client stamp old new) → AddsAt Stamp stamp number (history_in old) (history_in new)
turn_adds (Ok _) client stamp number said old new named turn stopped = said_adds client stamp number said old new named turn
turn_adds (Err _) client stamp number said old new named turn stopped = heard_adds client stamp number old new named stopped

-- one part and another
pub adds_on : (stamp : ℕ) (old middle new : Playing) → GoesOnWith old middle → AddsAt Stamp stamp (length (clients_in old)) (history_in old) (history_in middle)
    → AddsAt Stamp stamp (length (clients_in middle)) (history_in middle) (history_in new) → AddsAt Stamp stamp (length (clients_in old)) (history_in old) (history_in new)
adds_on stamp old middle new on one other =
    adds_twice Stamp stamp (length (clients_in old)) (history_in old) (history_in middle) (history_in new) one
    (subst (λ (names : List (List ℕ)). AddsAt Stamp stamp (length names) (history_in middle) (history_in new)) on.names other)

-- ---- the turns of pMarinePID and of uSimMarine, which have names

module _ (vehicle : Vehicle) (helm : HelmSetup) (old : Playing) (beside : IsBeside vehicle helm old)
  where
    aboard : length (vehicle_clients vehicle.gear helm.period) ≡ suc (suc (length (contact_clients vehicle.gear.ranges)))
    aboard = refl

    pid_named : vehicle.pid_client < length (clients_in old)
    pid_named = let many = room_beside vehicle helm old beside in omega (arith, many, aboard, beside.pid)

    sim_named : vehicle.sim_client < length (clients_in old)
    sim_named = let many = room_beside vehicle helm old beside in omega (arith, many, aboard, beside.sim)

    module _ (stamp : ℕ) (new : Playing)
      where
        pub pid_adds : (said : List Pair) → HasSaid vehicle.pid_client stamp said old new → AddsAt Stamp stamp (length (clients_in old)) (history_in old) (history_in new)
        pid_adds said = said_adds vehicle.pid_client stamp (length (clients_in old)) said old new pid_named

        pub pid_adds_part : HasHeardAtMost vehicle.pid_client stamp old new → AddsAt Stamp stamp (length (clients_in old)) (history_in old) (history_in new)
        pid_adds_part = heard_adds vehicle.pid_client stamp (length (clients_in old)) old new pid_named

        pub sim_adds : (said : List Pair) → HasSaid vehicle.sim_client stamp said old new → AddsAt Stamp stamp (length (clients_in old)) (history_in old) (history_in new)
        sim_adds said = said_adds vehicle.sim_client stamp (length (clients_in old)) said old new sim_named

        pub sim_adds_part : HasHeardAtMost vehicle.sim_client stamp old new → AddsAt Stamp stamp (length (clients_in old)) (history_in old) (history_in new)
        sim_adds_part = heard_adds vehicle.sim_client stamp (length (clients_in old)) old new sim_named

-- ---- what a round adds

-- entries none of which is of a client from a number on
none_from : (number : ℕ) (xs : History) → filter (λ entry. nat_le number entry.client) xs ≡ [] → clients_below number xs ≡ true
none_from number [] none = refl
none_from number (x ∷ xs) none = by (nat_le number x.client) refl none (none_from number xs)
  where
    by : (b : Bool) → nat_le number x.client ≡ b → cond b (x ∷ filter (λ entry. nat_le number entry.client) xs) (filter (λ entry. nat_le number entry.client) xs) ≡ []
        → (filter (λ entry. nat_le number entry.client) xs ≡ [] → clients_below number xs ≡ true) → clients_below number (x ∷ xs) ≡ true
    by true e some others = absurd cc
    by false e rest others = and_from (nat_lt x.client number) (clients_below number xs) (grind (arith, nat_tests, e)) (others rest)

-- a play beside a vehicle is one in order Stamp
pub turn_beside : (vehicle : Vehicle) (helm : HelmSetup) (old new : Playing) (round : Round) → IsBeside vehicle helm old → HasTurn (order_played old) old new round → IsTurn old new round
turn_beside vehicle helm old new round beside = subst (λ order. HasTurn order old new round) beside.order

module _ (vehicle : Vehicle) (helm : HelmSetup) (old new : Playing) (beside : IsBeside vehicle helm old) (on : GoesOnWith old new)
  where
    abbrev history : History
    history = history_in old

    -- the clients that the play knows are some of those that have names
    few : known_clients_in old ≤ length (clients_in old)
    few = let many = room_beside vehicle helm old beside in omega (arith, many, known_beside vehicle helm old beside)

    -- where no memory was left
    pub adds_part : AddsAt (order_played old) (next_stamp old) (known_clients_in old) history (history_in new) → AddsAt Stamp (next_stamp old) (length (clients_in old)) history (history_in new)
    adds_part adds = record {
      later = adds.later;
      stamped = subst (λ order. KeepsStamp order (next_stamp old) adds.later.0) beside.order adds.stamped;
      known = all_raised (known_clients_in old) (length (clients_in old)) adds.later.0 few adds.known;
    }

    module _ (round : Round) (stays : StaysSeated old new) (is_round : IsRound old new round)
      where
        abbrev later : History
        later = stays.later.0

        is : history_in new ≡ history ++ later
        is = stays.later.1

        known_same : known_clients_in new ≡ known_clients_in old
        known_same = λ i. known_clients (on.script i) (on.helm i)

        -- none of its entries is a further client's, and all have its stamp
        pub round_known : clients_below (known_clients_in old) stays.later.0 ≡ true
        round_known =
            none_from (known_clients_in old) later (append_cancel_left (entries_from (known_clients_in old) history) (entries_from (known_clients_in old) later) []
            (sym (filter-append (λ entry. nat_le (known_clients_in old) entry.client) history later) ∙ (λ i. entries_from (sym known_same i) (sym is i)) ∙ is_round.further ∙ sym (append-nil (entries_from (known_clients_in old) history))))

        behind : drop round.from (history_in new) ≡ later
        behind = (λ i. drop (is_round.from i) (is i)) ∙ drop-append_seam history later

        stamped_now : KeepsStamp Stamp round.stamp (drop round.from (history_in new))
        stamped_now = subst (λ order. KeepsStamp order round.stamp (drop round.from (history_in new))) beside.order is_round.stamped

        pub round_stamped : list_all (λ entry. entry.stamp == next_stamp old) stays.later.0 ≡ true
        round_stamped =
            subst (λ (later : History). list_all (λ entry. entry.stamp == next_stamp old) later ≡ true) behind
            (subst (λ stamp. list_all (λ (entry : Entry). entry.stamp == stamp) (drop round.from (history_in new)) ≡ true) is_round.stamp stamped_now)

        -- with what the vehicle's clients add behind it
        pub adds_with : (last : Playing) → AddsAt Stamp round.stamp (length (clients_in new)) (history_in new) (history_in last) → AddsAt Stamp (next_stamp old) (length (clients_in old)) history (history_in last)
        adds_with last adds =
            adds_on (next_stamp old) old new last on
            (record { later = stays.later; stamped = round_stamped; known = all_raised (known_clients_in old) (length (clients_in old)) later few round_known })
            (subst (λ stamp. AddsAt Stamp stamp (length (clients_in new)) (history_in new) (history_in last)) is_round.stamp adds)

        module _ (has_turn : HasTurn (order_played old) old new round)
          where
            turn : IsTurn old new round
            turn = turn_beside vehicle helm old new round beside has_turn

            -- WITHOUT A TICK
            pub round_unticked : IsRoundBeside old new round
            round_unticked = record {
              from = is_round.from;
              stamp = is_round.stamp;
              stamped = stamped_now;
              further = λ none. is_round.further;
              turn = turn;
              iterations = is_round.iterations;
            }

            -- WITH ONE, which has been answered
            pub round_ticked : length round.iterations ≢ 0 → (last : Playing) → StaysBetween new last → AddsAt Stamp round.stamp (length (clients_in new)) (history_in new) (history_in last) → IsRoundBeside old last round
            round_ticked some last on_between adds = record {
              from = is_round.from;
              stamp = is_round.stamp;
              stamped = subst (λ stamp. KeepsStamp Stamp stamp (drop round.from (history_in last))) (sym is_round.stamp)
                  (all_stamped Stamp (next_stamp old) (length (clients_in old)) round.from history (history_in last) is_round.from (adds_with last adds));
              further = λ none. absurd (some (ap length none));
              turn = record {
                later = subst (λ left. (left ≡ 0) ⊎ (round.stamp < next_stamp last)) (sym on_between.left) (subst (λ next. (left_in new ≡ 0) ⊎ (round.stamp < next)) (sym on_between.next) turn.later);
                ticked = turn.ticked;
              };
              iterations = on_between.iterations ∙ is_round.iterations;
            }
