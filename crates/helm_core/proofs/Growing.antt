-- An iteration depends on no later tick.
use Rattle.std.proofs.Common.{◌≡◌, Some, ℕ, zero, suc, ◌<◌, ◌≤◌, List, [], ◌++◌, map, length, refl, ap, ◌∙◌, arith}
use Rattle.std.specs.List.{filter}
use Rattle.std.proofs.lemmas.List.{take-append-le, get_or_append_left, map-append, length-map}
use Rattle.bhv_file.specs.declared.decl.Decl.{Decl}
use Rattle.helm_core.specs.Plans.{Plan}
use Rattle.helm_core.specs.Behaviors.{BhvSoFar, all_after, all_begun, all_showings}
use Rattle.helm_core.specs.Lists.{list_before, spawned_at, stays}
use Rattle.helm_core.specs.Templates.{Spawning, spawned}
use Rattle.helm_core.specs.PastIterations.{PastIteration, past_iteration_at, past_iteration_before}
use Rattle.helm_core.specs.Iterations.{iteration_at, iteration_of}
use Rattle.helm_core.specs.Ticks.{Seen, Tick, heard_at, heard_in_all, learnt_at, pairs_mailed, seen_at, tick_stamp}

abbrev past_iteration_with : Plan → Seen → Spawning → PastIteration
past_iteration_with plan seen spawning = record { seen = seen; answers = spawning.answers; showings = all_showings seen (all_begun plan.axes seen spawning.ones) }

learnt_same : (ticks later : List Tick) (i : ℕ) → i < length ticks → learnt_at (ticks ++ later) i ≡ learnt_at ticks i
learnt_same ticks later i l = ap heard_in_all (take-append-le (suc i) ticks later (omega arith))

stamp_same : (ticks later : List Tick) (i : ℕ) → i < length ticks → tick_stamp (ticks ++ later) i ≡ tick_stamp ticks i
stamp_same ticks later i l =
    rw (map-append (λ (tick : Tick). tick.stamp) ticks later)
    (get_or_append_left (map (λ (tick : Tick). tick.stamp) ticks) (map (λ (tick : Tick). tick.stamp) later) 0 i
    (rw (length-map ticks (λ (tick : Tick). tick.stamp)) l))

heard_same : (ticks later : List Tick) (i : ℕ) → i < length ticks → heard_at (ticks ++ later) i ≡ heard_at ticks i
heard_same ticks later i l =
    rw (map-append (λ (tick : Tick). pairs_mailed tick.mail) ticks later)
    (get_or_append_left (map (λ (tick : Tick). pairs_mailed tick.mail) ticks) (map (λ (tick : Tick). pairs_mailed tick.mail) later) [] i
    (rw (length-map ticks (λ (tick : Tick). pairs_mailed tick.mail)) l))

pub seen_same : (decls : List Decl) (ticks later : List Tick) (i : ℕ) → i < length ticks → seen_at decls (ticks ++ later) i ≡ seen_at decls ticks i
seen_same decls ticks later i l = rw (learnt_same ticks later i l, stamp_same ticks later i l, heard_same ticks later i l) refl

-- what an iteration makes of the list before its letters, by what it sees
abbrev after_seen : Plan → ℕ → Seen → List BhvSoFar → List BhvSoFar
after_seen plan at seen ones = filter stays (all_after seen (all_begun plan.axes seen (spawned plan.axes plan.blocks at seen.letters ones).ones))

pub list_same : (plan : Plan) (ticks later : List Tick) (n : ℕ) → n ≤ length ticks → list_before plan (ticks ++ later) n ≡ list_before plan ticks n
list_same plan ticks later zero l = refl
list_same plan ticks later (suc n) l =
    ap (λ seen. after_seen plan n seen (list_before plan (ticks ++ later) n)) (seen_same plan.decls ticks later n (omega arith))
    ∙ ap (after_seen plan n (seen_at plan.decls ticks n)) (list_same plan ticks later n (omega arith))

spawning_same : (plan : Plan) (ticks later : List Tick) (i : ℕ) → i < length ticks → spawned_at plan (ticks ++ later) i ≡ spawned_at plan ticks i
spawning_same plan ticks later i l =
    ap (λ seen. spawned plan.axes plan.blocks i seen.letters (list_before plan (ticks ++ later) i)) (seen_same plan.decls ticks later i l)
    ∙ ap (spawned plan.axes plan.blocks i (seen_at plan.decls ticks i).letters) (list_same plan ticks later i (omega arith))

at_same : (plan : Plan) (ticks later : List Tick) (i : ℕ) → i < length ticks → past_iteration_at plan (ticks ++ later) i ≡ past_iteration_at plan ticks i
at_same plan ticks later i l =
    ap (λ seen. past_iteration_with plan seen (spawned_at plan (ticks ++ later) i)) (seen_same plan.decls ticks later i l)
    ∙ ap (past_iteration_with plan (seen_at plan.decls ticks i)) (spawning_same plan ticks later i l)

pub before_same : (plan : Plan) (ticks later : List Tick) (i : ℕ) → i ≤ length ticks → past_iteration_before plan (ticks ++ later) i ≡ past_iteration_before plan ticks i
before_same plan ticks later zero l = refl
before_same plan ticks later (suc i) l = ap Some (at_same plan ticks later i (omega arith))

pub iteration_same : (plan : Plan) (ticks later : List Tick) (i : ℕ) → i < length ticks → iteration_at plan (ticks ++ later) i ≡ iteration_at plan ticks i
iteration_same plan ticks later i l =
    ap (λ before. iteration_of plan before (past_iteration_at plan (ticks ++ later) i)) (before_same plan ticks later i (omega arith))
    ∙ ap (iteration_of plan (past_iteration_before plan ticks i)) (at_same plan ticks later i l)
