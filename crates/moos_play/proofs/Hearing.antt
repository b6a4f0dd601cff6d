-- The helm's entries and iterations over what it hears in a history that goes on.
use Rattle.std.proofs.Common.{◌≡◌, ℕ, zero, suc, ◌≤◌, List, [], ◌∷◌, ◌++◌, length, length-append, refl, ap, ◌∙◌, arith, ◌*◌}
use Rattle.helm_core.proofs.Growing.{iteration_same}
use Rattle.helm_core.specs.declared.iteration.Iteration.{Iteration}
use Rattle.helm_core.specs.Iterations.{iteration_at}
use Rattle.helm_core.specs.Plans.{Plan}
use Rattle.helm_core.specs.Ticks.{Tick}
use Rattle.moos_client.specs.Calls.{entry_of}
use Rattle.moos_post.specs.declared.entry.Call.TheVariants.{Post as Posts, Fetch}
use Rattle.moos_play.specs.Lawful.{iterations_of, HelmSetup, tick_entries, ticks_of}

-- there is an iteration a tick
pub iterations_many : (plan : Plan) (heard : List Tick) (n : ℕ) → length (iterations_of plan heard n) ≡ n
iterations_many plan heard zero = refl
iterations_many plan heard (suc n) = length-append (iterations_of plan heard n) (iteration_at plan heard n ∷ []) ∙ omega (arith, iterations_many plan heard n)

-- the first ticks don't depend on what is heard later
pub ticks_stay : (helm : HelmSetup) (heard more : List Tick) (n : ℕ) → n ≤ length heard → ticks_of helm (heard ++ more) n ≡ ticks_of helm heard n
ticks_stay helm heard more zero l = refl
ticks_stay helm heard more (suc n) l =
    ap (λ front. front ++ tick_entries helm (heard ++ more) n) (ticks_stay helm heard more n (omega (arith, l)))
    ∙ ap (λ (iteration : Iteration). ticks_of helm heard n ++ entry_of helm.client (n * helm.period) Fetch ∷ entry_of helm.client (n * helm.period) (Posts iteration.posts) ∷ []) (iteration_same helm.plan heard more n (omega (arith, l)))

pub iterations_stay : (plan : Plan) (heard more : List Tick) (n : ℕ) → n ≤ length heard → iterations_of plan (heard ++ more) n ≡ iterations_of plan heard n
iterations_stay plan heard more zero l = refl
iterations_stay plan heard more (suc n) l =
    ap (λ front. front ++ iteration_at plan (heard ++ more) n ∷ []) (iterations_stay plan heard more n (omega (arith, l)))
    ∙ ap (λ iteration. iterations_of plan heard n ++ iteration ∷ []) (iteration_same plan heard more n (omega (arith, l)))
