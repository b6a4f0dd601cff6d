-- What makes a run over.
use Rattle.moos_play.specs.Plays.{iterations_by, ticks_behind}
use Rattle.std.proofs.Common.{◌≡◌, ℕ, ◌-◌, ◌≤◌, List, drop, length, Option, None, Some, arith, refl, ap, ◌∙◌}
use Rattle.std.specs.Prelude.{IfSome}
use Rattle.helm_core.specs.Helms.{plan_of}
use Rattle.moos_post.specs.History.{History}
use Rattle.moos_play.specs.declared.helm_client.HelmClient.{HelmClient}
use Rattle.moos_play.specs.Lawful.{heard_of, iterations, iterations_of, ticks_to}
use Rattle.moos_play.specs.Steered.{helm_of, iterations_in, helm_setup_of, ticks_in}
use Rattle.moos_play.proofs.Standing.{StandsAt}

-- the iterations of a run in which no tick is left
pub made_over : (names : List (List ℕ)) (number stop : ℕ) (history : History) (helm_client : Option HelmClient) → StandsAt names number helm_client history → IfSome helm_client (λ helm. (1 ≤ helm.period) × (helm.ticks ≤ ticks_to stop (helm_setup_of helm)))
    → ticks_behind stop (helm_of helm_client) (ticks_in helm_client) ≡ 0 → iterations_by names history (helm_of helm_client) (ticks_in helm_client) ≡ iterations (helm_of helm_client) stop (heard_of names number history)
made_over names number stop history None so period none = refl
made_over names number stop history (Some s) so period none =
    let all : s.ticks ≡ ticks_to stop (helm_setup_of s) = omega (arith, period.1, none) in
    ap (λ n. iterations_of (plan_of s.helm) (heard_of names s.number history) n) all ∙ ap (λ n. iterations_of (plan_of s.helm) (heard_of names n history) (ticks_to stop (helm_setup_of s))) so.0

-- all of them are kept where none was handed out
pub made_kept : (names : List (List ℕ)) (number : ℕ) (history : History) (helm_client : Option HelmClient) → StandsAt names number helm_client history → length (iterations_in helm_client) ≡ ticks_in helm_client → iterations_in helm_client ≡ iterations_by names history (helm_of helm_client) (ticks_in helm_client)
made_kept names number history None so all = refl
made_kept names number history (Some s) so all = let none : s.ticks - length s.iterations ≡ 0 = omega (arith, all) in so.1.same ∙ ap (λ told. drop told (iterations_of (plan_of s.helm) (heard_of names s.number history) s.ticks)) none
