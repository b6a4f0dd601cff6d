-- Which client of a run is a further one.
use Rattle.std.proofs.Common.{◌≡◌, ℕ, ◌+◌, ◌≤◌, ◌<◌, List, [], ◌∷◌, ◌++◌, length, length-append, Some, sym, ap, subst, arith}
use Rattle.std.specs.Prelude.{codes, option_map}
use Rattle.moos_play.specs.declared.playing.Play.{Play}
use Rattle.moos_play.specs.declared.run.HelmRun.{HelmRun}
use Rattle.moos_play.specs.Lawful.{known_clients, names_with, helm_setup_with}
use Rattle.moos_play.specs.Plays.{clients_in, GoesOnWith, helm_in, IsFurther, script_played}
use Rattle.script_reader.specs.declared.script.Script.{Script}

-- a helm is one client more than the script's
helm_more : {A : Type 0} (script : Script) (run : A) → length (names_with script (Some run)) ≡ length script.names + 1
helm_more script run = length-append script.names (codes "pHelmIvP" ∷ [])

-- one that is stays one
pub further_on : (before after : Play) (client : ℕ) → GoesOnWith before after → IsFurther before client → IsFurther after client
further_on before after client on so = record {
  past = subst (λ number. number ≤ client) (λ i. known_clients (sym on.script i) (sym on.helm i)) so.past;
  named = subst (λ (names : List (List ℕ)). client < length names) (sym on.names) so.named;
}

-- behind one client of a script and a helm the next one is
pub further_third : (script : Script) (run : HelmRun) (further : List (List ℕ)) (play : Play) → length script.names ≡ 1 → length further ≡ 1 → script_played play ≡ script → helm_in play ≡ option_map (helm_setup_with script) (Some run)
    → clients_in play ≡ names_with script (Some run) ++ further → IsFurther play 2
further_third script run further play one more script_is helm_is names_is = record {
  past = subst (λ number. number ≤ 2) (λ i. known_clients (sym script_is i) (sym helm_is i)) (omega (arith, helm_more script (helm_setup_with script run), one));
  named = omega (arith, ap length names_is, length-append (names_with script (Some run)) further, helm_more script run, one, more);
}
