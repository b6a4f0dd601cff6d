-- A run without further clients that is told as it comes: its names, and the report of a lawful history.
use Rattle.std.proofs.Common.{◌≡◌, ℕ, cond, nat_lt, Bool, true, false, List, [], ◌∷◌, ◌++◌, length, Option, None, Some, refl, ap, sym, ◌∙◌, subst, arith, append-nil}
use Rattle.std.specs.Prelude.{option_map}
use Rattle.helm_core.specs.declared.iteration.Iteration.{Iteration}
use Rattle.helm_core.specs.Plans.{wants_of}
use Rattle.moos_client.specs.Calls.{entry_of}
use Rattle.moos_post.specs.declared.entry.Call.TheVariants.{Register, Post as Posts}
use Rattle.moos_post.specs.History.{History}
use Rattle.moos_play.specs.Lawful.{heard_of, helm_number, IsLawful, iterations, names_with, opening, HelmSetup}
use Rattle.moos_play.specs.Plays.{clients_in, GoesOnWith, helm_in, history_in, iterations_made, Playing, script_played}
use Rattle.moos_report.specs.declared.setup.Setup.{Setup}
use Rattle.moos_report.specs.IterationLines.{helm_fetches, is_helm}
use Rattle.moos_report.specs.Parts.{front_text}
use Rattle.moos_report.specs.Report.{report_text}
use Rattle.moos_jobs.proofs.Fetching.{fetched, IsHelmNamed, IsNamed, IsRunWell, named_beside}
use Rattle.moos_jobs.specs.PlayTelling.{IsFrontOfLawful, IsOfLawful}
use Rattle.script_reader.specs.declared.script.Order.{Order}
use Rattle.script_reader.specs.declared.script.Script.{Script}
use Rattle.script_reader.specs.Validity.{IsValid}

-- a run has no further clients
abbrev pub IsAlone : Playing → Type 0
IsAlone play = clients_in play ≡ names_with (script_played play) (helm_in play)

pub alone_on : (before after : Playing) → GoesOnWith before after → IsAlone before → IsAlone after
alone_on before after on alone = on.names ∙ alone ∙ (λ i. names_with (sym on.script i) (sym on.helm i))

-- no name is the helm's where there is none
no_helm : (client : ℕ) → is_helm [] client ≡ false
no_helm client = refl

-- so the helm's name stands where it is to
pub named_alone : (play : Playing) → IsAlone play → IsValid (script_played play) → IsNamed play
named_alone play alone valid =
    subst (λ names. IsHelmNamed names (script_played play) (helm_in play)) (append-nil (names_with (script_played play) (helm_in play)) ∙ sym alone)
    (named_beside (script_played play) (helm_in play) [] valid no_helm (λ none. refl))

-- the report of a lawful history under these names
pub of_lawful : (order : Order) (script : Script) (helm : Option HelmSetup) (setup : Setup) (names : List (List ℕ)) (history : History) (made : List Iteration) → names ≡ names_with script helm
    → IsLawful order script helm names history → made ≡ iterations helm script.stop (heard_of names (helm_number script) history) → IsOfLawful order script helm setup (report_text setup names history made)
of_lawful order script helm setup names history made named lawful is = record {
  history = history;
  lawful = subst (λ names. IsLawful order script helm names history) named lawful;
  printed = ap (report_text setup names history) is ∙ ap (λ names. report_text setup names history (iterations helm script.stop (heard_of names (helm_number script) history))) named;
}

-- what is printed of a front of such a history, in which the helm fetches for just these iterations
pub front_of_lawful : (order : Order) (script : Script) (helm : Option HelmSetup) (setup : Setup) (names : List (List ℕ)) (history rest : History) (made more : List Iteration) → names ≡ names_with script helm
    → IsLawful order script helm names (history ++ rest) → iterations helm script.stop (heard_of names (helm_number script) (history ++ rest)) ≡ made ++ more → helm_fetches names history ≡ length made
    → IsFrontOfLawful order script helm setup (front_text setup names history made)
front_of_lawful order script helm setup names history rest made more named lawful is fetches = record {
  front = history;
  rest = rest;
  may = subst (λ names. IsLawful order script helm names (history ++ rest)) named lawful;
  made = made;
  more = more;
  iterations = ap (λ names. iterations helm script.stop (heard_of names (helm_number script) (history ++ rest))) (sym named) ∙ is;
  fetched = ap (λ names. helm_fetches names history) (sym named) ∙ fetches;
  printed = ap (λ names. front_text setup names history made) named;
}

-- what holds of one run holds of another by the same order, script and helm
pub run_as : (P : Order → Script → Option HelmSetup → Type 0) {order order' : Order} {script script' : Script} {helm helm' : Option HelmSetup} → order ≡ order' → script ≡ script' → helm ≡ helm'
    → P order script helm → P order' script' helm'
run_as P {order = order} {order' = order'} {script = script} {script' = script'} {helm = helm} {helm' = helm'} one two three so =
    subst (λ helm. P order' script' helm) three (subst (λ script. P order' script helm) two (subst (λ order. P order script helm) one so))

-- before the first round no iteration is made
pub none_made : (play : Playing) → IsRunWell play → IsAlone play → history_in play ≡ opening (helm_in play) → iterations_made play ≡ []
none_made play well alone begun =
    none (iterations_made play) (sym (fetched play well (named_alone play alone well.valid)) ∙ ap (helm_fetches (clients_in play)) begun ∙ deaf (helm_in play))
  where
    none : (made : List Iteration) → length made ≡ 0 → made ≡ []
    none [] many = refl
    none (one ∷ made) many = absurd (omega (arith, many))

    deaf : (helm : Option HelmSetup) → helm_fetches (clients_in play) (opening helm) ≡ 0
    deaf None = refl
    deaf (Some helm) = by (nat_lt 0 (length helm.plan.opening))
      where
        by : (b : Bool) → helm_fetches (clients_in play) (entry_of helm.client 0 (Register (wants_of helm.plan)) ∷ cond b (entry_of helm.client 0 (Posts helm.plan.opening) ∷ []) []) ≡ 0
        by true = refl
        by false = refl

-- the names with a helm are the same, whatever is known of it
pub named_with : {A : Type 0} (script : Script) (steering : A → HelmSetup) (helm : Option A) → names_with script helm ≡ names_with script (option_map steering helm)
named_with script steering None = refl
named_with script steering (Some helm) = refl
