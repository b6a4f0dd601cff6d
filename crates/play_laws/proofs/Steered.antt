-- Two plays of a script in which the helm, if there is one, is mailed the same behind the same entries of its own.
use Rattle.std.proofs.Common.{◌≡◌, ℕ, List, ◌∷◌, ◌++◌, Option, Some, None, refl, sym, ap, ◌∙◌, arith}
use Rattle.helm_core.specs.Plans.{Plan}
use Rattle.helm_core.specs.Ticks.{pairs_mailed}
use Rattle.helm_laws.specs.Inputs.{SameInputSameIteration}
use Rattle.moos_client.specs.Calls.{entries_of}
use Rattle.moos_db.specs.Database.{letters_after}
use Rattle.moos_post.specs.declared.entry.Entry.{Entry}
use Rattle.moos_post.specs.History.{History}
use Rattle.moos_play.specs.Lawful.{heard_of, HelmSetup, helm_number, IsLawful, iterations, iterations_of, opening, ticks_of, ticks_to}
use Rattle.script_reader.specs.declared.script.Order.{Order}
use Rattle.script_reader.specs.declared.script.Script.{Script}
use Rattle.play_laws.proofs.Ticking.{at_tick, AtTick, IsSteered, iterated_same, steered_same}

-- an iteration is a function of what was said
abbrev pub InputsTell : Type 0
InputsTell = (plan : Plan) → SameInputSameIteration plan

-- behind the same entries of its own the helm is mailed the same by a fetch of its own
abbrev pub AreMailed : Script → Option HelmSetup → List (List ℕ) → History → History → Type 0
AreMailed script helm names rest other =
    (before behind before' behind' : History) (fetch : Entry) → fetch.client ≡ helm_number script → rest ≡ before ++ fetch ∷ behind → other ≡ before' ++ fetch ∷ behind'
    → entries_of (helm_number script) before ≡ entries_of (helm_number script) before'
    → pairs_mailed (letters_after names (helm_number script) (opening helm ++ before)) ≡ pairs_mailed (letters_after names (helm_number script) (opening helm ++ before'))

-- the helm has the same entries and iterations
pub record SameHelm (script : Script) (helm : Option HelmSetup) (names : List (List ℕ)) (history other rest rest' : History) : Type 0 where
  pub steered : entries_of (helm_number script) rest ≡ entries_of (helm_number script) rest'
  pub iterated : iterations helm script.stop (heard_of names (helm_number script) history) ≡ iterations helm script.stop (heard_of names (helm_number script) other)

steered_by : (order : Order) (script : Script) (helm : HelmSetup) (names : List (List ℕ)) (history : History) → (lawful : IsLawful order script (Some helm) names history)
    → IsSteered helm names (helm_number script) (ticks_to script.stop helm) lawful.rest
steered_by order script helm names history lawful =
    lawful.steered ∙ ap (λ (history : History). ticks_of helm (heard_of names (helm_number script) history) (ticks_to script.stop helm)) lawful.opened

-- a helm that has entries has the number behind the script's clients
pub helm_client : (order : Order) (script : Script) (helm : HelmSetup) (names : List (List ℕ)) (history : History) → IsLawful order script (Some helm) names history → helm.client ≡ helm_number script
helm_client order script helm names history lawful =
    let at : AtTick helm names (helm_number script) (ticks_to script.stop helm) lawful.rest 0
    = at_tick helm names (helm_number script) (ticks_to script.stop helm) lawful.rest 0 (steered_by order script helm names history lawful) (omega arith) in
    at.own

pub same_helm : InputsTell → (one two : Order) (script : Script) (helm : Option HelmSetup) (names : List (List ℕ)) (history other : History) → (lawful : IsLawful one script helm names history)
    → (lawful' : IsLawful two script helm names other) → AreMailed script helm names lawful.rest lawful'.rest → SameHelm script helm names history other lawful.rest lawful'.rest
same_helm law one two script None names history other lawful lawful' alike = record { steered = lawful.steered ∙ sym lawful'.steered; iterated = refl }
same_helm law one two script (Some helm) names history other lawful lawful' alike = record {
  steered = steered_same helm names number count (law helm.plan) lawful.rest lawful'.rest (steered_by one script helm names history lawful) (steered_by two script helm names other lawful') alike;
  iterated = ap (λ (history : History). iterations_of helm.plan (heard_of names (helm_number script) history) (ticks_to script.stop helm)) lawful.opened
      ∙ iterated_same helm names number count (law helm.plan) lawful.rest lawful'.rest (steered_by one script helm names history lawful) (steered_by two script helm names other lawful') alike
      ∙ sym (ap (λ (history : History). iterations_of helm.plan (heard_of names (helm_number script) history) (ticks_to script.stop helm)) lawful'.opened);
}
  where
    number : ℕ
    number = helm_number script

    count : ℕ
    count = ticks_to script.stop helm
