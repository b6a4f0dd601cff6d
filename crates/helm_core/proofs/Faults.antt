-- What an iteration says of the faults of behaviours, one behaviour more.
use Rattle.std.proofs.Common.{◌≡◌, ℕ, ◌+◌, ◌<◌, List, [], ◌∷◌, ◌++◌, take, length, get_or, Option, Some, None, refl, ap, sym, ◌∙◌}
use Rattle.std.specs.List.{cons_option, filter_map}
use Rattle.std.specs.Option.{option_to_list}
use Rattle.std.proofs.lemmas.List.{take_more}
use Rattle.std.proofs.lemmas.List.Elements.{filter_map-append}
use Rattle.helm_core.specs.declared.iteration.BhvError.{BhvError}
use Rattle.helm_core.specs.declared.showing.TurnShown.{TurnShown}
use Rattle.helm_core.specs.Iterations.{all_faults, fault_of}

as_list : (error : Option BhvError) → option_to_list error ≡ cons_option error []
as_list None = refl
as_list (Some error) = refl

pub faults_more : (showings : List TurnShown) (i : ℕ) (showing : TurnShown) (so_far more : List BhvError) → i < length showings → showing ≡ get_or showings i showing
    → more ≡ so_far ++ option_to_list (fault_of showing) → so_far ≡ all_faults (take i showings) → more ≡ all_faults (take (i + 1) showings)
faults_more showings i showing so_far more within is added before =
    added ∙ ap (λ list. list ++ option_to_list (fault_of showing)) before ∙ ap (λ list. all_faults (take i showings) ++ list) (as_list (fault_of showing))
    ∙ sym (ap (filter_map fault_of) (take_more showings i showing within ∙ ap (λ (one : TurnShown). take i showings ++ one ∷ []) (sym is))
    ∙ filter_map-append fault_of (take i showings) (showing ∷ []))
