-- What is made is the script of the definition, and that is valid and rises.
use Rattle.std.proofs.Common.{◌≡◌, List, ◌++◌, ◌∷◌, [], ℕ, ap, sym, ◌∙◌, append_assoc, subst}
use Rattle.std.specs.Prelude.{true}
use Rattle.moos_post.specs.declared.entry.Entry.{Entry}
use Rattle.script_reader.specs.Validity.{IsValid}
use Rattle.mission_maker.specs.Generated.{generated_names, registrations, seconds, start}
use Rattle.mission_maker.specs.Stamps.{rise_within}
use Rattle.mission_maker.proofs.Rising.{generated_rise}
use Rattle.mission_maker.proofs.Validity.{generated_valid}
use Rattle.mission_maker.proofs.script.make_script.Goals as goal

-- the lines as they were added
made : (number : ℕ) (first behind all kept : List Entry) (line : Entry) → first ≡ registrations number 8 → line ≡ start → behind ≡ first ++ line ∷ [] → all ≡ behind ++ seconds number 600
    → kept ≡ all → kept ≡ registrations number 8 ++ start ∷ seconds number 600
made number first behind all kept line registered starts pushed added same =
    same ∙ added
    ∙ ap (λ lines. lines ++ seconds number 600) (pushed ∙ ap (λ line. first ++ line ∷ []) starts ∙ ap (λ lines. lines ++ start ∷ []) registered)
    ∙ append_assoc (registrations number 8) (start ∷ []) (seconds number 600)

pub returns-clause-valid : goal.returns-clause-valid
returns-clause-valid c =
    let lines = made c.args.number c.in_ok-lines.lines c.add.new.self c.add_seconds.new.lines c.shrink_to_fit.new.self c.in_ok-start.field-0 c.in_ok-lines.ensures c.in_ok-start.ensures
    c.in_ok-add.ensures.ok c.in_ok-add_seconds.ensures c.shrink_to_fit.ensures in
    let named : c.in_ok-names.names ≡ generated_names = c.in_ok-names.ensures in
    subst (λ (names : List (List ℕ)). IsValid (record { names = names; lines = c.shrink_to_fit.new.self; stop = 600000 })) (sym named)
    (subst (λ (lines : List Entry). IsValid (record { names = generated_names; lines = lines; stop = 600000 })) (sym lines) (generated_valid c.args.number))

pub returns-clause-rises : goal.returns-clause-rises
returns-clause-rises c =
    let lines = made c.args.number c.in_ok-lines.lines c.add.new.self c.add_seconds.new.lines c.shrink_to_fit.new.self c.in_ok-start.field-0 c.in_ok-lines.ensures c.in_ok-start.ensures
    c.in_ok-add.ensures.ok c.in_ok-add_seconds.ensures c.shrink_to_fit.ensures in
    subst (λ (lines : List Entry). rise_within 0 600000 lines ≡ true) (sym lines) (generated_rise c.args.number)
