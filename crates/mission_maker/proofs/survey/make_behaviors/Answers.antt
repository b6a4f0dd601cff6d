-- The survey's behaviour file is good, and so is never refused.
use Rattle.std.proofs.Common.{◌≡◌, ◌∙◌, true, refl, ap, sym, subst}
use Rattle.std.specs.Prelude.{is_ok}
use Rattle.bhv_reader.specs.Behaviors.{behaviors_of}
use Rattle.moos_text.specs.Refusals.{IsFirst, and_then}
use Rattle.mission_maker.specs.Survey.{behaviors_over, generated_behaviors, generated_mission}
use Rattle.mission_maker.specs.declared.survey.TheConstants.{SURVEY_BEHAVIORS}
use Rattle.mission_maker.proofs.survey.make_behaviors.Goals as goal

good : is_ok generated_behaviors ≡ true
unfolding generated_behaviors generated_mission
good = refl

pub returns-in-Ok-clause-file : goal.returns-in-Ok-clause-file
unfolding generated_behaviors
returns-in-Ok-clause-file c =
    ap (and_then (behaviors_over SURVEY_BEHAVIORS.now)) c.requires ∙ ap (behaviors_of c.args.mission.now.domain) (sym c.as_bytes.ensures.value) ∙ c.in-Ok.ensures.read

pub unreachable-requires : goal.unreachable-requires
unfolding generated_behaviors
unreachable-requires c =
    let refused = subst (λ fault. IsFirst fault (behaviors_of c.args.mission.now.domain c.as_bytes.result.now)) c.in-Err-At.field-0-is c.in-Err-At.ensures.refused in
    let is = ap (and_then (behaviors_over SURVEY_BEHAVIORS.now)) c.requires ∙ ap (behaviors_of c.args.mission.now.domain) (sym c.as_bytes.ensures.value) ∙ refused in
    let both = sym (ap is_ok is) ∙ good in
    cc both
