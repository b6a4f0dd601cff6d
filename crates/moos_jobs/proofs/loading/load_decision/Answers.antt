-- A decision that couldn't be loaded, or is refused, or was read.
use Rattle.std.proofs.Common.{◌∙◌, ap, subst, sym}
use Rattle.command_line.specs.declared.status.FileKind.TheVariants.{Decision as DecisionFile}
use Rattle.moos_jobs.proofs.OneFile.{not_good, not_there, was_read}
use Rattle.moos_text.specs.Refusals.{IsFirst}
use Rattle.ivp_cert.specs.Decisions.{decision_of}
use Rattle.moos_jobs.proofs.loading.load_decision.Goals as goal

pub returns-in-Err-clause-ends : goal.returns-in-Err-clause-ends
returns-in-Err-clause-ends g c =
    not_there _ _ _ DecisionFile c.args.name.now _ decision_of c.bytes.ensures.value _ c.in-Err.fault c.unloaded.result
    c.in-Err.ensures.failed c.in-Err.ensures.rose c.in-Err.ensures.unsure c.unloaded.ensures.failed c.unloaded.ensures.memory

pub returns-in-Ok-read_decision-clause-read : goal.returns-in-Ok-read_decision-clause-read
returns-in-Ok-read_decision-clause-read g c =
    was_read _ _ _ DecisionFile c.args.name.now _ decision_of c.bytes.ensures.value c.in-Ok.bytes.items c.in-Ok.ensures.content c.in-Ok.ensures.heard c.in-Ok-read_decision.decision
    (ap decision_of (sym c.deref.ensures.value) ∙ c.in-Ok-read_decision.ensures.read)

pub returns-clause-ends : goal.returns-clause-ends
returns-clause-ends g c =
    let fault = c.in-Err-read_decision.fault in
    let first : IsFirst fault (decision_of c.in-Ok.bytes.items) = subst (λ bytes. IsFirst fault (decision_of bytes)) c.deref.ensures.value c.in-Err-read_decision.ensures.refused in
    not_good _ _ _ DecisionFile c.args.name.now _ decision_of c.bytes.ensures.value c.in-Ok.bytes.items c.in-Ok.ensures.content c.in-Ok.ensures.heard _ fault c.refused.result first c.refused.ensures
