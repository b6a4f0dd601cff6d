use Rattle.std.proofs.Common.{Bool, List, [], ◌∷◌, ◌++◌, ◌∙◌, ap, if◌then◌else◌}
use Rattle.std.specs.Prelude.{bytes_eq}
use Rattle.helm_core.specs.declared.iteration.Update.{Update}
use Rattle.helm_core.proofs.Answering.{heard_more}
use Rattle.helm_core.proofs.telling.add_heard.Goals as goal

pub loop-update-preserved : goal.loop-update-preserved
loop-update-preserved c =
    let update = c.update-item.result in
    let own : Bool → List Update = λ is_own. c.loop-update.updates ++ (if is_own then update ∷ [] else []) in
    heard_more c.args.name.now c.args.heard.now c.loop-update.update-index update c.args.updates.now c.loop-update.updates c.add_own.new.updates c.loop-update-test.true c.update-item.is c.loop-update.invariant
    (c.in_ok-add_own.ensures ∙ ap own c.eq-is_own.ensures ∙ ap (λ name. own (bytes_eq name c.bytes-in-loop-update.result.now)) c.bytes.ensures.value ∙ ap (λ name. own (bytes_eq update.name name)) c.bytes-in-loop-update.ensures.value)
