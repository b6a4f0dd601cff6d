use Rattle.std.proofs.Common.{◌≡◌, Ok, Err, ap, sym, subst, ◌∙◌, List}
use Rattle.moos_text.specs.declared.cause.ReadFault.{ReadFault}
use Rattle.moos_text.specs.Refusals.{fault_at, IsFirst}
use Rattle.ivp_domain.specs.declared.axis.Axis.{Axis}
use Rattle.ivp_func.specs.Making.{MadeFunction}
use Rattle.ivp_cert.specs.Making.{line_fault}
use Rattle.ivp_cert.specs.Problems.{finished}
use Rattle.ivp_cert.specs.Unfinished.{UnfinishedSum}
use Rattle.ivp_cert.proofs.Finishing.{made_bad, made_good}
use Rattle.ivp_cert.proofs.unfinished.Unfinished.finished.Goals as goal

pub returns-in-Ok-push-clause-read : goal.returns-in-Ok-push-clause-read
returns-in-Ok-push-clause-read c =
    let sum : UnfinishedSum = record { before = c.self.inside.before; line = c.self.inside.line; weight = c.self.inside.weight; pieces = c.self.inside.pieces.items } in
    let made = subst (λ (axes : List Axis). MadeFunction axes sum.pieces (Ok c.in-Ok.func)) c.domain.ensures c.in-Ok.ensures in
    subst (λ (s : UnfinishedSum). finished s ≡ Ok c.push.new.self) c.self.view_is (made_good sum c.in-Ok.func made ∙ ap Ok (sym c.in-Ok-push.ensures))

pub returns-in-Err-clause-refused : goal.returns-in-Err-clause-refused
returns-in-Err-clause-refused c =
    let sum : UnfinishedSum = record { before = c.self.inside.before; line = c.self.inside.line; weight = c.self.inside.weight; pieces = c.self.inside.pieces.items } in
    let made = subst (λ (axes : List Axis). MadeFunction axes sum.pieces (Err c.in-Err.fault)) c.domain.ensures c.in-Err.ensures in
    let told = c.at.ensures ∙ ap (fault_at sum.line) c.line_fault.ensures in
    subst (λ (fault : ReadFault). IsFirst fault (finished c.args.self)) (sym told)
    (subst (λ (s : UnfinishedSum). IsFirst (fault_at sum.line (line_fault c.in-Err.fault)) (finished s)) c.self.view_is (made_bad sum c.in-Err.fault c.self.invariant.2 made))
