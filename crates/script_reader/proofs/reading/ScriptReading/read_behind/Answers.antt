use Rattle.std.proofs.Common.{sym, ap, subst, ◌∙◌, bytes_eq}
use Rattle.std.specs.Prelude.{IfErr, Result}
use Rattle.moos_text.specs.declared.cause.Cause.{Cause}
use Rattle.moos_text.specs.Refusals.{IsLineFault}
use Rattle.script_reader.specs.declared.script.Script.{Script}
use Rattle.script_reader.specs.Counts.{after_call}
use Rattle.script_reader.proofs.Steps.{client_step}
use Rattle.script_reader.proofs.reading.ScriptReading.read_behind.Goals as goal

pub returns-clause-refused : goal.returns-clause-refused
returns-clause-refused c =
    let step = client_step c.args.self.now.script c.args.text.now c.split_word.result.0.now c.split_word.result.1.now c.args.stamp c.in_ok-number.number
    c.split_word.ensures.first c.split_word.ensures.behind (sym (c.eq.ensures ∙ ap (bytes_eq c.split_word.result.0.now) c.as_slice.ensures) ∙ c.if-eq.false) c.in_ok-number.ensures.client
    ∙ ap (λ script. after_call script c.args.stamp c.split_word.result.1.now c.in_ok-number.number) (sym c.in_ok-number.ensures.joined) in
    subst (λ (answer : Result Script Cause). IfErr c.read_call.result (λ fault. IsLineFault fault answer)) (sym step) c.read_call.ensures.refused
