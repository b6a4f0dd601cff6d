use Rattle.std.proofs.Common.{◌≡◌, true, codes, bytes_eq, cond, ap, subst, sym, ◌∙◌}
use Rattle.std.specs.Prelude.{Ok, Err, Option}
use Rattle.std.proofs.lemmas.Result.{err_from_is_err_and}
use Rattle.moos_post.specs.Words.{is_name}
use Rattle.moos_text.specs.declared.cause.Cause.TheVariants.{B1}
use Rattle.moos_text.specs.Lines.{trimmed}
use Rattle.moos_text.specs.Pairs.{Sides}
use Rattle.moos_text.specs.Refusals.{IsLineFault}
use Rattle.bhv_reader.specs.Behaviors.{mode_begun}
use Rattle.bhv_reader.proofs.Faults.{mode_fault, not_false}
use Rattle.bhv_reader.proofs.mode.begin_mode.Goals as goal

pub returns-in_err-name-clause-refused : goal.returns-in_err-name-clause-refused
returns-in_err-name-clause-refused c =
    let variable = c.in-Some.variable.now in
    let value = c.in-Some.value.now in
    let fault = c.in_err-name.field-0.0 in
    let p = err_from_is_err_and c.from_residual.result c.from_residual.ensures.1 in
    let mode : bytes_eq variable (codes "MODE") ≡ true = ap (bytes_eq variable) (sym c.as_slice.ensures) ∙ not_false (bytes_eq variable c.as_slice.result.now) (sym c.ne.ensures ∙ c.if-ne.false) in
    let named = subst (λ text. IsLineFault fault (cond (is_name text) (Ok text) (Err B1))) (c.trimmed.ensures ∙ ap trimmed c.without_last.ensures.value) c.in_err-name.ensures.refused in
    rw (p.1, p.2) (subst (λ (sides : Option Sides). IsLineFault fault (mode_begun c.args.file.now sides)) (sym c.in-Some.ensures)
    (mode_fault c.args.file.now (record { name = variable; value = value }) fault mode named))
