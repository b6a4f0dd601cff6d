use Rattle.std.proofs.Common.{◌≡◌, true, ap, sym, ◌∙◌, arith}
use Rattle.std.proofs.lemmas.Result.{err_from_is_err_and}
use Rattle.helm_cond.specs.Grammar.{condition_of}
use Rattle.bhv_file.specs.Validity.{fits_mode}
use Rattle.bhv_reader.specs.Places.{mode_block}
use Rattle.bhv_reader.proofs.Faults.{cond_fault, parent_fault}
use Rattle.bhv_reader.proofs.mode.UnclosedMode.add_condition.Goals as goal

pub returns-in_err-cond-clause-refused : goal.returns-in_err-cond-clause-refused
returns-in_err-cond-clause-refused c =
    let p = err_from_is_err_and c.from_residual.result c.from_residual.ensures.1 in
    rw (p.1, p.2) (cond_fault (mode_block c.args.file.now c.args.self.now) (condition_of c.args.text.now) c.in_err-cond.field-0.0 c.in_err-cond.ensures.refused)

pub returns-in-Err-clause-refused : goal.returns-in-Err-clause-refused
returns-in-Err-clause-refused c =
    let cond = c.in_ok-cond.cond in
    let fits : fits_mode c.args.self.now.conds cond ≡ true = ap (λ conds. fits_mode conds cond) (sym c.all.ensures) ∙ sym c.fits_mode.ensures ∙ c.if-not-fits_mode.false in
    parent_fault (mode_block c.args.file.now c.args.self.now) (condition_of c.args.text.now) cond c.in-Err.cause c.in_ok-cond.ensures.cond fits
    (omega (arith, c.if-len-ge-MOST_CONDITIONS.false, c.len.ensures)) c.in-Err.ensures
