use Rattle.std.proofs.Common.{arith}
use Rattle.std.proofs.lemmas.Result.{err_from_is_err_and}
use Rattle.bhv_reader.proofs.Faults.{other_fault}
use Rattle.bhv_reader.proofs.mode.other_of.Goals as goal

pub returns-in_err-name_of-in_default-clause-refused : goal.returns-in_err-name_of-in_default-clause-refused
returns-in_err-name_of-in_default-clause-refused c =
    let p = err_from_is_err_and c.from_residual.result c.from_residual.ensures.1 in
    rw (p.1, p.2) (other_fault c.args.text.now c.in_err-name_of-in_default.field-0.0 (omega (arith, c.in_default.len_at_least)) c.in_err-name_of-in_default.ensures.refused)
