use Rattle.std.proofs.Common.{sym, ◌∙◌, arith}
use Rattle.std.proofs.lemmas.Result.{err_from_is_err_and}
use Rattle.ivp_cert.specs.declared.stage.ProblemStage.TheVariants.{Start}
use Rattle.ivp_cert.specs.Problems.{problem_of}
use Rattle.ivp_cert.specs.Stages.{stage_after, whole_problem}
use Rattle.ivp_cert.proofs.Bounded.{problem_whole}
use Rattle.ivp_cert.proofs.Following.{problem_read}
use Rattle.ivp_cert.proofs.Reading.{IsNext, one_read, one_refused, told_fault, told_value}
use Rattle.ivp_cert.proofs.read.read_problem.Goals as goal
use Rattle.moos_text.specs.Lines.{last_line}

pub loop-line-preserved : goal.loop-line-preserved
loop-line-preserved c =
    let next : IsNext c.loop-line.left.now c.in-Some.line.now c.in-Some.rest.now =
    record { text = c.in-Some.ensures.line; lines = c.in-Some.ensures.lines; shorter = omega (arith, c.in-Some.ensures.shorter) } in
    one_read stage_after Start c.args.bytes.now c.loop-line.lines c.loop-line.stage c.after_line.new.self c.loop-line.left.now c.in-Some.line.now c.in-Some.rest.now c.loop-line.invariant
    next c.in_ok-after_line.ensures.read

pub returns-in_err-after_line-clause-refused : goal.returns-in_err-after_line-clause-refused
returns-in_err-after_line-clause-refused c =
    let next : IsNext c.loop-line.left.now c.in-Some.line.now c.in-Some.rest.now =
    record { text = c.in-Some.ensures.line; lines = c.in-Some.ensures.lines; shorter = omega (arith, c.in-Some.ensures.shorter) } in
    let first = one_refused stage_after Start (whole_problem (last_line c.args.bytes.now)) (problem_of c.args.bytes.now) c.args.bytes.now c.loop-line.lines c.loop-line.stage c.loop-line.left.now c.in-Some.line.now c.in-Some.rest.now
    c.in_err-after_line.field-0.0 (problem_read c.args.bytes.now) c.loop-line.invariant next c.in_err-after_line.ensures.refused in
    let p = err_from_is_err_and c.from_residual.result c.from_residual.ensures.1 in
    rw (p.1, p.2) first

pub returns-clause-read : goal.returns-clause-read
returns-clause-read c =
    told_value (problem_of c.args.bytes.now) c.whole_problem.result
    (problem_whole c.args.bytes.now c.loop-line.lines c.max.result c.loop-line.stage c.loop-line.left.now c.loop-line.invariant c.in_default.ensures.none c.max.ensures ∙ sym c.whole_problem.ensures)

pub returns-clause-refused : goal.returns-clause-refused
returns-clause-refused c =
    told_fault (problem_of c.args.bytes.now) c.whole_problem.result
    (problem_whole c.args.bytes.now c.loop-line.lines c.max.result c.loop-line.stage c.loop-line.left.now c.loop-line.invariant c.in_default.ensures.none c.max.ensures ∙ sym c.whole_problem.ensures)
