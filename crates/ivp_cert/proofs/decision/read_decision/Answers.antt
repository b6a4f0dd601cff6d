use Rattle.std.proofs.Common.{arith, sym, ◌∙◌}
use Rattle.std.proofs.lemmas.Result.{err_from_is_err_and}
use Rattle.ivp_cert.specs.declared.stage.ProblemStage.TheVariants.{Start}
use Rattle.ivp_cert.specs.declared.phase.DecisionStage.TheVariants.{OfProblem}
use Rattle.ivp_cert.specs.Decisions.{decision_of}
use Rattle.ivp_cert.specs.Stages.{phase_after, whole_decision}
use Rattle.ivp_cert.proofs.Following.{decision_read}
use Rattle.ivp_cert.proofs.Reading.{IsNext, one_read, one_refused, told_fault, told_value}
use Rattle.ivp_cert.proofs.Bounded.{read_sums, read_whole}
use Rattle.ivp_cert.proofs.decision.read_decision.Goals as goal
use Rattle.moos_text.specs.Lines.{last_line}

pub loop-line-preserved : goal.loop-line-preserved
loop-line-preserved c =
    let next : IsNext c.loop-line.left.now c.in-Some.line.now c.in-Some.rest.now =
    record { text = c.in-Some.ensures.line; lines = c.in-Some.ensures.lines; shorter = omega (arith, c.in-Some.ensures.shorter) } in
    record {
      read = one_read phase_after (OfProblem Start) c.args.bytes.now c.loop-line.lines c.loop-line.phase c.after_line.new.self c.loop-line.left.now c.in-Some.line.now c.in-Some.rest.now c.loop-line.invariant.read
          next c.in_ok-after_line.ensures.read;
      point = c.in_ok-after_line.ensures.point;
    }

pub returns-clause-sums : goal.returns-clause-sums
returns-clause-sums c =
    read_sums c.args.bytes.now c.whole_decision.result
    (read_whole c.args.bytes.now c.loop-line.lines c.max.result c.loop-line.phase c.loop-line.left.now c.loop-line.invariant.read c.in_default.ensures.none c.max.ensures ∙ sym c.whole_decision.ensures.whole)

pub returns-in_err-after_line-clause-refused : goal.returns-in_err-after_line-clause-refused
returns-in_err-after_line-clause-refused c =
    let next : IsNext c.loop-line.left.now c.in-Some.line.now c.in-Some.rest.now =
    record { text = c.in-Some.ensures.line; lines = c.in-Some.ensures.lines; shorter = omega (arith, c.in-Some.ensures.shorter) } in
    let first = one_refused phase_after (OfProblem Start) (whole_decision (last_line c.args.bytes.now)) (decision_of c.args.bytes.now) c.args.bytes.now c.loop-line.lines c.loop-line.phase c.loop-line.left.now c.in-Some.line.now c.in-Some.rest.now
    c.in_err-after_line.field-0.0 (decision_read c.args.bytes.now) c.loop-line.invariant.read next c.in_err-after_line.ensures.refused in
    let p = err_from_is_err_and c.from_residual.result c.from_residual.ensures.1 in
    rw (p.1, p.2) first

pub returns-clause-read : goal.returns-clause-read
returns-clause-read c =
    told_value (decision_of c.args.bytes.now) c.whole_decision.result
    (read_whole c.args.bytes.now c.loop-line.lines c.max.result c.loop-line.phase c.loop-line.left.now c.loop-line.invariant.read c.in_default.ensures.none c.max.ensures ∙ sym c.whole_decision.ensures.whole)

pub returns-clause-refused : goal.returns-clause-refused
returns-clause-refused c =
    told_fault (decision_of c.args.bytes.now) c.whole_decision.result
    (read_whole c.args.bytes.now c.loop-line.lines c.max.result c.loop-line.phase c.loop-line.left.now c.loop-line.invariant.read c.in_default.ensures.none c.max.ensures ∙ sym c.whole_decision.ensures.whole)
