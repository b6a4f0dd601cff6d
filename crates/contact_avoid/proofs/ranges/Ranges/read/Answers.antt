use Rattle.std.proofs.Common.{◌+◌, ap, sym, ◌∙◌, arith}
use Rattle.std.proofs.lemmas.Result.{err_from_is_err_and}
use Rattle.moos_text.specs.Lines.{first_line}
use Rattle.moos_text.proofs.Walks.{IsNext, one_read}
use Rattle.contact_avoid.specs.RangeFiles.{usual_ranges, with_text}
use Rattle.contact_avoid.proofs.Lines.{none_left, one_bad, with_raw}
use Rattle.contact_avoid.proofs.ranges.Ranges.read.Goals as goal

pub loop-said-preserved : goal.loop-said-preserved
loop-said-preserved c =
    let left = c.loop-said.left.now in
    let next : IsNext left (first_line left) c.in-Some.said.rest.now = record { lines = c.in-Some.ensures.lines; shorter = omega (arith, c.in-Some.ensures.shorter) } in
    one_read with_raw usual_ranges c.args.bytes.now c.loop-said.lines c.loop-said.ranges c.read_line.new.self left (first_line left) c.in-Some.said.rest.now c.loop-said.invariant next
    (ap (with_text (c.loop-said.lines + 1) c.loop-said.ranges) (sym c.in-Some.ensures.said) ∙ c.in_ok-read_line.ensures.read)

pub returns-in_err-read_line-clause-refused : goal.returns-in_err-read_line-clause-refused
returns-in_err-read_line-clause-refused c =
    let left = c.loop-said.left.now in
    let next : IsNext left (first_line left) c.in-Some.said.rest.now = record { lines = c.in-Some.ensures.lines; shorter = omega (arith, c.in-Some.ensures.shorter) } in
    let first = one_bad c.args.bytes.now c.loop-said.lines c.loop-said.ranges left (first_line left) c.in-Some.said.rest.now c.in_err-read_line.field-0.0 c.loop-said.invariant next
    (ap (with_text (c.loop-said.lines + 1) c.loop-said.ranges) (sym c.in-Some.ensures.said) ∙ c.in_err-read_line.ensures.refused) in
    let p = err_from_is_err_and c.from_residual.result c.from_residual.ensures.1 in
    rw (p.1, p.2) first

pub returns-clause-read : goal.returns-clause-read
returns-clause-read c =
    let same = none_left c.args.bytes.now c.loop-said.lines c.max.result c.loop-said.ranges c.loop-said.left.now c.loop-said.invariant c.in_default.ensures.none c.max.ensures in
    rw (same) c.ordered.ensures.read

pub returns-clause-refused : goal.returns-clause-refused
returns-clause-refused c =
    let same = none_left c.args.bytes.now c.loop-said.lines c.max.result c.loop-said.ranges c.loop-said.left.now c.loop-said.invariant c.in_default.ensures.none c.max.ensures in
    rw (same) c.ordered.ensures.refused
