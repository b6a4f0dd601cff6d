use Rattle.std.proofs.Common.{◌+◌, [], ap, subst, sym, ◌∙◌, arith}
use Rattle.std.proofs.lemmas.Result.{err_from_is_err_and}
use Rattle.moos_text.specs.Lines.{first_line}
use Rattle.moos_text.specs.Refusals.{IsFirst}
use Rattle.moos_text.proofs.Walks.{all_read, IsNext, one_read, one_refused}
use Rattle.moos_share.specs.BridgeFiles.{after_said, rules_of}
use Rattle.moos_share.proofs.Following.{after_bridge_line, bridge_read, whole}
use Rattle.moos_share.proofs.Kept.{rules_good}
use Rattle.moos_share.proofs.reading.read_bridge.Goals as goal

pub loop-said-preserved : goal.loop-said-preserved
loop-said-preserved c =
    let left = c.loop-said.left.now in
    let next : IsNext left (first_line left) c.in-Some.said.rest.now = record { lines = c.in-Some.ensures.lines; shorter = omega (arith, c.in-Some.ensures.shorter) } in
    one_read after_bridge_line [] c.args.bytes.now c.loop-said.lines c.loop-said.rules c.read_line.new.rules left (first_line left) c.in-Some.said.rest.now c.loop-said.invariant next
    (ap (after_said (c.loop-said.lines + 1) c.loop-said.rules) (sym c.in-Some.ensures.said) ∙ c.in_ok-read_line.ensures.read)

pub returns-in_err-read_line-clause-refused : goal.returns-in_err-read_line-clause-refused
returns-in_err-read_line-clause-refused c =
    let left = c.loop-said.left.now in
    let next : IsNext left (first_line left) c.in-Some.said.rest.now = record { lines = c.in-Some.ensures.lines; shorter = omega (arith, c.in-Some.ensures.shorter) } in
    let said = ap (after_said (c.loop-said.lines + 1) c.loop-said.rules) c.in-Some.ensures.said in
    let first = one_refused after_bridge_line [] whole (rules_of c.args.bytes.now) c.args.bytes.now c.loop-said.lines
    c.loop-said.rules left (first_line left) c.in-Some.said.rest.now
    c.in_err-read_line.field-0.0 (bridge_read c.args.bytes.now) c.loop-said.invariant next (subst (IsFirst c.in_err-read_line.field-0.0) said c.in_err-read_line.ensures.refused) in
    let p = err_from_is_err_and c.from_residual.result c.from_residual.ensures.1 in
    rw (p.1, p.2) first

pub returns-clause-read : goal.returns-clause-read
returns-clause-read c = all_read after_bridge_line [] whole (rules_of c.args.bytes.now) c.args.bytes.now c.loop-said.lines c.loop-said.rules c.loop-said.left.now (bridge_read c.args.bytes.now) c.loop-said.invariant c.in_default.ensures.none

pub returns-clause-kept : goal.returns-clause-kept
returns-clause-kept c = rules_good c.args.bytes.now c.loop-said.rules (returns-clause-read c)
