use Rattle.std.proofs.Common.{◌+◌, ap, subst, sym, ◌∙◌, arith}
use Rattle.std.specs.Prelude.{IfOk, Result}
use Rattle.moos_text.specs.declared.cause.ReadFault.{ReadFault}
use Rattle.std.proofs.lemmas.Result.{err_from_is_err_and}
use Rattle.moos_text.specs.Lines.{first_line, last_line}
use Rattle.moos_text.specs.Refusals.{IsFirst}
use Rattle.moos_text.specs.Standing.{after_raw, after_text, Outside}
use Rattle.moos_text.proofs.Walks.{IsNext, one_read, one_refused, told_fault, told_value}
use Rattle.mission_reader.specs.declared.mission.Mission.{Mission}
use Rattle.mission_reader.specs.Validity.{IsValidMission}
use Rattle.mission_reader.proofs.Valid.{mission_valid}
use Rattle.mission_reader.specs.Missions.{mission_form, mission_of, nothing_set}
use Rattle.mission_reader.specs.Places.{standing}
use Rattle.mission_reader.proofs.Following.{mission_read, mission_whole, whole}
use Rattle.mission_reader.proofs.read.read_mission.Goals as goal

pub loop-said-preserved : goal.loop-said-preserved
loop-said-preserved c =
    let left = c.loop-said.left.now in
    let next : IsNext left (first_line left) c.in-Some.said.rest.now = record { lines = c.in-Some.ensures.lines; shorter = omega (arith, c.in-Some.ensures.shorter) } in
    one_read (after_raw mission_form) (Outside nothing_set) c.args.bytes.now c.loop-said.lines (standing c.loop-said.reading.settings c.loop-said.reading.place)
    (standing c.read_line.new.self.settings c.read_line.new.self.place) left (first_line left) c.in-Some.said.rest.now c.loop-said.invariant next
    (ap (after_text mission_form (c.loop-said.lines + 1) (standing c.loop-said.reading.settings c.loop-said.reading.place)) (sym c.in-Some.ensures.said) ∙ c.in_ok-read_line.ensures.read)

pub returns-in_err-read_line-clause-refused : goal.returns-in_err-read_line-clause-refused
returns-in_err-read_line-clause-refused c =
    let left = c.loop-said.left.now in
    let next : IsNext left (first_line left) c.in-Some.said.rest.now = record { lines = c.in-Some.ensures.lines; shorter = omega (arith, c.in-Some.ensures.shorter) } in
    let said = ap (after_text mission_form (c.loop-said.lines + 1) (standing c.loop-said.reading.settings c.loop-said.reading.place)) c.in-Some.ensures.said in
    let first = one_refused (after_raw mission_form) (Outside nothing_set) (whole (last_line c.args.bytes.now)) (mission_of c.args.bytes.now) c.args.bytes.now c.loop-said.lines
    (standing c.loop-said.reading.settings c.loop-said.reading.place) left (first_line left) c.in-Some.said.rest.now
    c.in_err-read_line.field-0.0 (mission_read c.args.bytes.now) c.loop-said.invariant next (subst (IsFirst c.in_err-read_line.field-0.0) said c.in_err-read_line.ensures.refused) in
    let p = err_from_is_err_and c.from_residual.result c.from_residual.ensures.1 in
    rw (p.1, p.2) first

pub returns-clause-read : goal.returns-clause-read
returns-clause-read c =
    told_value (mission_of c.args.bytes.now) c.mission.result
    (mission_whole c.args.bytes.now c.loop-said.lines c.max.result (standing c.loop-said.reading.settings c.loop-said.reading.place) c.loop-said.left.now c.loop-said.invariant c.in_default.ensures.none c.max.ensures ∙ sym c.mission.ensures)

pub returns-clause-refused : goal.returns-clause-refused
returns-clause-refused c =
    told_fault (mission_of c.args.bytes.now) c.mission.result
    (mission_whole c.args.bytes.now c.loop-said.lines c.max.result (standing c.loop-said.reading.settings c.loop-said.reading.place) c.loop-said.left.now c.loop-said.invariant c.in_default.ensures.none c.max.ensures ∙ sym c.mission.ensures)

pub returns-clause-valid : goal.returns-clause-valid
returns-clause-valid c =
    subst (λ (answer : Result Mission ReadFault). IfOk answer IsValidMission)
    (mission_whole c.args.bytes.now c.loop-said.lines c.max.result (standing c.loop-said.reading.settings c.loop-said.reading.place) c.loop-said.left.now c.loop-said.invariant c.in_default.ensures.none c.max.ensures ∙ sym c.mission.ensures)
    (mission_valid c.args.bytes.now)
