use Rattle.std.proofs.Common.{◌+◌, length, ap, subst, sym, ◌∙◌, arith}
use Rattle.std.specs.Prelude.{IfOk, Result}
use Rattle.std.proofs.lemmas.Result.{err_from_is_err_and}
use Rattle.moos_text.specs.declared.cause.ReadFault.{ReadFault}
use Rattle.moos_text.specs.Lines.{first_line, last_line}
use Rattle.moos_text.specs.Refusals.{IsFirst}
use Rattle.moos_text.specs.Standing.{after_raw, after_text, at_end, Outside}
use Rattle.moos_text.proofs.Walks.{IsNext, one_read, one_refused, told_fault, told_value}
use Rattle.bhv_file.specs.declared.file.BhvFile.{BhvFile}
use Rattle.bhv_reader.specs.Behaviors.{behavior_form, behaviors_of, nothing_said}
use Rattle.bhv_reader.specs.Places.{standing_at}
use Rattle.bhv_file.specs.Validity.{IsValidFile}
use Rattle.bhv_reader.proofs.Following.{behaviors_read, behaviors_whole}
use Rattle.bhv_reader.proofs.Ranging.{next_sound, place_ranged}
use Rattle.bhv_reader.proofs.Valid.{behaviors_served, behaviors_valid, IsServed}
use Rattle.bhv_reader.proofs.Within.{said_within}
use Rattle.bhv_reader.proofs.read.read_behaviors.Goals as goal

pub after_line-requires-clause-text : goal.after_line-requires-clause-text
after_line-requires-clause-text c =
    let long = ap length c.in-Some.ensures.said in
    omega (arith, long, said_within c.loop-said.left.now, c.loop-said.invariant.read.within, c.requires)

pub after_line-requires-clause-ranged : goal.after_line-requires-clause-ranged
after_line-requires-clause-ranged c = place_ranged c.args.domain.now c.loop-said.file c.loop-said.place c.loop-said.invariant.sound

pub loop-said-preserved : goal.loop-said-preserved
loop-said-preserved c =
    let left = c.loop-said.left.now in
    let place = standing_at c.loop-said.file c.loop-said.place in
    let next : IsNext left (first_line left) c.in-Some.said.rest.now = record { lines = c.in-Some.ensures.lines; shorter = omega (arith, c.in-Some.ensures.shorter) } in
    record {
      read = one_read (after_raw (behavior_form c.args.domain.now)) (Outside nothing_said) c.args.bytes.now c.loop-said.lines place (standing_at c.after_line.new.file c.after_line.new.place) left (first_line left) c.in-Some.said.rest.now
          c.loop-said.invariant.read next (ap (after_text (behavior_form c.args.domain.now) (c.loop-said.lines + 1) place) (sym c.in-Some.ensures.said) ∙ c.in_ok-after_line.ensures.read);
      sound = next_sound c.args.domain.now (c.loop-said.lines + 1) place (standing_at c.after_line.new.file c.after_line.new.place) c.in-Some.said.text.now c.loop-said.invariant.sound c.in_ok-after_line.ensures.read;
      few = c.in_ok-after_line.ensures.few;
    }

pub returns-in_err-after_line-clause-refused : goal.returns-in_err-after_line-clause-refused
returns-in_err-after_line-clause-refused c =
    let left = c.loop-said.left.now in
    let place = standing_at c.loop-said.file c.loop-said.place in
    let next : IsNext left (first_line left) c.in-Some.said.rest.now = record { lines = c.in-Some.ensures.lines; shorter = omega (arith, c.in-Some.ensures.shorter) } in
    let said = ap (after_text (behavior_form c.args.domain.now) (c.loop-said.lines + 1) place) c.in-Some.ensures.said in
    let first = one_refused (after_raw (behavior_form c.args.domain.now)) (Outside nothing_said) (at_end (behavior_form c.args.domain.now) (last_line c.args.bytes.now)) (behaviors_of c.args.domain.now c.args.bytes.now) c.args.bytes.now c.loop-said.lines place left (first_line left)
    c.in-Some.said.rest.now c.in_err-after_line.field-0.0 (behaviors_read c.args.domain.now c.args.bytes.now) c.loop-said.invariant.read next (subst (IsFirst c.in_err-after_line.field-0.0) said c.in_err-after_line.ensures.refused) in
    let p = err_from_is_err_and c.from_residual.result c.from_residual.ensures.1 in
    rw (p.1, p.2) first

pub returns-clause-read : goal.returns-clause-read
returns-clause-read c =
    told_value (behaviors_of c.args.domain.now c.args.bytes.now) c.whole_file.result
    (behaviors_whole c.args.domain.now c.args.bytes.now c.loop-said.lines c.max.result (standing_at c.loop-said.file c.loop-said.place) c.loop-said.left.now c.loop-said.invariant.read c.in_default.ensures.none c.max.ensures ∙ sym c.whole_file.ensures)

pub returns-clause-refused : goal.returns-clause-refused
returns-clause-refused c =
    told_fault (behaviors_of c.args.domain.now c.args.bytes.now) c.whole_file.result
    (behaviors_whole c.args.domain.now c.args.bytes.now c.loop-said.lines c.max.result (standing_at c.loop-said.file c.loop-said.place) c.loop-said.left.now c.loop-said.invariant.read c.in_default.ensures.none c.max.ensures ∙ sym c.whole_file.ensures)

pub returns-clause-valid : goal.returns-clause-valid
returns-clause-valid c =
    subst (λ (answer : Result BhvFile ReadFault). IfOk answer IsValidFile)
    (behaviors_whole c.args.domain.now c.args.bytes.now c.loop-said.lines c.max.result (standing_at c.loop-said.file c.loop-said.place) c.loop-said.left.now c.loop-said.invariant.read c.in_default.ensures.none c.max.ensures ∙ sym c.whole_file.ensures)
    (behaviors_valid c.args.domain.now c.args.bytes.now)

pub returns-clause-served : goal.returns-clause-served
returns-clause-served c =
    subst (λ (answer : Result BhvFile ReadFault). IfOk answer (IsServed c.args.domain.now))
    (behaviors_whole c.args.domain.now c.args.bytes.now c.loop-said.lines c.max.result (standing_at c.loop-said.file c.loop-said.place) c.loop-said.left.now c.loop-said.invariant.read c.in_default.ensures.none c.max.ensures ∙ sym c.whole_file.ensures)
    (behaviors_served c.args.domain.now c.args.bytes.now)
