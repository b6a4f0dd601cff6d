use Rattle.std.proofs.Common.{sym, arith, ◌∙◌}
use Rattle.moos_text.proofs.Walks.{line_refused}
use Rattle.bhv_reader.specs.Behaviors.{behavior_form}
use Rattle.bhv_reader.specs.Places.{standing_at}
use Rattle.bhv_reader.proofs.Faults.{line_read}
use Rattle.bhv_reader.proofs.reading.after_line.Goals as goal

pub returns-in-Ok-clause-read : goal.returns-in-Ok-clause-read
returns-in-Ok-clause-read c =
    line_read c.args.domain.now c.args.line (standing_at c.args.file.now c.args.place.now) (standing_at c.after_statement.new.file c.after_statement.new.place) c.args.text.now (omega (arith, c.if-text-eq0.false)) (sym c.requires.quotes ∙ c.if-unclosed.false)
    c.in-Ok.ensures.read

pub returns-in-Err-clause-refused : goal.returns-in-Err-clause-refused
returns-in-Err-clause-refused c =
    rw c.at.ensures (line_refused (behavior_form c.args.domain.now) c.args.line (standing_at c.args.file.now c.args.place.now) c.args.text.now c.in-Err.fault (omega (arith, c.if-text-eq0.false)) (sym c.requires.quotes ∙ c.if-unclosed.false)
    c.in-Err.ensures.refused)
