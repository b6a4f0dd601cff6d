use Rattle.std.proofs.Common.{sym, subst, arith, ◌∙◌}
use Rattle.std.specs.Prelude.{Result}
use Rattle.moos_text.specs.declared.cause.Cause.{Cause}
use Rattle.moos_text.specs.Refusals.{IsLineFault}
use Rattle.moos_text.specs.Standing.{Standing}
use Rattle.moos_text.proofs.Walks.{line_refused}
use Rattle.mission_reader.specs.declared.settings.Settings.{Settings}
use Rattle.mission_reader.specs.Missions.{AppBlock, mission_form}
use Rattle.mission_reader.specs.Places.{standing}
use Rattle.mission_reader.proofs.Lines.{any_line}
use Rattle.mission_reader.proofs.reading.MissionReading.read_line.Goals as goal

pub returns-in-Err-clause-refused : goal.returns-in-Err-clause-refused
returns-in-Err-clause-refused c =
    let self = c.args.self.now in
    let text = c.args.text.now in
    rw c.at.ensures (line_refused mission_form c.args.line (standing self.settings self.place) text c.in-Err.fault (omega (arith, c.if-text-eq0.false)) (sym c.requires ∙ c.if-unclosed.false)
    (subst (λ (r : Result (Standing Settings AppBlock) Cause). IsLineFault c.in-Err.fault r) (any_line self.settings self.place text 0 c.args.line) c.in-Err.ensures.refused))
