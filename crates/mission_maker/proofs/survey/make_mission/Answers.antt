use Rattle.std.proofs.Common.{◌∙◌, ap, sym}
use Rattle.mission_reader.specs.Missions.{mission_of}
use Rattle.moos_text.specs.Refusals.{and_then}
use Rattle.mission_maker.specs.Survey.{generated_mission, with_two_ticks}
use Rattle.mission_maker.proofs.survey.make_mission.Goals as goal

pub returns-in-Ok-clause-mission : goal.returns-in-Ok-clause-mission
unfolding generated_mission
returns-in-Ok-clause-mission c = ap (and_then with_two_ticks) (ap mission_of (sym c.as_bytes.ensures.value) ∙ c.in-Ok.ensures.read)
