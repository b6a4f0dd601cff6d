-- What was played out is the script that was made, with the survey's helm.
use Rattle.std.proofs.Common.{◌∙◌, sym}
use Rattle.moos_play.specs.Lawful.{names_with}
use Rattle.moos_play.specs.Plays.{clients_in}
use Rattle.moos_jobs.specs.Generating.{IsSurvey}
use Rattle.moos_jobs.proofs.Summing.{names_alone, was_played_out}
use Rattle.moos_jobs.proofs.generate_job.play_survey.Goals as goal

pub count_rounds-requires-clause-named : goal.count_rounds-requires-clause-named
count_rounds-requires-clause-named g c κs lives =
    let made = c.in_ok-play.ensures in
    names_alone c.args.script.now c.in_ok-survey.survey c.new-further.result (clients_in c.in_ok-play.play) c.new-further.ensures made.names ∙ (λ i. names_with (sym made.script i) (sym made.helm i))

pub returns : goal.returns
returns g c = λ number is rises.
    let survey : IsSurvey c.in_ok-survey.survey = c.in_ok-survey.ensures in
    let made = c.in_ok-play.ensures in
    let out = c.in_ok-iterations.ensures in
    was_played_out number c.args.script.now survey.files c.in_ok-survey.survey c.count_rounds.new.play c.end-db.result.db.names c.end-db.result.db.history c.in_ok-iterations.iterations
    is rises survey.mission survey.behaviors survey.valid survey.plan survey.period (out.same.order ∙ made.order) (out.same.script ∙ made.script) (out.same.helm ∙ made.helm)
    (out.same.names ∙ names_alone c.args.script.now c.in_ok-survey.survey c.new-further.result (clients_in c.in_ok-play.play) c.new-further.ensures made.names)
    out.over c.end-db.ensures.names c.end-db.ensures.history out.counted
