-- The helm is that of the survey's mission and behaviours.
use Rattle.std.proofs.Common.{refl}
use Rattle.moos_jobs.proofs.generate_job.survey_run.Goals as goal

pub returns : goal.returns
returns c = record {
  files = record { mission = c.in_ok-mission.mission; file = c.in_ok-file.file };
  mission = c.in_ok-mission.ensures.mission;
  behaviors = c.in_ok-file.ensures.file;
  plan = c.in_ok-helm.ensures.plan;
  period = refl;
  valid = record { mission = c.in_ok-mission.ensures.valid; file = c.in_ok-file.ensures.valid; served = c.in_ok-file.ensures.served };
  start = record { stands = c.in_ok-helm.ensures.stands; period = c.in_ok-mission.ensures.valid.ticks };
}
