-- What every mission keeps that was read.
use Rattle.std.specs.Prelude.{◌≤◌, ◌<◌, List, length, IsTrue}
use Rattle.std.specs.List.{All}
use Rattle.moos_post.specs.Words.{is_text}
use Rattle.ivp_domain.specs.declared.axis.Axis.{Axis}
use Rattle.ivp_domain.specs.AxisNames.{is_axis_name}
use Rattle.ivp_domain.specs.Domains.{is_domain}
use Rattle.mission_reader.specs.declared.mission.Mission.{Mission}

-- each of the axes has a name
abbrev pub HaveAxisNames : List Axis → Type 0
HaveAxisNames axes = All (λ (axis : Axis). IsTrue (is_axis_name axis.name)) axes

-- A mission's period is 1 to 1,000,000 milliseconds, its behaviour file has a name that isn't empty, its axes have names and make
-- a domain, and it has a last line.
pub record IsValidMission (mission : Mission) : Type 0 where
  pub ticks : 1 ≤ mission.period
  pub slowest : mission.period ≤ 1000000
  pub named : 0 < length mission.behaviors
  pub text : IsTrue (is_text mission.behaviors)
  pub domain : IsTrue (is_domain mission.domain)
  pub axes : HaveAxisNames mission.domain
  pub lines : 1 ≤ mission.lines
