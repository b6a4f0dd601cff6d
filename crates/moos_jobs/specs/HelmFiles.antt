-- How a helm of a mission and a behaviour file is run beside a script's clients, and what a report tells of these files.
use Rattle.std.specs.Prelude.{◌+◌, ◌/◌, nat_le, if◌then◌else◌, Option, Some, None, Result, Ok, Err}
use Rattle.helm_core.specs.Plans.{plan_made}
use Rattle.helm_core.specs.Posts.{are_declared_modes}
use Rattle.moos_jobs.specs.declared.helm_files.HelmFiles.{HelmFiles}
use Rattle.mission_reader.specs.declared.mission.Mission.{Mission}
use Rattle.moos_play.specs.Lawful.{HelmSetup, helm_number}
use Rattle.moos_report.specs.declared.setup.Setup.{Setup}
use Rattle.moos_report.specs.Setups.{setup_without_helm}
use Rattle.moos_text.specs.declared.cause.Cause.TheVariants.{M8}
use Rattle.moos_text.specs.declared.cause.ReadFault.{ReadFault}
use Rattle.moos_text.specs.declared.cause.ReadFault.TheVariants.{At}
use Rattle.script_reader.specs.declared.script.Script.{Script}

-- the helm would tick at most 20,000 times while the script is played, or else its mission is refused at its last line
abbrev pub with_few_ticks : Script → Mission → Result Mission ReadFault
with_few_ticks script mission = if nat_le (script.stop / mission.period + 1) 20000 then Ok mission else Err (At mission.lines M8)

-- how the helm of these files is run beside a script's clients
abbrev pub helm_setup_by : Script → HelmFiles → HelmSetup
helm_setup_by script files = record { client = helm_number script; plan = plan_made files.mission files.file; period = files.mission.period }

-- what a report tells of the behaviour file: its unused parameters, and that its modes are told if it declares any
abbrev pub setup_of : Option HelmFiles → Setup
setup_of None = setup_without_helm
setup_of (Some files) = record { unused = files.file.unused; modes = are_declared_modes files.file.decls }
