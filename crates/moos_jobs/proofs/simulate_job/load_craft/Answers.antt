-- A vehicle file that couldn't be loaded, or is refused, or was read.
use Rattle.std.proofs.Common.{◌≡◌, ◌∙◌, ap, sym}
use Rattle.std.specs.Prelude.{Err}
use Rattle.command_line.specs.declared.status.FileKind.TheVariants.{Vehicle as VehicleFile}
use Rattle.moos_jobs.proofs.OneFile.{not_good, not_there, was_read}
use Rattle.moos_jobs.proofs.SimulatedReports.{the_first}
use Rattle.sim_vehicle.specs.Vehicles.{vehicle_of}
use Rattle.moos_jobs.proofs.simulate_job.load_craft.Goals as goal

pub returns-in-Err-clause-ends : goal.returns-in-Err-clause-ends
returns-in-Err-clause-ends g c =
    not_there _ _ _ VehicleFile c.args.name.now _ vehicle_of c.bytes.ensures.value _ c.in-Err.fault c.unloaded.result
    c.in-Err.ensures.failed c.in-Err.ensures.rose c.in-Err.ensures.unsure c.unloaded.ensures.failed c.unloaded.ensures.memory

pub returns-in-Ok-read-clause-read : goal.returns-in-Ok-read-clause-read
returns-in-Ok-read-clause-read g c =
    was_read _ _ _ VehicleFile c.args.name.now _ vehicle_of c.bytes.ensures.value c.in-Ok.bytes.items c.in-Ok.ensures.content c.in-Ok.ensures.heard c.in-Ok-read.craft
    (ap vehicle_of (sym c.deref.ensures.value) ∙ c.in-Ok-read.ensures.read)

pub returns-clause-ends : goal.returns-clause-ends
returns-clause-ends g c =
    let fault = c.in-Err-read.fault in
    let bad : vehicle_of c.in-Ok.bytes.items ≡ Err fault = ap vehicle_of (sym c.deref.ensures.value) ∙ c.in-Err-read.ensures.refused in
    not_good _ _ _ VehicleFile c.args.name.now _ vehicle_of c.bytes.ensures.value c.in-Ok.bytes.items c.in-Ok.ensures.content c.in-Ok.ensures.heard _ fault c.refused.result (the_first fault (vehicle_of c.in-Ok.bytes.items) bad) c.refused.ensures
