use Rattle.helm_laws.proofs.Faulting.{fault_stops, lateness, leaving, losing, sinking}
use Rattle.helm_laws.proofs.law.region_law.Goals as goal

pub returns : goal.returns
returns c = record { stops = fault_stops; losing = losing; leaving = leaving; sinking = sinking; lateness = lateness }
