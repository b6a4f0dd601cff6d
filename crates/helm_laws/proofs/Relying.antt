-- All laws of the plan of valid files.
use Rattle.helm_core.specs.Plans.{plan_made}
use Rattle.helm_core.specs.Worths.{ValidFilesDecideByWorth}
use Rattle.helm_laws.specs.Files.{OfValidFiles}
use Rattle.helm_laws.specs.Reliance.{IsReliable}
use Rattle.helm_laws.proofs.Bargaining.{bargain}
use Rattle.helm_laws.proofs.Bounding.{bounds}
use Rattle.helm_laws.proofs.Depths.{depths}
use Rattle.helm_laws.proofs.Desiring.{in_domain}
use Rattle.helm_laws.proofs.Faulting.{fault_stops}
use Rattle.helm_laws.proofs.Influencing.{without}
use Rattle.helm_laws.proofs.Mosts.{bounded}
use Rattle.helm_laws.proofs.Overriding.{holds, nothing_parked, unheard}
use Rattle.helm_laws.proofs.Resting.{silent}
use Rattle.helm_laws.proofs.SameInputs.{NoneLater, input}
use Rattle.helm_laws.proofs.Stopping.{at_once, drives, nothing, stays, told}

pub reliable : ValidFilesDecideByWorth → NoneLater → OfValidFiles IsReliable
reliable worth later mission file valid read served =
    let plan = plan_made mission file in
    record {
      stops = at_once plan;
      stays = stays plan;
      drives = drives plan;
      told = told plan;
      stopped = nothing plan;
      domain = in_domain plan;
      influence = without plan;
      faults = fault_stops plan;
      bounds = bounds worth mission file valid read served;
      worth = bounded mission file valid read served;
      depths = depths worth mission file valid read served;
      bargains = bargain worth mission file valid read served;
      before = unheard plan;
      override = holds plan;
      parked = nothing_parked plan;
      silent = silent plan;
      input = input later plan;
    }
