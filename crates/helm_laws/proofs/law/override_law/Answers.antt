use Rattle.helm_laws.proofs.Overriding.{holds, nothing_parked, unheard}
use Rattle.helm_laws.proofs.Resting.{silent}
use Rattle.helm_laws.proofs.law.override_law.Goals as goal

pub returns : goal.returns
returns c = record { before = unheard; holds = holds; nothing = nothing_parked; silent = silent }
