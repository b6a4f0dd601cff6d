use Rattle.helm_laws.proofs.Stopping.{at_once, drives, nothing, stays, told}
use Rattle.helm_laws.proofs.law.stop_law.Goals as goal

pub returns : goal.returns
returns c = record { at_once = at_once; stays = stays; drives = drives; told = told; nothing = nothing }
