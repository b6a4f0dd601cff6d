use Rattle.std.proofs.Common.{◌≡◌, drop}
use Rattle.ivp_cert.specs.Decisions.{are_on}
use Rattle.ivp_cert.proofs.claim.are_on.Given as goal

abbrev pub invariant-loop-k : goal.invariant-loop-k
invariant-loop-k l = are_on l.axes l.places ≡ are_on (drop l.k l.axes) (drop l.k l.places)
