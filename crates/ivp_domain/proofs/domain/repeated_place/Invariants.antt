use Rattle.std.proofs.Common.{◌≡◌, take, drop}
use Rattle.ivp_domain.specs.Domains.{repeated_after, repeated_place}
use Rattle.ivp_domain.proofs.domain.repeated_place.Given as goal

abbrev pub invariant-loop-place : goal.invariant-loop-place
invariant-loop-place l = repeated_after (take l.place l.axes) (drop l.place l.axes) ≡ repeated_place l.axes
