use Rattle.std.proofs.Common.{◌≡◌, map, take}
use Rattle.helm_core.specs.Plans.{reg_wanted}
use Rattle.helm_core.proofs.wanted.Wanted.regs.Given as goal

abbrev pub invariant-loop-place : goal.invariant-loop-place
invariant-loop-place l = l.regs.items ≡ map reg_wanted (take l.place l.self)
