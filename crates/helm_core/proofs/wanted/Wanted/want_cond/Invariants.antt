use Rattle.std.proofs.Common.{◌≡◌, drop, fold}
use Rattle.helm_cond.specs.Conditions.{names_in}
use Rattle.helm_core.specs.Plans.{with_wanted}
use Rattle.helm_core.proofs.wanted.Wanted.want_cond.Given as goal

abbrev pub invariant-loop-place : goal.invariant-loop-place
invariant-loop-place l = fold with_wanted l.self (drop l.place (names_in l.cond)) ≡ fold with_wanted l.fn.self (names_in l.cond)
