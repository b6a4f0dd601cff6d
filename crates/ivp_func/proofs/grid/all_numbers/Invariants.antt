use Rattle.std.proofs.Common.{◌≡◌}
use Rattle.ivp_domain.specs.Boxes.{numbers_from}
use Rattle.ivp_func.proofs.grid.all_numbers.Given as goal

abbrev pub invariant-loop-number : goal.invariant-loop-number
invariant-loop-number l = l.numbers.items ≡ numbers_from 0 l.number
