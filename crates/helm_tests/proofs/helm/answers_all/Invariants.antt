use Rattle.std.specs.Prelude.{◌≡◌}
use Rattle.helm_core.specs.Helms.{clock_of}
use Rattle.helm_tests.proofs.helm.answers_all.Given as goal

abbrev pub invariant-loop-asked : goal.invariant-loop-asked
invariant-loop-asked g l = clock_of l.helm ≡ l.clock
