use Rattle.std.proofs.Common.{◌≡◌, take}
use Rattle.helm_core.specs.Iterations.{all_faults}
use Rattle.helm_core.proofs.telling.faults_of.Given as goal

abbrev pub invariant-loop-showing : goal.invariant-loop-showing
invariant-loop-showing l = l.faults ≡ all_faults (take l.showing-index l.showings)
