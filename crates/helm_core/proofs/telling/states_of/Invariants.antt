use Rattle.std.proofs.Common.{◌≡◌, take}
use Rattle.helm_core.specs.Iterations.{all_states}
use Rattle.helm_core.proofs.telling.states_of.Given as goal

abbrev pub invariant-loop-showing : goal.invariant-loop-showing
invariant-loop-showing l = l.states ≡ all_states (take l.showing-index l.showings)
