use Rattle.std.proofs.Common.{◌≡◌, ◌++◌, flat_map, take}
use Rattle.helm_core.specs.Iterations.{updates_of}
use Rattle.helm_core.proofs.telling.heard_by_all.Given as goal

abbrev pub invariant-loop-showing : goal.invariant-loop-showing
invariant-loop-showing l = l.heard ≡ l.fn.answers ++ flat_map updates_of (take l.showing-index l.showings)
