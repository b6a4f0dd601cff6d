use Rattle.std.proofs.Common.{◌≡◌, ◌++◌, map, take}
use Rattle.helm_core.specs.Iterations.{update_of}
use Rattle.helm_core.proofs.telling.add_updates.Given as goal

abbrev pub invariant-loop-answer : goal.invariant-loop-answer
invariant-loop-answer l = l.updates ≡ l.fn.updates ++ map (update_of l.name) (take l.answer-index l.taken)
