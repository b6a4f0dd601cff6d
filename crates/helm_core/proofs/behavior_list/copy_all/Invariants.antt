use Rattle.std.proofs.Common.{◌≡◌, take}
use Rattle.helm_core.proofs.behavior_list.copy_all.Given as goal

abbrev pub invariant-loop-one : goal.invariant-loop-one
invariant-loop-one l = l.copies.items ≡ take l.one-index l.kept
