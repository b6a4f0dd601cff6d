use Rattle.std.specs.Prelude.{length}
use Rattle.std.proofs.Common.{ℕ, List, Option, Some, None}
use Rattle.std.specs.Borrow.{Bor}
use Rattle.bhv_file.proofs.Listed.{IsListed}
use Rattle.bhv_file.proofs.places.read_between.Given as goal

abbrev pub invariant-loop-left : goal.invariant-loop-left
invariant-loop-left l = IsListed l.text l.spots.items l.left

abbrev left_len : Option (Bor (List ℕ)) → ℕ
left_len None = 0
left_len (Some left) = Rattle.std.proofs.Common.suc (length left.now)

abbrev pub decreases-loop-left : goal.decreases-loop-left
decreases-loop-left l = left_len l.left
