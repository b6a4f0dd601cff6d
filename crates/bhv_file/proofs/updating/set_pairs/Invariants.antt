use Rattle.std.proofs.Common.{◌≡◌, Some}
use Rattle.std.specs.Prelude.{fold}
use Rattle.bhv_file.specs.Ranges.{KeepsRanges}
use Rattle.bhv_file.specs.Updates.{update_parts, with_update_part}
use Rattle.bhv_file.proofs.Pairwise.{bytes_left, pairs_left}
use Rattle.bhv_file.proofs.updating.set_pairs.Given as goal

abbrev pub invariant-loop-left : goal.invariant-loop-left
invariant-loop-left l = (fold with_update_part (Some l.fn.spec) (update_parts l.text) ≡ fold with_update_part (Some l.spec) (pairs_left l.left)) × (KeepsRanges l.fn.spec → KeepsRanges l.spec)

abbrev pub decreases-loop-left : goal.decreases-loop-left
decreases-loop-left l = bytes_left l.left
