use Rattle.std.proofs.Common.{◌≡◌}
use Rattle.std.specs.List.{list_any}
use Rattle.moos_text.specs.Pairs.{sides_of}
use Rattle.bhv_file.specs.Updates.{is_of_places, update_parts}
use Rattle.bhv_file.proofs.Pairwise.{bytes_left, pairs_left}
use Rattle.bhv_file.proofs.updating.names_places.Given as goal

abbrev pub invariant-loop-left : goal.invariant-loop-left
invariant-loop-left l = list_any (λ part. is_of_places (sides_of part)) (update_parts l.text) ≡ list_any (λ part. is_of_places (sides_of part)) (pairs_left l.left)

abbrev pub decreases-loop-left : goal.decreases-loop-left
decreases-loop-left l = bytes_left l.left
