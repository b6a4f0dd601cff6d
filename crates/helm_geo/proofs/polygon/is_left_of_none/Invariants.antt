use Rattle.std.proofs.Common.{◌≡◌, true, not}
use Rattle.std.specs.List.{list_all, range_with_len}
use Rattle.helm_geo.specs.Polygons.{has_on_left, round_from}
use Rattle.helm_geo.proofs.polygon.is_left_of_none.Given as goal

abbrev pub invariant-loop-place : goal.invariant-loop-place
invariant-loop-place l = list_all (λ place. not (has_on_left l.p (round_from place l.vertices))) (range_with_len 0 l.place) ≡ true
