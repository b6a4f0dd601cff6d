use Rattle.std.proofs.Common.{◌≡◌, true}
use Rattle.std.specs.List.{list_all, range_with_len}
use Rattle.helm_geo.specs.Polygons.{is_bent, round_from}
use Rattle.helm_geo.proofs.polygon.convex.Given as goal

abbrev pub invariant-loop-place : goal.invariant-loop-place
invariant-loop-place l = list_all (λ place. is_bent (round_from place l.poly)) (range_with_len 0 l.place) ≡ true
