use Rattle.std.proofs.Common.{◌≡◌, take, true}
use Rattle.std.specs.List.{list_all}
use Rattle.helm_geo.specs.Plane.{is_left_of}
use Rattle.helm_geo.proofs.polygon.are_left_of.Given as goal

abbrev pub invariant-loop-p : goal.invariant-loop-p
invariant-loop-p l = list_all (is_left_of l.a l.b) (take l.p-index l.spots) ≡ true
