use Rattle.helm_geo.specs.Polygons.{is_bent}
use Rattle.helm_geo.proofs.Rounds.{side_passes}
use Rattle.helm_geo.proofs.polygon.convex.Goals as goal

pub loop-place-preserved : goal.loop-place-preserved
loop-place-preserved c = side_passes is_bent c.args.poly.now c.loop-place.place c.loop-place.invariant (cc)
