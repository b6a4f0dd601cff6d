use Rattle.std.proofs.Common.{not, sym, ap, ◌∙◌}
use Rattle.helm_geo.specs.Polygons.{has_on_right}
use Rattle.helm_geo.proofs.Rounds.{right_by_ends, side_passes}
use Rattle.helm_geo.proofs.polygon.is_right_of_none.Goals as goal

pub loop-place-preserved : goal.loop-place-preserved
loop-place-preserved c =
    side_passes (λ side. not (has_on_right c.args.p.now side)) c.args.vertices.now c.loop-place.place c.loop-place.invariant
    (ap not (right_by_ends _ _ _ _ c.side.ensures.ends ∙ sym c.is_left_of.ensures ∙ c.if-is_left_of.false))
