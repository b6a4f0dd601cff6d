use Rattle.ivp_build.proofs.Casts.{slope_is, value_cast}
use Rattle.ivp_build.proofs.Sampling.{end_inside}
use Rattle.ivp_build.proofs.sampled.slope.Goals as goal

pub by_place-requires-clause-high : goal.by_place-requires-clause-high
by_place-requires-clause-high g c =
    let inside = end_inside c.args.area.now c.args.axis c.requires.axis c.requires.proper in
    value_cast c.utility-high.result (c.requires.utility.values _ c.utility-high.result inside c.utility-high.ensures)

pub returns-clause-slope : goal.returns-clause-slope
returns-clause-slope g c = λ gives computes same.
    let inside = end_inside c.args.area.now c.args.axis c.requires.axis c.requires.proper in
    slope_is gives c.args.area.now c.args.axis c.utility-high.result c.args.low c.by_place.result (c.requires.utility.values _ c.utility-high.result inside c.utility-high.ensures) c.requires.low c.if-places-eq0.false
    c.by_place.ensures.change (computes _ c.utility-high.result inside c.utility-high.ensures) same
