use Rattle.std.proofs.Common.{nat_abs, ap}
use Rattle.ivp_build.proofs.GoodAxes.{gap_cast, gap_fits, gap_kept, gap_some, good_parts}
use Rattle.ivp_build.proofs.places.span_of.Goals as goal

pub overflow_sub-result : goal.overflow_sub-result
overflow_sub-result c =
    let axis = c.args.axis.now in
    let good = good_parts axis c.requires.good in
    gap_fits axis.low axis.high good.low good.high

pub overflow_cast-result : goal.overflow_cast-result
overflow_cast-result c =
    let axis = c.args.axis.now in
    let good = good_parts axis c.requires.good in
    gap_cast axis.low axis.high good.low good.high good.order

pub returns-clause-span : goal.returns-clause-span
returns-clause-span c =
    let axis = c.args.axis.now in
    let good = good_parts axis c.requires.good in
    ap nat_abs (gap_kept axis.low axis.high good.low good.high)

pub returns-clause-some : goal.returns-clause-some
returns-clause-some c =
    let axis = c.args.axis.now in
    let good = good_parts axis c.requires.good in
    gap_some axis.low axis.high good.low good.high good.order

pub returns-clause-points : goal.returns-clause-points
returns-clause-points c = (good_parts c.args.axis.now c.requires.good).points
