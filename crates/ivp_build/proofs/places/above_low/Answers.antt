use Rattle.std.proofs.Common.{pos, nat_abs, ap, ◌∙◌}
use Rattle.ivp_build.proofs.GoodAxes.{gap_cast, gap_fits, gap_is, gap_kept, gap_most, gap_some, good_parts}
use Rattle.ivp_build.proofs.places.above_low.Goals as goal

pub overflow_sub-result : goal.overflow_sub-result
overflow_sub-result c =
    let low = c.args.axis.now.low in
    let good = good_parts c.args.axis.now c.requires.good in
    gap_fits low c.args.number good.low c.requires.number

pub overflow_cast-result : goal.overflow_cast-result
overflow_cast-result c =
    let low = c.args.axis.now.low in
    let good = good_parts c.args.axis.now c.requires.good in
    gap_cast low c.args.number good.low c.requires.number c.requires.above

pub returns-clause-part : goal.returns-clause-part
returns-clause-part c =
    let low = c.args.axis.now.low in
    let good = good_parts c.args.axis.now c.requires.good in
    ap (λ gap. pos (nat_abs gap)) (gap_kept low c.args.number good.low c.requires.number) ∙ gap_is low c.args.number c.requires.above

pub returns-clause-some : goal.returns-clause-some
returns-clause-some c =
    let low = c.args.axis.now.low in
    let good = good_parts c.args.axis.now c.requires.good in
    gap_some low c.args.number good.low c.requires.number c.requires.above

pub returns-clause-most : goal.returns-clause-most
returns-clause-most c =
    let low = c.args.axis.now.low in
    let good = good_parts c.args.axis.now c.requires.good in
    gap_most low c.args.number good.low c.requires.number
