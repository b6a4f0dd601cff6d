use Rattle.std.proofs.Common.{ℤ, ◌-◌, ◌*◌, ◌/◌, ◌-ℤ◌, ◌<ℤ◌, ap, subst, sym, ◌∙◌, arith}
use Rattle.std.specs.Prelude.{nat_lt}
use Rattle.ivp_build.specs.Places.{IsNumber}
use Rattle.ivp_build.proofs.GoodAxes.{above_from, each_below, good_parts, none_below, number_kept}
use Rattle.ivp_build.proofs.places.count_below.Goals as goal

pub returns-then-number-axis-clause-each : goal.returns-then-number-axis-clause-each
returns-then-number-axis-clause-each c place inside =
    let good = good_parts c.args.axis.now c.requires.good in
    none_below c.args.axis.now.low c.args.number place _ good.low c.requires.number c.if-number-axis.true

pub above_low-requires-clause-number : goal.above_low-requires-clause-number
above_low-requires-clause-number c = subst IsNumber (sym (number_kept c.args.number c.requires.number)) c.requires.number

pub above_low-requires-clause-above : goal.above_low-requires-clause-above
above_low-requires-clause-above c =
    let low = c.args.axis.now.low in
    let good = good_parts c.args.axis.now c.requires.good in
    subst (λ (number : ℤ). low <ℤ number) (sym (number_kept c.args.number c.requires.number)) (above_from low c.args.number good.low c.requires.number c.if-number-axis.false)

pub places_below-below-requires-clause-last : goal.places_below-below-requires-clause-last
places_below-below-requires-clause-last c = (omega arith, omega arith)

pub overflow_cast-result : goal.overflow_cast-result
overflow_cast-result c = omega arith

pub returns-clause-each : goal.returns-clause-each
returns-clause-each c place inside =
    let low = c.args.axis.now.low in
    let last = c.args.axis.now.points - 1 in
    let part = c.above_low.result in
    let same = c.places_below-below.ensures place ∙ ap (λ span. nat_lt (place * span / last) part) c.span_of-span.ensures.span in
    let gap = c.above_low.ensures.part ∙ ap (λ (number : ℤ). number -ℤ low) (number_kept c.args.number c.requires.number) in
    ap (nat_lt place) c.min.ensures ∙ each_below low c.args.number place c.args.axis.now.points c.places_below-below.result part _ inside same gap

pub returns-clause-within : goal.returns-clause-within
returns-clause-within c = omega arith
