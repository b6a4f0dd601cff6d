use Rattle.std.proofs.Common.{◌≡◌, true, ◌<◌, ◌-◌, ℤ, ◌<ℤ◌, ◌≤ℤ◌, sym, ◌∙◌, ap, subst, arith}
use Rattle.ivp_domain.specs.declared.axis.Axis.{Axis}
use Rattle.ivp_domain.specs.Axes.{is_end, value_on}
use Rattle.ivp_build.specs.Places.{axis_on}
use Rattle.ivp_build.proofs.Nearest.{end_cast, value_within}
use Rattle.ivp_build.proofs.near.first_before.Goals as goal

pub first_from-requires-clause-limit : goal.first_from-requires-clause-limit
first_from-requires-clause-limit c =
    let along = c.axis_on-along.ensures.axis in
    let inside : c.args.place - 1 < c.axis_on-along.result.points = omega (arith, c.axis_on-along.ensures.count, c.requires.place) in
    let number = value_within c.axis_on-along.result (c.args.place - 1) c.axis_on-along.ensures.good inside in
    let same = c.value_at_place.ensures ∙ ap (λ (axis : Axis). value_on axis (c.args.place - 1)) (sym along) in
    let here : is_end c.value_at_place.result ≡ true = ap is_end same ∙ number in
    ap is_end (end_cast c.value_at_place.result here) ∙ here

pub returns-clause-before : goal.returns-clause-before
returns-clause-before c other h =
    let along = c.axis_on-along.ensures.axis in
    let inside : c.args.place - 1 < c.axis_on-along.result.points = omega (arith, c.axis_on-along.ensures.count, c.requires.place) in
    let number = value_within c.axis_on-along.result (c.args.place - 1) c.axis_on-along.ensures.good inside in
    let same = c.value_at_place.ensures ∙ ap (λ (axis : Axis). value_on axis (c.args.place - 1)) (sym along) in
    let here : is_end c.value_at_place.result ≡ true = ap is_end same ∙ number in
    let before = subst (λ (limit : ℤ). value_on c.axis_on-along.result other <ℤ limit) (end_cast c.value_at_place.result here ∙ c.value_at_place.ensures) (c.first_from.ensures.before other h) in
    subst (λ (axis : Axis). value_on axis other <ℤ value_on (axis_on c.args.domain.now c.args.axis) (c.args.place - 1)) along before

pub returns-clause-reached : goal.returns-clause-reached
returns-clause-reached c some short =
    let along = c.axis_on-along.ensures.axis in
    let inside : c.args.place - 1 < c.axis_on-along.result.points = omega (arith, c.axis_on-along.ensures.count, c.requires.place) in
    let number = value_within c.axis_on-along.result (c.args.place - 1) c.axis_on-along.ensures.good inside in
    let same = c.value_at_place.ensures ∙ ap (λ (axis : Axis). value_on axis (c.args.place - 1)) (sym along) in
    let here : is_end c.value_at_place.result ≡ true = ap is_end same ∙ number in
    let last : c.first_from.result < c.axis_on-along.result.points - 1 = omega (arith, c.axis_on-along.ensures.count, short) in
    let reached = subst (λ (limit : ℤ). limit ≤ℤ value_on c.axis_on-along.result c.first_from.result) (end_cast c.value_at_place.result here ∙ c.value_at_place.ensures) (c.first_from.ensures.reached last) in
    subst (λ (axis : Axis). value_on (axis_on c.args.domain.now c.args.axis) (c.args.place - 1) ≤ℤ value_on axis c.first_from.result) along reached

pub returns-clause-within : goal.returns-clause-within
returns-clause-within c = omega (arith, c.axis_on-along.ensures.count, c.first_from.ensures.within)
