use Rattle.std.proofs.Common.{w64, ap, ◌∙◌}
use Rattle.std.proofs.lemmas.Int.{to_z-of_z}
use Rattle.ivp_build.specs.Places.{axis_on, miss}
use Rattle.ivp_build.proofs.Nearest.{first_nearer, second_nearer}
use Rattle.ivp_build.proofs.near.nearer.Goals as goal

pub returns-then-miss-clause-place : goal.returns-then-miss-clause-place
returns-then-miss-clause-place c =
    let axis = axis_on c.args.domain.now c.args.axis in
    let number = to_z-of_z w64 c.args.number c.ranges.number in
    let second = c.miss.ensures ∙ ap (λ n. miss axis n c.args.second) number in
    let first = c.miss-2.ensures ∙ ap (λ n. miss axis n c.args.first) number in
    second_nearer (miss axis c.args.number) c.miss.result c.miss-2.result c.args.first c.args.second second first c.if-miss.true

pub returns-else-miss-clause-place : goal.returns-else-miss-clause-place
returns-else-miss-clause-place c =
    let axis = axis_on c.args.domain.now c.args.axis in
    let number = to_z-of_z w64 c.args.number c.ranges.number in
    let second = c.miss.ensures ∙ ap (λ n. miss axis n c.args.second) number in
    let first = c.miss-2.ensures ∙ ap (λ n. miss axis n c.args.first) number in
    first_nearer (miss axis c.args.number) c.miss.result c.miss-2.result c.args.first c.args.second second first c.if-miss.false
