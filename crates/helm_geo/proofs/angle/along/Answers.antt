use Rattle.std.proofs.Common.{◌≡◌, ℤ, ◌+ℤ◌, ◌*ℤ◌, ap, ◌∙◌}
use Rattle.helm_geo.specs.Angles.{cos4, sin4}
use Rattle.helm_geo.proofs.Bearings.{part_within, parts_are, parts_fit}
use Rattle.helm_geo.proofs.angle.along.Goals as goal

pub overflow_add-result : goal.overflow_add-result
overflow_add-result c =
    let east = part_within c.part.result c.args.dx c.sin4.result c.requires.low_x c.requires.high_x c.sin4.ensures.low c.sin4.ensures.high c.part.ensures in
    let north = part_within c.part-2.result c.args.dy c.cos4.result c.requires.low_y c.requires.high_y c.cos4.ensures.low c.cos4.ensures.high c.part-2.ensures in
    parts_fit c.part.result c.part-2.result east.1 north.1

pub returns : goal.returns
returns c =
    let east = part_within c.part.result c.args.dx c.sin4.result c.requires.low_x c.requires.high_x c.sin4.ensures.low c.sin4.ensures.high c.part.ensures in
    let north = part_within c.part-2.result c.args.dy c.cos4.result c.requires.low_y c.requires.high_y c.cos4.ensures.low c.cos4.ensures.high c.part-2.ensures in
    let dx = c.args.dx in
    let dy = c.args.dy in
    let first : c.part.result ≡ dx *ℤ sin4 c.args.degree = east.0 ∙ ap (λ (sine : ℤ). dx *ℤ sine) c.sin4.ensures.value in
    let second : c.part-2.result ≡ dy *ℤ cos4 c.args.degree = north.0 ∙ ap (λ (sine : ℤ). dy *ℤ sine) c.cos4.ensures.value in
    parts_are c.part.result c.part-2.result east.1 north.1 ∙ ap (λ (x : ℤ). x +ℤ c.part-2.result) first ∙ ap (λ (y : ℤ). dx *ℤ sin4 c.args.degree +ℤ y) second
