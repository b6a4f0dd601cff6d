use Rattle.std.proofs.Common.{◌≡◌, pos, neg_ℤ, ◌-ℤ◌, to_z, of_z, w64, ◌∙◌, arith}
use Rattle.std.proofs.lemmas.Int.{ints}
use Rattle.helm_geo.proofs.Quarters.{quarter_on, same_parts, twice_on, thrice_on}
use Rattle.helm_geo.proofs.angle.quarter_of.Goals as goal

pub returns-then-dx-gt0-clause-turned : goal.returns-then-dx-gt0-clause-turned
returns-then-dx-gt0-clause-turned c = λ degree within.
    let one : to_z w64 (of_z w64 (pos 0 -ℤ to_z w64 (of_z w64 c.args.dy))) ≡ neg_ℤ c.args.dy = omega (arith, ints) in
    let two : to_z w64 (of_z w64 c.args.dx) ≡ c.args.dx = omega (arith, ints) in
    quarter_on c.args.dx c.args.dy degree within ∙ same_parts (neg_ℤ c.args.dy) c.args.dx _ _ degree one two

pub returns-then-dy-lt0-clause-turned : goal.returns-then-dy-lt0-clause-turned
returns-then-dy-lt0-clause-turned c = λ degree within.
    let one : to_z w64 (of_z w64 (pos 0 -ℤ to_z w64 (of_z w64 c.args.dx))) ≡ neg_ℤ c.args.dx = omega (arith, ints) in
    let two : to_z w64 (of_z w64 (pos 0 -ℤ to_z w64 (of_z w64 c.args.dy))) ≡ neg_ℤ c.args.dy = omega (arith, ints) in
    twice_on c.args.dx c.args.dy degree within ∙ same_parts (neg_ℤ c.args.dx) (neg_ℤ c.args.dy) _ _ degree one two

pub returns-else-dy-lt0-clause-turned : goal.returns-else-dy-lt0-clause-turned
returns-else-dy-lt0-clause-turned c = λ degree within.
    let one : to_z w64 (of_z w64 c.args.dy) ≡ c.args.dy = omega (arith, ints) in
    let two : to_z w64 (of_z w64 (pos 0 -ℤ to_z w64 (of_z w64 c.args.dx))) ≡ neg_ℤ c.args.dx = omega (arith, ints) in
    thrice_on c.args.dx c.args.dy degree within ∙ same_parts c.args.dy (neg_ℤ c.args.dx) _ _ degree one two
