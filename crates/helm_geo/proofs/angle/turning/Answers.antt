use Rattle.std.proofs.Common.{◌≡◌, ◌∙◌, to_z, of_z, w64, arith}
use Rattle.std.proofs.lemmas.Int.{ints, to_z-of_z}
use Rattle.helm_geo.proofs.Quarters.{sought_up, sought_down, same_sought}
use Rattle.helm_geo.proofs.angle.turning.Goals as goal

pub loop-low-preserved-then-along : goal.loop-low-preserved-then-along
loop-low-preserved-then-along c =
    let now : to_z w64 (of_z w64 c.along.result) ≡ c.along.result = omega (arith, ints) in
    let next : to_z w64 (of_z w64 c.along-in-loop-low.result) ≡ c.along-in-loop-low.result = omega (arith, ints) in
    sought_up _ _ _ _ c.loop-low.low c.loop-low.high _ (omega (arith, ints)) (omega (arith, ints)) c.loop-low.invariant (omega arith)
    (now ∙ c.along.ensures) (next ∙ c.along-in-loop-low.ensures) c.if-along.true

pub loop-low-preserved : goal.loop-low-preserved
loop-low-preserved c =
    let now : to_z w64 (of_z w64 c.along.result) ≡ c.along.result = omega (arith, ints) in
    let next : to_z w64 (of_z w64 c.along-in-loop-low.result) ≡ c.along-in-loop-low.result = omega (arith, ints) in
    sought_down _ _ _ _ c.loop-low.low c.loop-low.high _ (omega (arith, ints)) (omega (arith, ints)) c.loop-low.invariant (omega arith) (omega arith)
    (now ∙ c.along.ensures) (next ∙ c.along-in-loop-low.ensures) c.if-along.false

pub returns-clause-rises : goal.returns-clause-rises
returns-clause-rises c =
    (same_sought c.args.across c.args.ahead _ _ c.loop-low.low c.loop-low.high (to_z-of_z w64 c.args.across c.ranges.across) (to_z-of_z w64 c.args.ahead c.ranges.ahead) c.loop-low.invariant).rises

pub returns-clause-falls : goal.returns-clause-falls
returns-clause-falls c = λ degree more less.
    (same_sought c.args.across c.args.ahead _ _ c.loop-low.low c.loop-low.high (to_z-of_z w64 c.args.across c.ranges.across) (to_z-of_z w64 c.args.ahead c.ranges.ahead) c.loop-low.invariant).falls
    degree (omega (arith, more)) less
