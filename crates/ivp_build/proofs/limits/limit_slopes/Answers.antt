use Rattle.std.proofs.Common.{◌≡◌, ℕ, ℤ, ◌<◌, ◌≤◌, ◌^◌, ◌*◌, nat_abs, ap, ◌∙◌, arith}
use Rattle.ivp_build.specs.declared.slopes.Slopes.{Slopes}
use Rattle.ivp_build.specs.Places.{steps_of}
use Rattle.ivp_build.specs.Shapes.{AreSlopes}
use Rattle.ivp_build.proofs.Widths.{value_most, value_width, width_cast, width_kept, width_passed}
use Rattle.ivp_build.proofs.limits.limit_slopes.Goals as goal

-- slopes from a greatest utility and a foot
joined : (max max' foot foot' : ℕ) → max ≡ max' → foot ≡ foot' → ◌≡◌ {A = Slopes} (record { max = max; fall = 0; top = 0; foot = foot }) (record { max = max'; fall = 0; top = 0; foot = foot' })
joined max max' foot foot' m f = cc

sound : (max foot : ℕ) → 0 < foot → max ≤ 100000 → foot ≤ 10 ^ 12 * 2 ^ 28 → AreSlopes (record { max = max; fall = 0; top = 0; foot = foot })
sound max foot some most f = record { some = some; within = omega arith; one = omega arith; most = most; top = omega arith; foot = f }

pub overflow_cast-result : goal.overflow_cast-result
overflow_cast-result c = width_cast c.args.max (value_width c.args.max c.requires.max)

pub steps_of-requires-clause-width : goal.steps_of-requires-clause-width
steps_of-requires-clause-width c = width_passed c.args.basewidth c.requires.basewidth

pub returns-clause-slopes : goal.returns-clause-slopes
returns-clause-slopes c =
    let max = ap nat_abs (width_kept c.args.max (value_width c.args.max c.requires.max)) in
    joined _ _ _ _ max (c.steps_of.ensures.steps ∙ ap (λ (w : ℤ). steps_of c.args.axis.now (nat_abs w)) (width_kept c.args.basewidth c.requires.basewidth))

pub returns-clause-sound : goal.returns-clause-sound
returns-clause-sound c =
    let max = width_kept c.args.max (value_width c.args.max c.requires.max) in
    sound _ _ c.steps_of.ensures.some (rw max (value_most c.args.max c.requires.max)) c.steps_of.ensures.most
