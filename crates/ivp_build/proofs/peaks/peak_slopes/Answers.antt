use Rattle.std.proofs.Common.{◌≡◌, ℕ, ℤ, ◌*◌, ◌/◌, ◌^◌, ◌<◌, ◌≤◌, nat_abs, ap, ◌∙◌, arith}
use Rattle.std.proofs.Math.Nat.{div-le_self, div-mul-le_self}
use Rattle.std.proofs.lemmas.Int.{ints}
use Rattle.ivp_build.specs.Places.{steps_of}
use Rattle.ivp_build.specs.Shapes.{AreSlopes}
use Rattle.ivp_build.specs.declared.slopes.Slopes.{Slopes}
use Rattle.ivp_build.proofs.Widths.{loss_width, loss_within, most_abs, width_cast, width_kept, width_passed}
use Rattle.ivp_build.proofs.peaks.peak_slopes.Goals as goal

-- slopes from their parts
joined : (max max' fall fall' top top' foot foot' : ℕ) → max ≡ max' → fall ≡ fall' → top ≡ top' → foot ≡ foot'
    → ◌≡◌ {A = Slopes} (record { max = max; fall = fall / top; top = top; foot = foot }) (record { max = max'; fall = fall' / top'; top = top'; foot = foot' })
joined max max' fall fall' top top' foot foot' m f t b = cc

-- they are sound where the loss is within the greatest
sound : (max loss top foot : ℕ) → 0 < foot → loss ≤ max → max ≤ 100000 → top ≤ 10 ^ 12 * 2 ^ 28 → foot ≤ 10 ^ 12 * 2 ^ 28 → AreSlopes (record { max = max; fall = loss / top; top = top; foot = foot })
sound max loss top foot some within most t f =
    record {
      some = some;
      within = omega (arith, div-mul-le_self loss top);
      one = omega (arith, div-le_self loss top);
      most = most;
      top = t;
      foot = f;
    }

pub steps_of-top-requires-clause-width : goal.steps_of-top-requires-clause-width
steps_of-top-requires-clause-width c = width_passed c.args.shape.now.peakwidth c.requires.peak.peakwidth

pub steps_of-requires-clause-width : goal.steps_of-requires-clause-width
steps_of-requires-clause-width c = width_passed c.args.shape.now.basewidth c.requires.peak.basewidth

pub overflow_cast-result : goal.overflow_cast-result
overflow_cast-result c =
    let shape = c.args.shape.now in
    let peak = c.requires.peak in
    width_cast shape.max (loss_width shape.summitdelta shape.max peak.some peak.within peak.most).1

pub overflow_cast-result-2 : goal.overflow_cast-result-2
overflow_cast-result-2 c =
    let shape = c.args.shape.now in
    let peak = c.requires.peak in
    width_cast shape.summitdelta (loss_width shape.summitdelta shape.max peak.some peak.within peak.most).0

pub returns-clause-slopes : goal.returns-clause-slopes
returns-clause-slopes c =
    let axis = c.args.axis.now in
    let shape = c.args.shape.now in
    let peak = c.requires.peak in
    let widths = loss_width shape.summitdelta shape.max peak.some peak.within peak.most in
    let top = c.steps_of-top.ensures.steps ∙ ap (λ (w : ℤ). steps_of axis (nat_abs w)) (width_kept shape.peakwidth peak.peakwidth) in
    let foot = c.steps_of.ensures.steps ∙ ap (λ (w : ℤ). steps_of axis (nat_abs w)) (width_kept shape.basewidth peak.basewidth) in
    joined _ _ _ _ _ _ _ _ (ap nat_abs (width_kept shape.max widths.1)) (ap nat_abs (width_kept shape.summitdelta widths.0)) top foot

pub returns-clause-sound : goal.returns-clause-sound
returns-clause-sound c =
    let shape = c.args.shape.now in
    let peak = c.requires.peak in
    let widths = loss_width shape.summitdelta shape.max peak.some peak.within peak.most in
    let top = c.steps_of-top.result in
    let max = width_kept shape.max widths.1 in
    let loss = width_kept shape.summitdelta widths.0 in
    let within = loss_within shape.summitdelta shape.max peak.some peak.within in
    sound _ _ _ _ c.steps_of.ensures.some (rw (max, loss) within) (rw max (most_abs shape.max (omega (arith, ints)) peak.most)) c.steps_of-top.ensures.most c.steps_of.ensures.most
