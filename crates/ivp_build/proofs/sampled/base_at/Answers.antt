use Rattle.std.proofs.Common.{ℕ, ℤ, pos, ◌∙◌, refl, arith}
use Rattle.std.specs.Prelude.{slice_index, slice_index_or}
use Rattle.ivp_build.proofs.Casts.{base_is, low_few, rise_is, slope_small, turned_fits, turned_small, value_small}
use Rattle.ivp_build.proofs.sampled.base_at.Goals as goal

pub rise-four-requires-clause-least : goal.rise-four-requires-clause-least
rise-four-requires-clause-least c = (slope_small (slice_index_or c.args.slopes.now 3 (pos 0)) (c.requires.slopes_fit 3 (omega arith))).0

pub rise-four-requires-clause-most : goal.rise-four-requires-clause-most
rise-four-requires-clause-most c = (slope_small (slice_index_or c.args.slopes.now 3 (pos 0)) (c.requires.slopes_fit 3 (omega arith))).1

pub rise-one-requires-clause-least : goal.rise-one-requires-clause-least
rise-one-requires-clause-least c = (slope_small (slice_index_or c.args.slopes.now 0 (pos 0)) (c.requires.slopes_fit 0 (omega arith))).0

pub rise-one-requires-clause-most : goal.rise-one-requires-clause-most
rise-one-requires-clause-most c = (slope_small (slice_index_or c.args.slopes.now 0 (pos 0)) (c.requires.slopes_fit 0 (omega arith))).1

pub rise-two-requires-clause-least : goal.rise-two-requires-clause-least
rise-two-requires-clause-least c = (slope_small (slice_index_or c.args.slopes.now 1 (pos 0)) (c.requires.slopes_fit 1 (omega arith))).0

pub rise-two-requires-clause-most : goal.rise-two-requires-clause-most
rise-two-requires-clause-most c = (slope_small (slice_index_or c.args.slopes.now 1 (pos 0)) (c.requires.slopes_fit 1 (omega arith))).1

pub rise-three-requires-clause-least : goal.rise-three-requires-clause-least
rise-three-requires-clause-least c = (slope_small (slice_index_or c.args.slopes.now 2 (pos 0)) (c.requires.slopes_fit 2 (omega arith))).0

pub rise-three-requires-clause-most : goal.rise-three-requires-clause-most
rise-three-requires-clause-most c = (slope_small (slice_index_or c.args.slopes.now 2 (pos 0)) (c.requires.slopes_fit 2 (omega arith))).1

pub rise-one-requires-clause-low : goal.rise-one-requires-clause-low
rise-one-requires-clause-low c = low_few c.args.area.now c.requires.proper c.requires.few 0 (omega arith)

pub overflow_sub-one : goal.overflow_sub-one
overflow_sub-one c = turned_fits c.rise-one.result (c.rise-one.ensures.above, c.rise-one.ensures.below)

pub rise-two-requires-clause-low : goal.rise-two-requires-clause-low
rise-two-requires-clause-low c = low_few c.args.area.now c.requires.proper c.requires.few 1 (omega arith)

pub overflow_sub-two : goal.overflow_sub-two
overflow_sub-two c = turned_fits c.rise-two.result (c.rise-two.ensures.above, c.rise-two.ensures.below)

pub rise-three-requires-clause-low : goal.rise-three-requires-clause-low
rise-three-requires-clause-low c = low_few c.args.area.now c.requires.proper c.requires.few 2 (omega arith)

pub overflow_sub-three : goal.overflow_sub-three
overflow_sub-three c = turned_fits c.rise-three.result (c.rise-three.ensures.above, c.rise-three.ensures.below)

pub rise-four-requires-clause-low : goal.rise-four-requires-clause-low
rise-four-requires-clause-low c = low_few c.args.area.now c.requires.proper c.requires.few 3 (omega arith)

pub overflow_sub-four : goal.overflow_sub-four
overflow_sub-four c = turned_fits c.rise-four.result (c.rise-four.ensures.above, c.rise-four.ensures.below)

pub total-requires-clause-value : goal.total-requires-clause-value
total-requires-clause-value c = value_small c.args.value c.requires.value_fits

pub total-requires-clause-one : goal.total-requires-clause-one
total-requires-clause-one c = turned_small c.rise-one.result (c.rise-one.ensures.above, c.rise-one.ensures.below)

pub total-requires-clause-two : goal.total-requires-clause-two
total-requires-clause-two c = turned_small c.rise-two.result (c.rise-two.ensures.above, c.rise-two.ensures.below)

pub total-requires-clause-three : goal.total-requires-clause-three
total-requires-clause-three c = turned_small c.rise-three.result (c.rise-three.ensures.above, c.rise-three.ensures.below)

pub total-requires-clause-four : goal.total-requires-clause-four
total-requires-clause-four c = turned_small c.rise-four.result (c.rise-four.ensures.above, c.rise-four.ensures.below)

pub returns : goal.returns
returns c =
    let slope : ℕ → ℤ = λ k. slice_index_or c.args.slopes.now k (pos 0) in
    let low : ℕ → ℕ = λ k. slice_index c.args.area.now.low k in
    base_is c.args.value c.rise-one.result c.rise-two.result c.rise-three.result c.rise-four.result c.total.result c.requires.value_fits (c.rise-one.ensures.above, c.rise-one.ensures.below)
    (c.rise-two.ensures.above, c.rise-two.ensures.below) (c.rise-three.ensures.above, c.rise-three.ensures.below) (c.rise-four.ensures.above, c.rise-four.ensures.below) c.total.ensures
    ∙ rw (
      rise_is c.rise-one.result (slope 0) (low 0) (c.requires.slopes_fit 0 (omega arith)) c.rise-one.ensures.rise,
      rise_is c.rise-two.result (slope 1) (low 1) (c.requires.slopes_fit 1 (omega arith)) c.rise-two.ensures.rise,
      rise_is c.rise-three.result (slope 2) (low 2) (c.requires.slopes_fit 2 (omega arith)) c.rise-three.ensures.rise,
      rise_is c.rise-four.result (slope 3) (low 3) (c.requires.slopes_fit 3 (omega arith)) c.rise-four.ensures.rise,
    ) refl
