use Rattle.std.proofs.Common.{◌≡◌, ℤ, pos, to_z, of_z, w64, ap, sym, ◌∙◌, arith}
use Rattle.std.specs.Prelude.{int_le}
use Rattle.ivp_func.proofs.Facts.{low_le_high}
use Rattle.ivp_build.specs.Sampled.{least_growth, most_growth}
use Rattle.ivp_build.proofs.Casts.{both_tests, first_test, rise_kept, rise_small, total_is, value_kept, value_small}
use Rattle.ivp_build.proofs.Sampling.{five_same, least_value, most_value, range_test, value_rise}
use Rattle.ivp_build.proofs.sampled.stays_in_range.Goals as goal

pub growth-three-requires-clause-proper : goal.growth-three-requires-clause-proper
growth-three-requires-clause-proper c = low_le_high c.args.area.now c.requires.proper 2 (omega arith)

pub growth-four-requires-clause-proper : goal.growth-four-requires-clause-proper
growth-four-requires-clause-proper c = low_le_high c.args.area.now c.requires.proper 3 (omega arith)

pub total-least-requires-clause-value : goal.total-least-requires-clause-value
total-least-requires-clause-value c = value_small c.args.value c.requires.value_fits

pub total-most-requires-clause-value : goal.total-most-requires-clause-value
total-most-requires-clause-value c = value_small c.args.value c.requires.value_fits

pub growth-one-requires-clause-proper : goal.growth-one-requires-clause-proper
growth-one-requires-clause-proper c = low_le_high c.args.area.now c.requires.proper 0 (omega arith)

pub growth-two-requires-clause-proper : goal.growth-two-requires-clause-proper
growth-two-requires-clause-proper c = low_le_high c.args.area.now c.requires.proper 1 (omega arith)

pub total-least-requires-clause-one : goal.total-least-requires-clause-one
total-least-requires-clause-one c = rise_small c.growth-one.result.0 c.growth-one.ensures.small.0

pub total-least-requires-clause-two : goal.total-least-requires-clause-two
total-least-requires-clause-two c = rise_small c.growth-two.result.0 c.growth-two.ensures.small.0

pub total-least-requires-clause-three : goal.total-least-requires-clause-three
total-least-requires-clause-three c = rise_small c.growth-three.result.0 c.growth-three.ensures.small.0

pub total-least-requires-clause-four : goal.total-least-requires-clause-four
total-least-requires-clause-four c = rise_small c.growth-four.result.0 c.growth-four.ensures.small.0

pub total-most-requires-clause-one : goal.total-most-requires-clause-one
total-most-requires-clause-one c = rise_small c.growth-one.result.1 c.growth-one.ensures.small.1

pub total-most-requires-clause-two : goal.total-most-requires-clause-two
total-most-requires-clause-two c = rise_small c.growth-two.result.1 c.growth-two.ensures.small.1

pub total-most-requires-clause-three : goal.total-most-requires-clause-three
total-most-requires-clause-three c = rise_small c.growth-three.result.1 c.growth-three.ensures.small.1

pub total-most-requires-clause-four : goal.total-most-requires-clause-four
total-most-requires-clause-four c = rise_small c.growth-four.result.1 c.growth-four.ensures.small.1

pub returns-then-least-ge0 : goal.returns-then-least-ge0
returns-then-least-ge0 c =
    let area = c.args.area.now in
    let value = c.args.value in
    let slopes = c.args.slopes.now in
    let one = c.growth-one.ensures in
    let two = c.growth-two.ensures in
    let three = c.growth-three.ensures in
    let four = c.growth-four.ensures in
    let least : to_z w64 (of_z w64 c.total-least.result) ≡ least_value area value slopes = total_is value c.growth-one.result.0 c.growth-two.result.0 c.growth-three.result.0 c.growth-four.result.0 _ _ _ _ _ c.total-least.result (value_rise value c.requires.value_fits) one.small.0 two.small.0 three.small.0 four.small.0
    (value_kept value c.requires.value_fits) (rise_kept c.growth-one.result.0 one.small.0) (rise_kept c.growth-two.result.0 two.small.0) (rise_kept c.growth-three.result.0 three.small.0) (rise_kept c.growth-four.result.0 four.small.0) c.total-least.ensures
    ∙ five_same value c.growth-one.result.0 c.growth-two.result.0 c.growth-three.result.0 c.growth-four.result.0 (least_growth area slopes 0) (least_growth area slopes 1) (least_growth area slopes 2) (least_growth area slopes 3) one.least two.least three.least four.least in
    let most : to_z w64 (of_z w64 c.total-most.result) ≡ most_value area value slopes = total_is value c.growth-one.result.1 c.growth-two.result.1 c.growth-three.result.1 c.growth-four.result.1 _ _ _ _ _ c.total-most.result (value_rise value c.requires.value_fits) one.small.1 two.small.1 three.small.1 four.small.1
    (value_kept value c.requires.value_fits) (rise_kept c.growth-one.result.1 one.small.1) (rise_kept c.growth-two.result.1 two.small.1) (rise_kept c.growth-three.result.1 three.small.1) (rise_kept c.growth-four.result.1 four.small.1) c.total-most.ensures
    ∙ five_same value c.growth-one.result.1 c.growth-two.result.1 c.growth-three.result.1 c.growth-four.result.1 (most_growth area slopes 0) (most_growth area slopes 1) (most_growth area slopes 2) (most_growth area slopes 3) one.most two.most three.most four.most in
    ap (λ (z : ℤ). int_le z (pos 100000)) most
    ∙ both_tests (int_le (pos 0) (least_value area value slopes)) (int_le (most_value area value slopes) (pos 100000)) _ (ap (int_le (pos 0)) (sym least) ∙ c.if-least-ge0.true) (range_test area value slopes c.requires.proper)

pub returns-else-least-ge0 : goal.returns-else-least-ge0
returns-else-least-ge0 c =
    let area = c.args.area.now in
    let value = c.args.value in
    let slopes = c.args.slopes.now in
    let one = c.growth-one.ensures in
    let two = c.growth-two.ensures in
    let three = c.growth-three.ensures in
    let four = c.growth-four.ensures in
    let least : to_z w64 (of_z w64 c.total-least.result) ≡ least_value area value slopes = total_is value c.growth-one.result.0 c.growth-two.result.0 c.growth-three.result.0 c.growth-four.result.0 _ _ _ _ _ c.total-least.result (value_rise value c.requires.value_fits) one.small.0 two.small.0 three.small.0 four.small.0
    (value_kept value c.requires.value_fits) (rise_kept c.growth-one.result.0 one.small.0) (rise_kept c.growth-two.result.0 two.small.0) (rise_kept c.growth-three.result.0 three.small.0) (rise_kept c.growth-four.result.0 four.small.0) c.total-least.ensures
    ∙ five_same value c.growth-one.result.0 c.growth-two.result.0 c.growth-three.result.0 c.growth-four.result.0 (least_growth area slopes 0) (least_growth area slopes 1) (least_growth area slopes 2) (least_growth area slopes 3) one.least two.least three.least four.least in
    ap (int_le (pos 0)) least
    ∙ first_test (int_le (pos 0) (least_value area value slopes)) (int_le (most_value area value slopes) (pos 100000)) _ (ap (int_le (pos 0)) (sym least) ∙ c.if-least-ge0.false) (range_test area value slopes c.requires.proper)
