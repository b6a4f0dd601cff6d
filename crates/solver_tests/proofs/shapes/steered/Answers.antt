use Rattle.std.proofs.Common.{◌≡◌, ℕ, List, refl, sym, ap, ◌∙◌, subst, arith, slice_index}
use Rattle.std.proofs.lemmas.Int.{ints}
use Rattle.std.specs.Prelude.{nat_abs}
use Rattle.ivp_domain.specs.declared.axis.Axis.{Axis}
use Rattle.ivp_domain.specs.declared.boxes.Point.{Point}
use Rattle.ivp_func.specs.Functions.{Function}
use Rattle.ivp_build.specs.Builders.{peak_pieces}
use Rattle.ivp_build.specs.Places.{axis_on}
use Rattle.ivp_build.specs.Shapes.{peak_at, peak_profile}
use Rattle.ivp_build.specs.Sums.{HaveRoom, slope_apart}
use Rattle.ivp_build.proofs.Sides.{peak_most, room_below, shapes_apart}
use Rattle.solver_tests.proofs.shapes.steered.Goals as goal

pub couple-requires-clause-room : goal.couple-requires-clause-room
couple-requires-clause-room g c =
    let axes = c.args.domain.now in
    let course = c.args.course.now in
    let speed = c.args.speed.now in
    let f = c.expect-f.result in
    let h = c.expect-g.result in
    let room : HaveRoom axes f.pieces h.pieces =
    room_below axes f.pieces h.pieces (λ (p : Point). peak_at (axis_on axes 0) course (slice_index p.at 0)) (λ (p : Point). peak_at (axis_on axes 1) speed (slice_index p.at 1)) (nat_abs course.max) (nat_abs speed.max)
    (rw c.expect-f.ensures at c.peak.ensures.value) (rw c.expect-g.ensures at c.peak-2.ensures.value)
    (λ p. peak_most (axis_on axes 0) course (slice_index p.at 0)) (λ p. peak_most (axis_on axes 1) speed (slice_index p.at 1)) (omega (arith, ints)) in
    subst (λ (over : List Axis). HaveRoom over f.pieces h.pieces) (sym (ap (λ (one : Function). one.axes) (rw c.expect-f.ensures at c.peak.ensures.pieces))) room

not_one : (n : ℕ) → n ≡ 0 → n ≡ 1 → ⊥
not_one n e e' = omega arith

pub couple-requires-clause-apart : goal.couple-requires-clause-apart
couple-requires-clause-apart g c =
    let axes = c.args.domain.now in
    let course = c.args.course.now in
    let speed = c.args.speed.now in
    ap (λ ps. slope_apart ps c.expect-g.result.pieces) (ap (λ (one : Function). one.pieces) (rw c.expect-f.ensures at c.peak.ensures.pieces))
    ∙ ap (slope_apart (peak_pieces axes 0 course)) (ap (λ (one : Function). one.pieces) (rw c.expect-g.ensures at c.peak-2.ensures.pieces))
    ∙ shapes_apart axes 0 1 (peak_profile (axis_on axes 0) course) (peak_profile (axis_on axes 1) speed) (not_one 0 refl)
