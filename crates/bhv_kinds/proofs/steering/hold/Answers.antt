use Rattle.std.proofs.Common.{◌≤◌, codes, ap, ◌∙◌, arith}
use Rattle.std.specs.Prelude.{nat_abs}
use Rattle.ivp_func.specs.Functions.{Function}
use Rattle.ivp_build.specs.declared.shape.Peak.{Peak}
use Rattle.bhv_kinds.specs.Utilities.{Flat, PeakOn, Sum, function_of}
use Rattle.bhv_kinds.proofs.Couples.{hold_room, sum_function}
use Rattle.bhv_kinds.proofs.steering.hold.Goals as goal

pub sum-requires-clause-room : goal.sum-requires-clause-room
sum-requires-clause-room c =
    let max = ap (λ (p : Peak). nat_abs p.max) c.cruising.ensures.peak in
    let low : nat_abs c.cruising.result.max ≤ 50000 = omega (arith, max) in
    hold_room c.args.domain.now c.cruising.result c.in_ok-one.one c.in_ok-other.other (ap (λ (f : Function). f.axes) c.in_ok-one.ensures.pieces) low c.in_ok-one.ensures.value c.in_ok-other.ensures.value

pub returns : goal.returns
returns c =
    sum_function c.args.domain.now (Flat 0) (PeakOn (codes "speed") c.cruising.result) c.in_ok-one.one c.in_ok-other.other c.in_ok-func.func c.in_ok-one.ensures.pieces c.in_ok-other.ensures.pieces c.in_ok-func.ensures
    ∙ ap (λ (p : Peak). function_of c.args.domain.now (Sum (Flat 0) (PeakOn (codes "speed") p))) c.cruising.ensures.peak
