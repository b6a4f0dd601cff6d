use Rattle.std.proofs.Common.{◌≡◌, to_z, of_z, w64, ℤ, ap, ◌∙◌, codes, subst, arith}
use Rattle.std.proofs.lemmas.Int.{ints}
use Rattle.std.specs.Prelude.{nat_abs}
use Rattle.ivp_build.proofs.Nearest.{end_cast}
use Rattle.bhv_kinds.specs.Utilities.{AtMostOn, function_of}
use Rattle.bhv_kinds.specs.Wants.{CanMake}
use Rattle.bhv_kinds.proofs.making.make.Goals as goal

pub returns-in_ok-func-in-AtMostDeep : goal.returns-in_ok-func-in-AtMostDeep
returns-in_ok-func-in-AtMostDeep c =
    let axes = c.args.domain.now in
    let can = subst (CanMake axes) c.in-AtMostDeep.is c.requires in
    let width = can.2 in
    let basewidth : to_z w64 (of_z w64 c.in-AtMostDeep.basewidth) ≡ c.in-AtMostDeep.basewidth = omega (arith, ints, width.0, width.1) in
    rw c.in-AtMostDeep.is (c.in_ok-func-in-AtMostDeep.ensures
    ∙ ap (λ (n : ℤ). function_of axes (AtMostOn (codes "depth") n (nat_abs (to_z w64 (of_z w64 c.in-AtMostDeep.basewidth))) 100000)) (end_cast c.in-AtMostDeep.limit can.1)
    ∙ ap (λ (n : ℤ). function_of axes (AtMostOn (codes "depth") c.in-AtMostDeep.limit (nat_abs n) 100000)) basewidth)

pub returns-in_ok-func-in-Travel : goal.returns-in_ok-func-in-Travel
returns-in_ok-func-in-Travel c = rw c.in-Travel.is c.in_ok-func-in-Travel.ensures
