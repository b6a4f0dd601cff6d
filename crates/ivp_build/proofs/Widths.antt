-- The numbers of a peak and a limit, none of which is below 0: what casts keep of them.
use Rattle.std.proofs.Common.{◌≡◌, true, ◌≤◌, ℤ, pos, ◌≤ℤ◌, nat_abs, to_z, of_z, w64, sym, subst, arith}
use Rattle.std.specs.Int.Signed.{yes_non_neg}
use Rattle.std.proofs.lemmas.Bool.Decides.{nat_tests}
use Rattle.std.proofs.lemmas.Int.{ints}
use Rattle.ivp_func.specs.Pieces.{is_value}
use Rattle.ivp_build.specs.Places.{IsWidth}
use Rattle.ivp_build.proofs.GoodAxes.{CastFits}

pub width_kept : (width : ℤ) → IsWidth width → to_z w64 (of_z w64 width) ≡ width
width_kept width h = omega (arith, ints)

pub width_passed : (width : ℤ) → IsWidth width → IsWidth (to_z w64 (of_z w64 width))
width_passed width h = subst IsWidth (sym (width_kept width h)) h

pub width_cast : (width : ℤ) → IsWidth width → CastFits (to_z w64 (of_z w64 width))
width_cast width h = rw (width_kept width h) (yes_non_neg h.0, omega (arith, ints))

-- a greatest utility and a loss of no more than that
pub value_width : (value : ℤ) → is_value value ≡ true → IsWidth value
value_width value h = (grind (arith, nat_tests, ints), grind (arith, nat_tests, ints))

pub value_most : (value : ℤ) → is_value value ≡ true → nat_abs value ≤ 100000
value_most value h = grind (arith, nat_tests, ints)

pub loss_width : (loss max : ℤ) → pos 0 ≤ℤ loss → loss ≤ℤ max → max ≤ℤ pos 100000 → IsWidth loss × IsWidth max
loss_width loss max low within most = ((low, omega (arith, ints)), (omega (arith, ints), omega (arith, ints)))

pub loss_within : (loss max : ℤ) → pos 0 ≤ℤ loss → loss ≤ℤ max → nat_abs loss ≤ nat_abs max
loss_within loss max low within = omega (arith, ints)

pub most_abs : (max : ℤ) → pos 0 ≤ℤ max → max ≤ℤ pos 100000 → nat_abs max ≤ 100000
most_abs max low most = omega (arith, ints)
