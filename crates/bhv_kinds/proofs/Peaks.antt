-- What the ranges of parameters say of peaks.
use Rattle.std.proofs.Common.{◌≡◌, ◌≤ℤ◌, ◌^◌, ℤ, ℕ, pos, true, arith}
use Rattle.std.proofs.lemmas.Int.{ints}
use Rattle.std.proofs.lemmas.Bool.Decides.{nat_tests}
use Rattle.ivp_domain.specs.Axes.{is_end}
use Rattle.ivp_build.specs.Places.{IsWidth}
use Rattle.ivp_build.specs.Shapes.{IsPeak}
use Rattle.bhv_file.specs.Values.{lies_between}

-- a number of a range from 0 on is at least 0 and at most its end
pub between : (high : ℕ) (n : ℤ) → lies_between (pos 0) (pos high) n ≡ true → (pos 0 ≤ℤ n) × (n ≤ℤ pos high)
between high n in' = (grind (arith, nat_tests, ints), grind (arith, nat_tests, ints))

-- a number of a small range is within the bounds of an end
pub end_between : (n : ℤ) → lies_between (pos 0) (pos (10 ^ 7)) n ≡ true → is_end n ≡ true
end_between n in' = grind (arith, nat_tests, ints)

-- and of a width
pub width_between : (n : ℤ) → lies_between (pos 0) (pos (10 ^ 9)) n ≡ true → IsWidth n
width_between n in' = let parts = between (10 ^ 9) n in' in (parts.0, omega (arith, ints, parts.1))

-- a peak of 100 with parameters in their ranges can be built
pub peak_between : (summit peakwidth basewidth summitdelta : ℤ) → lies_between (pos 0) (pos (10 ^ 7)) summit ≡ true → lies_between (pos 0) (pos (10 ^ 9)) peakwidth ≡ true → lies_between (pos 0) (pos (10 ^ 9)) basewidth ≡ true
    → lies_between (pos 0) (pos 100000) summitdelta ≡ true → IsPeak (record { summit = summit; peakwidth = peakwidth; basewidth = basewidth; summitdelta = summitdelta; max = pos 100000 })
peak_between summit peakwidth basewidth summitdelta at top foot delta = record {
  summit = end_between summit at;
  peakwidth = width_between peakwidth top;
  basewidth = width_between basewidth foot;
  some = (between 100000 summitdelta delta).0;
  within = (between 100000 summitdelta delta).1;
  most = omega (arith, ints);
}
