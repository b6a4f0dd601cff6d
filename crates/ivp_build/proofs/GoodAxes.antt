-- A good axis, part by part, and the gaps between the numbers that it and a limit may have.
use Rattle.std.proofs.Common.{◌≡◌, ℕ, true, false, ◌+◌, ◌*◌, ◌<◌, ◌≤◌, ◌^◌, ℤ, pos, ◌+ℤ◌, ◌-ℤ◌, ◌<ℤ◌, ◌≤ℤ◌, nat_abs, FitsSigned, Fits, to_z, of_z, w64, eqb, sym, ◌∙◌, arith}
use Rattle.std.proofs.lemmas.Bool.{and_parts, leb-true, lt-ltb}
use Rattle.std.proofs.lemmas.Bool.Decides.{nat_tests}
use Rattle.std.proofs.lemmas.Int.{ints}
use Rattle.std.specs.Int.Signed.{non_neg, yes_non_neg}
use lib.Dec.{T}
use Rattle.std.specs.Prelude.{int_le, int_lt, min, nat_le, nat_lt, ◌&&◌}
use Rattle.ivp_domain.specs.declared.axis.Axis.{Axis}
use Rattle.ivp_domain.specs.Axes.{is_end, is_good_axis}
use Rattle.ivp_build.specs.Places.{IsNumber}

pub record IsGood (axis : Axis) : Type 0 where
  pub points : 2 ≤ axis.points
  pub order : axis.low <ℤ axis.high
  pub low : IsNumber axis.low
  pub high : IsNumber axis.high
  pub most : axis.high ≤ℤ pos (10 ^ 12)

rising : (low high : ℤ) → int_lt low high ≡ true → low <ℤ high
rising low high h = grind (arith, nat_tests, ints)

pub end_number : (end : ℤ) → is_end end ≡ true → IsNumber end
end_number end h = (grind (arith, nat_tests, ints), grind (arith, nat_tests, ints))

pub end_most : (end : ℤ) → is_end end ≡ true → end ≤ℤ pos (10 ^ 12)
end_most end h = grind (arith, nat_tests, ints)

pub good_parts : (axis : Axis) → is_good_axis axis ≡ true → IsGood axis
good_parts axis good =
    let ends = and_parts (nat_le 2 axis.points && int_lt axis.low axis.high && is_end axis.low) (is_end axis.high) good in
    let low = and_parts (nat_le 2 axis.points && int_lt axis.low axis.high) (is_end axis.low) ends.0 in
    let order = and_parts (nat_le 2 axis.points) (int_lt axis.low axis.high) low.0 in
    record {
      points = leb-true 2 axis.points order.0;
      order = rising axis.low axis.high order.1;
      low = end_number axis.low low.1;
      high = end_number axis.high ends.1;
      most = end_most axis.high ends.1;
    }

-- a number of 64 bits that is within bounds
pub number_kept : (number : ℤ) → IsNumber number → to_z w64 (of_z w64 number) ≡ number
number_kept number h = omega (arith, ints)

-- a number of 64 bits that a cast keeps
abbrev pub CastFits : ℤ → Type 0
CastFits number = T (non_neg number) × Fits w64 (nat_abs number)

-- how far one number is above another, as the code has it
pub gap_fits : (low high : ℤ) → IsNumber low → IsNumber high → FitsSigned w64 (to_z w64 (of_z w64 high) -ℤ to_z w64 (of_z w64 low))
gap_fits low high l h = omega (arith, ints)

pub gap_kept : (low high : ℤ) → IsNumber low → IsNumber high → to_z w64 (of_z w64 (to_z w64 (of_z w64 high) -ℤ to_z w64 (of_z w64 low))) ≡ high -ℤ low
gap_kept low high l h = omega (arith, ints)

pub gap_is : (low high : ℤ) → low <ℤ high → pos (nat_abs (high -ℤ low)) ≡ high -ℤ low
gap_is low high h = omega (arith, ints)

pub gap_some : (low high : ℤ) → IsNumber low → IsNumber high → low <ℤ high → 0 < nat_abs (to_z w64 (of_z w64 (to_z w64 (of_z w64 high) -ℤ to_z w64 (of_z w64 low))))
gap_some low high l h order = rw (gap_kept low high l h) (omega (arith, ints))

pub gap_most : (low high : ℤ) → IsNumber low → IsNumber high → nat_abs (to_z w64 (of_z w64 (to_z w64 (of_z w64 high) -ℤ to_z w64 (of_z w64 low)))) ≤ 2 * 10 ^ 12 + 1
gap_most low high l h = rw (gap_kept low high l h) (omega (arith, ints))

pub gap_cast : (low high : ℤ) → IsNumber low → IsNumber high → low <ℤ high
    → CastFits (to_z w64 (of_z w64 (to_z w64 (of_z w64 high) -ℤ to_z w64 (of_z w64 low))))
gap_cast low high l h order = rw (gap_kept low high l h) (yes_non_neg (omega (arith, ints)), omega (arith, ints))

-- the places of an axis whose number is below a limit: none where the limit isn't above the low end
pub none_below : (low number : ℤ) (place part : ℕ) → IsNumber low → IsNumber number → int_le (to_z w64 (of_z w64 number)) (to_z w64 (of_z w64 low)) ≡ true
    → nat_lt place 0 ≡ int_lt (low +ℤ pos part) number
none_below low number place part l n h = grind (arith, nat_tests, ints)

pub above_from : (low number : ℤ) → IsNumber low → IsNumber number → int_le (to_z w64 (of_z w64 number)) (to_z w64 (of_z w64 low)) ≡ false → low <ℤ number
above_from low number l n h = rising low number (grind (arith, nat_tests, ints))

pub each_below : (low number : ℤ) (place points below part own : ℕ) → place < points → nat_lt place below ≡ nat_lt own part → pos part ≡ number -ℤ low
    → nat_lt place (min below points) ≡ int_lt (low +ℤ pos own) number
each_below low number place points below part own inside same gap = grind (arith, nat_tests, ints)

-- where so many places are below a limit: a place among them, and one past them
pub below_counted : (value limit : ℤ) (place count : ℕ) → nat_lt place count ≡ int_lt value limit → place < count → value <ℤ limit
below_counted value limit place count same h = rising value limit (sym same ∙ lt-ltb place count h)

pub past_counted : (value limit : ℤ) (place count : ℕ) → nat_lt place count ≡ int_lt value limit → count ≤ place → limit ≤ℤ value
past_counted value limit place count same h = grind (arith, nat_tests, ints)

-- the high end of an axis whose low end is 0, as a number without a sign
high_from : (low high : ℤ) → low <ℤ high → eqb (of_z w64 low) 0 ≡ true → IsNumber low → pos 0 ≤ℤ high
high_from low high order zero l = grind (arith, nat_tests, ints)

pub high_cast : (axis : Axis) → is_good_axis axis ≡ true → eqb (of_z w64 axis.low) 0 ≡ true → CastFits (to_z w64 (of_z w64 axis.high))
high_cast axis h zero =
    let good = good_parts axis h in
    let above = high_from axis.low axis.high good.order zero good.low in
    rw (number_kept axis.high good.high) (yes_non_neg above, omega (arith, ints))

pub high_most : (axis : Axis) → is_good_axis axis ≡ true → eqb (of_z w64 axis.low) 0 ≡ true → nat_abs (to_z w64 (of_z w64 axis.high)) ≤ 10 ^ 12
high_most axis h zero =
    let good = good_parts axis h in
    let above = high_from axis.low axis.high good.order zero good.low in
    rw (number_kept axis.high good.high) (omega (arith, ints))

-- the number after a limit
pub next_fits : (limit : ℤ) → is_end limit ≡ true → FitsSigned w64 (to_z w64 (of_z w64 limit) +ℤ pos 1)
next_fits limit h = let end = end_number limit h in omega (arith, ints)

pub next_kept : (limit : ℤ) → is_end limit ≡ true → to_z w64 (of_z w64 (to_z w64 (of_z w64 limit) +ℤ pos 1)) ≡ limit +ℤ pos 1
next_kept limit h = let end = end_number limit h in omega (arith, ints)

pub next_number : (limit : ℤ) → is_end limit ≡ true → IsNumber (to_z w64 (of_z w64 (to_z w64 (of_z w64 limit) +ℤ pos 1)))
next_number limit h =
    let end = end_number limit h in
    let most = end_most limit h in
    rw (next_kept limit h) (omega (arith, ints), omega (arith, ints))
