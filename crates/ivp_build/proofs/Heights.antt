-- From one distance to the next of its zone, a utility loses what the zone loses at each place.
use Rattle.std.proofs.Common.{◌≡◌, ℕ, Bool, ◌+◌, ◌*◌, suc, true, false, pos, ◌-ℤ◌, ◌≤◌, ◌<◌, refl, sym, subst, arith}
use Rattle.std.proofs.lemmas.Bool.{leb-true, leb-false}
use Rattle.std.proofs.lemmas.Int.{ints}
use Rattle.std.specs.Prelude.{nat_le, if◌then◌else◌, ◌-◌, ◌/◌}
use Rattle.ivp_build.specs.declared.slopes.Slopes.{Slopes}
use Rattle.ivp_build.specs.Shapes.{fall_in, height_at, shoulder, zone_of}

-- what a number loses by one step more, where it doesn't pass 0
lost : (m a d : ℕ) → a * suc d ≤ m → pos (m - a * suc d) ≡ pos (m - a * d) -ℤ pos a
lost m a d fits = grind (arith, ints)

on_top : (m a d t : ℕ) → suc d ≤ t → a * t ≤ m → a * suc d ≤ m
on_top m a d t below fits = grind arith

at_foot : (v b e : ℕ) → 0 < b → e ≤ b → v / b * e ≤ v
at_foot v b e some below = grind arith

-- the zone and the height by what the four tests say of two distances
abbrev zone_by : Bool → Bool → ℕ
zone_by top foot = if top then 0 else if foot then 1 else 2

abbrev height_by : Slopes → ℕ → Bool → Bool → ℕ
height_by s d top foot = if top then s.max - s.fall * d else if foot then shoulder s - shoulder s / s.foot * (d - s.top) else 0

step_by : (s : Slopes) (d : ℕ) (a b c e : Bool) → nat_le d s.top ≡ a → nat_le (suc d) s.top ≡ b → nat_le d (s.top + s.foot) ≡ c → nat_le (suc d) (s.top + s.foot) ≡ e
    → 0 < s.foot → s.fall * s.top ≤ s.max → zone_by a c ≡ zone_by b e → pos (height_by s (suc d) b e) ≡ pos (height_by s d a c) -ℤ pos (fall_in s (zone_by a c))
step_by s d true true c e at next here there some fits same = lost s.max s.fall d (on_top s.max s.fall d s.top (leb-true (suc d) s.top next) fits)
step_by s d true false c true at next here there some fits same = absurd (omega (arith, same))
step_by s d true false c false at next here there some fits same = absurd (omega (arith, same))
step_by s d false true true e at next here there some fits same = absurd (omega (arith, same))
step_by s d false true false e at next here there some fits same = absurd (omega (arith, same))
step_by s d false false true true at next here there some fits same =
    let beyond = leb-false d s.top at in
    let below = leb-true (suc d) (s.top + s.foot) there in
    let e : suc d - s.top ≡ suc (d - s.top) = omega (arith, beyond) in
    subst (λ k. pos (shoulder s - shoulder s / s.foot * k) ≡ pos (shoulder s - shoulder s / s.foot * (d - s.top)) -ℤ pos (shoulder s / s.foot)) (sym e)
    (lost (shoulder s) (shoulder s / s.foot) (d - s.top) (at_foot (shoulder s) s.foot (suc (d - s.top)) some (omega (arith, beyond, below))))
step_by s d false false true false at next here there some fits same = absurd (omega (arith, same))
step_by s d false false false true at next here there some fits same = absurd (omega (arith, same))
step_by s d false false false false at next here there some fits same = refl

pub height_step : (s : Slopes) (d : ℕ) → 0 < s.foot → s.fall * s.top ≤ s.max → zone_of s d ≡ zone_of s (suc d)
    → pos (height_at s (suc d)) ≡ pos (height_at s d) -ℤ pos (fall_in s (zone_of s d))
height_step s d some fits same =
    step_by s d (nat_le d s.top) (nat_le (suc d) s.top) (nat_le d (s.top + s.foot)) (nat_le (suc d) (s.top + s.foot)) refl refl refl refl some fits same
