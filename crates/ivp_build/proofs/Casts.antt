-- Numbers of 64 bits that stay small: what the code's sums and products of a sampled utility are.
use Rattle.std.proofs.Common.{◌≡◌, ℕ, Bool, true, false, ◌&&◌, ◌-◌, ◌<◌, ◌^◌, ℤ, pos, neg_ℤ, ◌+ℤ◌, ◌-ℤ◌, ◌*ℤ◌, ◌≤ℤ◌, to_z, of_z, w64, FitsSigned, refl, sym, subst, ap, ◌∙◌, arith}
use Rattle.std.specs.Prelude.{◌==◌, int_div, slice_index}
use Rattle.std.proofs.lemmas.Bool.Decides.{nat_tests}
use Rattle.std.proofs.lemmas.Int.{ints}
use Rattle.ivp_domain.specs.declared.boxes.BoxN.{BoxN}
use Rattle.ivp_domain.specs.declared.boxes.Point.{Point}
use Rattle.ivp_domain.specs.Boxes.{is_box}
use Rattle.ivp_func.proofs.Facts.{low_le_high}
use Rattle.ivp_func.specs.Pieces.{is_slope, is_value}
use Rattle.ivp_build.specs.Sampled.{IsRise, high_end, low_corner, sampled_slope}
use Rattle.ivp_build.proofs.Sampling.{by_place_small, value_rise}

pub rise_kept : (z : ℤ) → IsRise z → to_z w64 (of_z w64 z) ≡ z
rise_kept z h = omega (arith, ints)

pub rise_small : (z : ℤ) → IsRise z → IsRise (to_z w64 (of_z w64 z))
rise_small z h = subst IsRise (sym (rise_kept z h)) h

pub value_kept : (z : ℤ) → is_value z ≡ true → to_z w64 (of_z w64 z) ≡ z
value_kept z h = rise_kept z (value_rise z h)

pub value_cast : (z : ℤ) → is_value z ≡ true → is_value (to_z w64 (of_z w64 z)) ≡ true
value_cast z h = ap is_value (value_kept z h) ∙ h

pub value_small : (z : ℤ) → is_value z ≡ true → IsRise (to_z w64 (of_z w64 z))
value_small z h = subst IsRise (sym (value_kept z h)) (value_rise z h)

slope_bounds : (z : ℤ) → is_slope z ≡ true → (neg_ℤ (pos 100000) ≤ℤ z) × (z ≤ℤ pos 100000)
slope_bounds z h = (grind (arith, nat_tests, ints), grind (arith, nat_tests, ints))

slope_rise : (z : ℤ) → is_slope z ≡ true → IsRise z
slope_rise z h = let within = slope_bounds z h in (omega (arith, ints), omega (arith, ints))

pub slope_kept : (z : ℤ) → is_slope z ≡ true → to_z w64 (of_z w64 z) ≡ z
slope_kept z h = rise_kept z (slope_rise z h)

pub slope_cast : (z : ℤ) → is_slope z ≡ true → is_slope (to_z w64 (of_z w64 z)) ≡ true
slope_cast z h = ap is_slope (slope_kept z h) ∙ h

pub slope_small : (z : ℤ) → is_slope z ≡ true → (neg_ℤ (pos 100000) ≤ℤ to_z w64 (of_z w64 z)) × (to_z w64 (of_z w64 z) ≤ℤ pos 100000)
slope_small z h = let within = slope_bounds z h in rw (slope_kept z h) within

-- the lesser or the greater of a small number and 0
pub rise_from : (m z : ℤ) → m ≡ z → IsRise z → IsRise (to_z w64 (of_z w64 m))
rise_from m z e h = subst (λ (n : ℤ). IsRise (to_z w64 (of_z w64 n))) (sym e) (subst IsRise (sym (rise_kept z h)) h)

-- a small number turned round
pub turned_kept : (r : ℤ) → IsRise r → to_z w64 (of_z w64 (pos 0 -ℤ to_z w64 (of_z w64 r))) ≡ pos 0 -ℤ r
turned_kept r h = rw (rise_kept r h) (omega (arith, ints))

pub turned_fits : (r : ℤ) → IsRise r → FitsSigned w64 (pos 0 -ℤ to_z w64 (of_z w64 r))
turned_fits r h = rw (rise_kept r h) (omega (arith, ints))

turned_rise : (r : ℤ) → IsRise r → IsRise (pos 0 -ℤ r)
turned_rise r h = (omega (arith, ints), omega (arith, ints))

pub turned_small : (r : ℤ) → IsRise r → IsRise (to_z w64 (of_z w64 (pos 0 -ℤ to_z w64 (of_z w64 r))))
turned_small r h = subst IsRise (sym (turned_kept r h)) (turned_rise r h)

-- a value and four parts
five_kept : (v a b c d t : ℤ) → IsRise v → IsRise a → IsRise b → IsRise c → IsRise d → t ≡ v +ℤ a +ℤ b +ℤ c +ℤ d → to_z w64 (of_z w64 t) ≡ v +ℤ a +ℤ b +ℤ c +ℤ d
five_kept v a b c d t hv ha hb hc hd e = omega (arith, ints)

pub total_is : (v a b c d v' a' b' c' d' t : ℤ) → IsRise v → IsRise a → IsRise b → IsRise c → IsRise d → v' ≡ v → a' ≡ a → b' ≡ b → c' ≡ c → d' ≡ d
    → t ≡ v' +ℤ a' +ℤ b' +ℤ c' +ℤ d' → to_z w64 (of_z w64 t) ≡ v +ℤ a +ℤ b +ℤ c +ℤ d
total_is v a b c d v' a' b' c' d' t hv ha hb hc hd ev ea eb ec ed e = five_kept v a b c d t hv ha hb hc hd (e ∙ rw (ev, ea, eb, ec, ed) refl)

-- the base is the value less what lies below the low corner
turned_sum : (v a b c d : ℤ) → v +ℤ (pos 0 -ℤ a) +ℤ (pos 0 -ℤ b) +ℤ (pos 0 -ℤ c) +ℤ (pos 0 -ℤ d) ≡ v -ℤ (a +ℤ b +ℤ c +ℤ d)
turned_sum v a b c d = omega (arith, ints)

pub base_is : (v a b c d t : ℤ) → is_value v ≡ true → IsRise a → IsRise b → IsRise c → IsRise d
    → t ≡ to_z w64 (of_z w64 v) +ℤ to_z w64 (of_z w64 (pos 0 -ℤ to_z w64 (of_z w64 a))) +ℤ to_z w64 (of_z w64 (pos 0 -ℤ to_z w64 (of_z w64 b))) +ℤ to_z w64 (of_z w64 (pos 0 -ℤ to_z w64 (of_z w64 c))) +ℤ to_z w64 (of_z w64 (pos 0 -ℤ to_z w64 (of_z w64 d)))
    → to_z w64 (of_z w64 t) ≡ v -ℤ (a +ℤ b +ℤ c +ℤ d)
base_is v a b c d t hv ha hb hc hd e =
    total_is v (pos 0 -ℤ a) (pos 0 -ℤ b) (pos 0 -ℤ c) (pos 0 -ℤ d) _ _ _ _ _ t (value_rise v hv) (turned_rise a ha) (turned_rise b hb) (turned_rise c hc) (turned_rise d hd) (value_kept v hv) (turned_kept a ha) (turned_kept b hb) (turned_kept c hc) (turned_kept d hd) e
    ∙ turned_sum v a b c d

-- a rise by a slope
pub rise_is : (r s : ℤ) (x : ℕ) → is_slope s ≡ true → r ≡ to_z w64 (of_z w64 s) *ℤ pos x → r ≡ s *ℤ pos x
rise_is r s x h e = e ∙ ap (λ (z : ℤ). z *ℤ pos x) (slope_kept s h)

-- the slope of a utility on an axis with several places
pub slope_is : (gives : Point → ℤ) (area : BoxN) (axis : ℕ) (high low result : ℤ) → is_value high ≡ true → is_value low ≡ true → (slice_index area.high axis - slice_index area.low axis ≡ 0 → ⊥)
    → result ≡ int_div (to_z w64 (of_z w64 high) -ℤ to_z w64 (of_z w64 low)) (pos (slice_index area.high axis - slice_index area.low axis)) → high ≡ gives (high_end area axis) → low ≡ gives (low_corner area)
    → to_z w64 (of_z w64 result) ≡ sampled_slope gives area axis
slope_is gives area axis high low result h k some e one other =
    let places = slice_index area.high axis - slice_index area.low axis in
    let several : (places == 0) ≡ false = grind (arith, nat_tests) in
    let same : result ≡ int_div (high -ℤ low) (pos places) = e ∙ ap (λ (z : ℤ). int_div (z -ℤ to_z w64 (of_z w64 low)) (pos places)) (value_kept high h) ∙ ap (λ (z : ℤ). int_div (high -ℤ z) (pos places)) (value_kept low k) in
    let small : is_slope result ≡ true = ap is_slope same ∙ by_place_small high low places h k in
    slope_kept result small ∙ (same ∙ rw (several, sym one, sym other) refl)

-- two tests, one behind the other
pub both_tests : (a b s : Bool) → a ≡ true → (a && b) ≡ s → b ≡ s
both_tests true b s e h = h
both_tests false b s e h = absurd (cc)

pub first_test : (a b s : Bool) → a ≡ false → (a && b) ≡ s → a ≡ s
first_test true b s e h = absurd (cc)
first_test false b s e h = h

-- the low end of a box of few places
pub low_few : (area : BoxN) → is_box area ≡ true → ((axis : ℕ) → axis < 4 → slice_index area.high axis < 2 ^ 28) → (axis : ℕ) → axis < 4 → slice_index area.low axis < 2 ^ 28
low_few area proper few axis h = omega (arith, low_le_high area proper axis h, few axis h)
