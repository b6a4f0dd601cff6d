-- Ways round a circle of 360 degrees, in thousandths.
use Rattle.std.proofs.Common.{◌≡◌, ℕ, zero, suc, false, ◌+◌, ◌-◌, ◌/◌, ◌%◌, ◌<◌, ◌≤◌, ◌⊎◌, inl, inr, ℤ, pos, negsuc, ◌-ℤ◌, nat_abs, refl, sym, ◌∙◌, ap, arith}
use Rattle.std.proofs.Math.Nat.{mod-eq_of_lt}
use Rattle.std.proofs.lemmas.Bool.{cases_lt, lt-ltb, le-ltb}
use Rattle.std.proofs.lemmas.Bool.Decides.{nat_tests}
use Rattle.std.proofs.lemmas.Int.{ints}
use Rattle.std.proofs.lemmas.Nat.{div-add-mod', mod-mul-add}
use Rattle.std.specs.Int.{abs_diff}
use Rattle.std.specs.Prelude.{int_lt, min}
use Rattle.ivp_build.specs.Places.{course_of, shorter_way}

-- round a circle
way_is : (w x d : ℕ) → w % 360000 ≡ x → (x ≡ d) ⊎ (x + d ≡ 360000) → shorter_way 360000 w ≡ min d (360000 - d)
way_is w x d e (inl same) = ap (λ y. min y (360000 - y)) (e ∙ same)
way_is w x d e (inr other) = ap (λ y. min y (360000 - y)) e ∙ omega arith

not_negative : (a : ℕ) → int_lt (pos a) (pos 0) ≡ false
not_negative a = grind (arith, nat_tests, ints)

course_up : (a : ℕ) → course_of (pos a) ≡ a % 360000
course_up a = rw (not_negative a) refl

course_down : (a : ℕ) → 0 < suc a % 360000 → course_of (negsuc a) ≡ 360000 - suc a % 360000
course_down a h = rw (lt-ltb 0 (suc a % 360000) h) refl

course_none : (a : ℕ) → suc a % 360000 ≤ 0 → course_of (negsuc a) ≡ suc a % 360000
course_none a h = rw (le-ltb 0 (suc a % 360000) h) refl

gap_up : (v a : ℕ) → nat_abs (pos v -ℤ pos a) ≡ abs_diff v a
gap_up v a = grind (arith, ints)

gap_down : (v a : ℕ) → nat_abs (pos v -ℤ negsuc a) ≡ v + suc a
gap_down v a = grind (arith, ints)

way_up : (v a r : ℕ) → v < 360000 → a % 360000 ≡ r → shorter_way 360000 (abs_diff v a) ≡ min (abs_diff v r) (360000 - abs_diff v r)
way_up v a r h e =
    let whole = div-add-mod' a 360000 in
    let below : a % 360000 < 360000 = omega arith in
    elim (cases_lt v a) [
      | inr up ↦
          let same : a % 360000 ≡ a = mod-eq_of_lt (omega arith) in
          way_is (abs_diff v a) (v - a) (abs_diff v r) (ap (λ w. w % 360000) (omega arith) ∙ mod-eq_of_lt (omega arith)) (inl (omega arith))
      | inl down ↦ elim (cases_lt r v) [
        | inr before ↦ way_is (abs_diff v a) (r - v) (abs_diff v r) (ap (λ w. w % 360000) (omega arith) ∙ mod-mul-add (a / 360000) 360000 (r - v) (omega arith)) (inl (omega arith))
        | inl past ↦ way_is (abs_diff v a) (360000 - (v - r)) (abs_diff v r) (ap (λ w. w % 360000) (omega arith) ∙ mod-mul-add (a / 360000 - 1) 360000 (360000 - (v - r)) (omega arith)) (inr (omega arith))
      ]
    ]

way_down : (v n r : ℕ) → v < 360000 → ((n % 360000 ≡ 0) × (r ≡ 0)) ⊎ ((0 < n % 360000) × (r ≡ 360000 - n % 360000)) → shorter_way 360000 (v + n) ≡ min (abs_diff v r) (360000 - abs_diff v r)
way_down v n r h (inl none) =
    let whole = div-add-mod' n 360000 in
    let part = none.0 in
    let zero' = none.1 in
    way_is (v + n) v (abs_diff v r) (ap (λ w. w % 360000) (omega arith) ∙ mod-mul-add (n / 360000) 360000 v h) (inl (omega arith))
way_down v n r h (inr some) =
    let whole = div-add-mod' n 360000 in
    let part = some.0 in
    let rest = some.1 in
    let below : n % 360000 < 360000 = omega arith in
    elim (cases_lt (v + n % 360000) 360000) [
      | inl within ↦ way_is (v + n) (v + n % 360000) (abs_diff v r) (ap (λ w. w % 360000) (omega arith) ∙ mod-mul-add (n / 360000) 360000 (v + n % 360000) within) (inr (omega arith))
      | inr past ↦ way_is (v + n) (v + n % 360000 - 360000) (abs_diff v r)
          (ap (λ w. w % 360000) (omega arith) ∙ mod-mul-add (n / 360000 + 1) 360000 (v + n % 360000 - 360000) (omega arith)) (inl (omega arith))
    ]

pub circle_way : (v : ℕ) (number : ℤ) → v < 360000 → shorter_way 360000 (nat_abs (pos v -ℤ number)) ≡ min (abs_diff v (course_of number)) (360000 - abs_diff v (course_of number))
circle_way v (pos a) h = ap (shorter_way 360000) (gap_up v a) ∙ way_up v a (course_of (pos a)) h (sym (course_up a))
circle_way v (negsuc a) h =
    ap (shorter_way 360000) (gap_down v a) ∙ way_down v (suc a) (course_of (negsuc a)) h (elim (cases_lt 0 (suc a % 360000)) [
      | inl some ↦ inr (some, course_down a some)
      | inr none ↦ let zero' : suc a % 360000 ≡ 0 = omega arith in inl (zero', course_none a none ∙ zero')
    ])

pub course_within : (number : ℤ) → course_of number < 360000
course_within (pos a) = let e = course_up a in omega arith
course_within (negsuc a) = elim (cases_lt 0 (suc a % 360000)) [
  | inl some ↦ let e = course_down a some in omega arith
  | inr none ↦ let e = course_none a none in omega arith
]
