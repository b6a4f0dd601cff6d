-- The last place of a list of numbers that passes a test, and the first.
use Rattle.std.proofs.Common.{◌≡◌, ℕ, Bool, zero, suc, false, ◌+◌, ◌-◌, ◌*◌, ◌/◌, ◌<◌, ◌≤◌, ◌⊎◌, inl, inr, Option, Some, None, refl, sym, ◌∙◌, ap, arith}
use Rattle.std.proofs.Math.Nat.{le-div_iff_mul-le, mul-le-mul}
use Rattle.std.proofs.lemmas.Bool.{cases_lt, lt-ltb, le-ltb}
use Rattle.std.specs.List.{last_or}
use Rattle.std.proofs.Common.{ℤ, pos, ◌+ℤ◌}
use Rattle.std.proofs.lemmas.Bool.Decides.{nat_tests}
use Rattle.std.proofs.lemmas.Int.{ints}
use Rattle.ivp_domain.specs.declared.axis.Axis.{Axis}
use Rattle.ivp_domain.specs.Axes.{value_on}
use Rattle.ivp_build.specs.Places.{first_from, last_up_to}
use Rattle.std.specs.Prelude.{int_le, int_lt, filter, find, nat_lt, not, unwrap_or, min}
use Rattle.ivp_domain.specs.Boxes.{numbers_from}

none_kept : (t : ℕ → Bool) (o : Option ℕ) (low count : ℕ) → ((x : ℕ) → low ≤ x → x < low + count → t x ≡ false) → last_or o (filter t (numbers_from low count)) ≡ o
none_kept t o low zero off = refl
none_kept t o low (suc count) off = rw (off low (omega arith) (omega arith)) (none_kept t o (suc low) count (λ x h h'. off x (omega arith) (omega arith)))

last_kept : (t : ℕ → Bool) (n : ℕ) (o : Option ℕ) (low count : ℕ) → ((x : ℕ) → low ≤ x → x < low + count → t x ≡ nat_lt x n) → n ≤ low + count → low < n
    → last_or o (filter t (numbers_from low count)) ≡ Some (n - 1)
last_kept t n o low zero same within some = absurd (omega arith)
last_kept t n o low (suc count) same within some =
    rw (same low (omega arith) (omega arith) ∙ lt-ltb low n some) (elim (cases_lt (suc low) n) [
      | inl more ↦ last_kept t n (Some low) (suc low) count (λ x h h'. same x (omega arith) (omega arith)) (omega arith) more
      | inr done ↦ none_kept t (Some low) (suc low) count (λ x h h'. same x (omega arith) (omega arith) ∙ le-ltb x n (omega arith)) ∙ ap (λ k. Some k) (omega arith)
    ])

-- where the test holds below n
pub last_below : (t : ℕ → Bool) (n count : ℕ) → ((x : ℕ) → x < count → t x ≡ nat_lt x n) → n ≤ count → unwrap_or (last_or None (filter t (numbers_from 0 count))) 0 ≡ n - 1
last_below t n count same within = by (cases_lt 0 n)
  where
    by : (0 < n) ⊎ (n ≤ 0) → unwrap_or (last_or None (filter t (numbers_from 0 count))) 0 ≡ n - 1
    by (inl some) = ap (λ o. unwrap_or o 0) (last_kept t n None 0 count (λ x h h'. same x (omega arith)) (omega arith) some)
    by (inr none) = ap (λ o. unwrap_or o 0) (none_kept t None 0 count (λ x h h'. same x (omega arith) ∙ le-ltb x n (omega arith))) ∙ omega arith

first_kept : (t : ℕ → Bool) (n low count : ℕ) → ((x : ℕ) → low ≤ x → x < low + count → t x ≡ not (nat_lt x n)) → low ≤ n → n < low + count → find t (numbers_from low count) ≡ Some n
first_kept t n low zero same h within = absurd (omega arith)
first_kept t n low (suc count) same h within = elim (cases_lt low n) [
  | inl before ↦ rw (same low (omega arith) (omega arith) ∙ ap not (lt-ltb low n before)) (first_kept t n (suc low) count (λ x h h'. same x (omega arith) (omega arith)) before (omega arith))
  | inr there ↦ rw (same low (omega arith) (omega arith) ∙ ap not (le-ltb low n there)) (ap (λ k. Some k) (omega arith))
]

none_found : (t : ℕ → Bool) (low count : ℕ) → ((x : ℕ) → low ≤ x → x < low + count → t x ≡ false) → find t (numbers_from low count) ≡ None
none_found t low zero off = refl
none_found t low (suc count) off = rw (off low (omega arith) (omega arith)) (none_found t (suc low) count (λ x h h'. off x (omega arith) (omega arith)))

-- where it holds from n on
pub first_above : (t : ℕ → Bool) (n count : ℕ) → ((x : ℕ) → x < count → t x ≡ not (nat_lt x n)) → n ≤ count → 0 < count → unwrap_or (find t (numbers_from 0 count)) (count - 1) ≡ min n (count - 1)
first_above t n count same within some = by (cases_lt n count)
  where
    by : (n < count) ⊎ (count ≤ n) → unwrap_or (find t (numbers_from 0 count)) (count - 1) ≡ min n (count - 1)
    by (inl inside) = ap (λ o. unwrap_or o (count - 1)) (first_kept t n 0 count (λ x h h'. same x (omega arith)) (omega arith) (omega arith)) ∙ omega arith
    by (inr outside) = ap (λ o. unwrap_or o (count - 1)) (none_found t 0 count (λ x h h'. same x (omega arith) ∙ ap not (lt-ltb x n (omega arith)))) ∙ omega arith

-- below a part of a span: a product with the span, and not a quotient
pub below_part : (part last span place : ℕ) → 0 < part → 0 < last → 0 < span → nat_lt place ((part * last - 1) / span + 1) ≡ nat_lt (place * span / last) part
below_part part last span place p l s =
    let to = le-div_iff_mul-le {k = span} {x = place} {y = part * last - 1} s in
    let back = le-div_iff_mul-le {k = last} {x = part} {y = place * span} l in
    let some = mul-le-mul {n₁ = 1} {m₁ = 1} {n₂ = part} {m₂ = last} p l in
    elim (cases_lt (place * span / last) part) [
      | inl below ↦ elim (cases_lt (place * span) (part * last)) [
        | inl less ↦ let within = to.1 (omega arith) in lt-ltb place ((part * last - 1) / span + 1) (omega arith) ∙ sym (lt-ltb (place * span / last) part below)
        | inr more ↦ let above = back.1 more in absurd (omega arith)
      ]
      | inr above ↦ elim (cases_lt place ((part * last - 1) / span + 1)) [
        | inl within ↦ let less = to.0 (omega arith) in let more = back.0 above in absurd (omega arith)
        | inr past ↦ le-ltb place ((part * last - 1) / span + 1) past ∙ sym (le-ltb (place * span / last) part above)
      ]
    ]

at_most_test : (v limit : ℤ) → int_le v limit ≡ int_lt v (limit +ℤ pos 1)
at_most_test v limit = grind (arith, nat_tests, ints)

at_least_test : (v limit : ℤ) → int_le limit v ≡ not (int_lt v limit)
at_least_test v limit = grind (arith, nat_tests, ints)

-- the last place up to a limit and the first from it, where so many places are below
pub last_is : (axis : Axis) (limit : ℤ) (n : ℕ) → ((place : ℕ) → place < axis.points → nat_lt place n ≡ int_lt (value_on axis place) (limit +ℤ pos 1)) → n ≤ axis.points → n - 1 ≡ last_up_to axis limit
last_is axis limit n each within =
    sym (last_below (λ place. int_le (value_on axis place) limit) n axis.points (λ x h. at_most_test (value_on axis x) limit ∙ sym (each x h)) within)

pub first_is : (axis : Axis) (limit : ℤ) (n : ℕ) → ((place : ℕ) → place < axis.points → nat_lt place n ≡ int_lt (value_on axis place) limit) → n ≤ axis.points → 0 < axis.points
    → min n (axis.points - 1) ≡ first_from axis limit
first_is axis limit n each within some =
    sym (first_above (λ place. int_le limit (value_on axis place)) n axis.points (λ x h. at_least_test (value_on axis x) limit ∙ ap not (sym (each x h))) within some)
