-- The digits of the next number are those of a number whose last digit isn't a 9, with a last digit above by one.
use Rattle.std.proofs.Common.{◌≡◌, ℕ, ◌+◌, ◌-◌, ◌/◌, ◌%◌, ◌^◌, ◌<◌, List, [], ◌∷◌, ◌++◌, drop, get_or, length, set, inl, inr, ap, sym, ◌∙◌, arith, decimal, eq-zero-or-pos, length-append, length-drop}
use Rattle.std.proofs.lemmas.Fmt.{decimal_digit, decimal_nonempty, decimal_step}
use Rattle.std.proofs.lemmas.List.{drop-set-add, get_or-drop, get_or_at, set_at}

-- the last digit is raised by one
last_up : (digits front : List ℕ) (last k : ℕ) → digits ≡ front ++ (48 + last) ∷ [] → length digits ≡ k + 1 → get_or digits k 0 < 57
    → (last < 9) × (set digits k (get_or digits k 0 + 1) ≡ front ++ (48 + last + 1) ∷ [])
last_up digits front last k is long low =
    let behind : length front ≡ k = omega (arith, long, ap length is, length-append front ((48 + last) ∷ [])) in
    let there : get_or digits k 0 ≡ 48 + last = ap (λ digits. get_or digits k 0) is ∙ get_or_at front (48 + last) [] 0 k behind in (
      omega (arith, there, low),
      (λ i. set (is i) k (there i + 1)) ∙ set_at front (48 + last) [] (48 + last + 1) k behind,
    )

next_digits : (number k : ℕ) → number + 1 < 2 ^ 64 → length (decimal number) ≡ k + 1 → get_or (decimal number) k 0 < 57 → set (decimal number) k (get_or (decimal number) k 0 + 1) ≡ decimal (number + 1)
next_digits number k few long low =
    elim (eq-zero-or-pos (10 - number)) [
      | inl large ↦
          let up = last_up (decimal number) (decimal (number / 10)) (number % 10) k (decimal_step number (omega (arith, large)) (omega (arith, few))) long low in
          let tens : number / 10 ≡ (number + 1) / 10 = omega (arith, up.0) in
          let ones : 48 + number % 10 + 1 ≡ 48 + (number + 1) % 10 = omega (arith, up.0) in
          up.1 ∙ (λ i. decimal (tens i) ++ (ones i) ∷ []) ∙ sym (decimal_step (number + 1) (omega (arith, large)) few)
      | inr small ↦
          let up = last_up (decimal number) [] number k (decimal_digit number (omega (arith, small))) long low in
          let ones : 48 + number + 1 ≡ 48 + (number + 1) = omega arith in
          up.1 ∙ ap (λ digit. digit ∷ []) ones ∙ sym (decimal_digit (number + 1) (omega (arith, up.0)))
    ]

-- the same of digits that stand at the end of 20 bytes
pub counted_up : (digits : List ℕ) (start number : ℕ) → length digits ≡ 20 → drop start digits ≡ decimal number → number + 1 < 2 ^ 64 → get_or digits 19 0 < 57
    → drop start (set digits 19 (get_or digits 19 0 + 1)) ≡ decimal (number + 1)
counted_up digits start number long is few low =
    let size : length (decimal number) ≡ 20 - start = sym (ap length is) ∙ length-drop start digits ∙ ap (λ n. n - start) long in
    let k = 19 - start in
    let place : 19 ≡ start + k = omega (arith, size, decimal_nonempty number (omega (arith, few))) in
    let there : get_or digits 19 0 ≡ get_or (decimal number) k 0 = ap (λ n. get_or digits n 0) place ∙ sym (get_or-drop start digits k 0) ∙ ap (λ digits. get_or digits k 0) is in
    (λ i. drop start (set digits (place i) (there i + 1))) ∙ drop-set-add start digits k (get_or (decimal number) k 0 + 1) ∙ ap (λ digits. set digits k (get_or (decimal number) k 0 + 1)) is
    ∙ next_digits number k few (omega (arith, size, place)) (omega (arith, there, low))
