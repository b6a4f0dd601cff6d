-- Lists made over a range of numbers, and the element at a place of one.
use Rattle.std.proofs.Common.{◌≡◌, ℕ, zero, suc, ◌+◌, ◌*◌, ◌/◌, ◌%◌, ◌<◌, List, [], ◌∷◌, length, Some, refl, ap, ◌∙◌, arith, length-append}
use Rattle.std.specs.Prelude.{slice_get, slice_index}
use Rattle.std.specs.List.{flat_map}
use Rattle.std.proofs.Math.Nat.{div-lt_iff_lt-mul}
use Rattle.std.proofs.iter.runs.Lists.{nth_left, nth_right}
use Rattle.ivp_domain.specs.Boxes.{numbers_from}

pub length-numbers_from : (low n : ℕ) → length (numbers_from low n) ≡ n
length-numbers_from low zero = refl
length-numbers_from low (suc n) = ap suc (length-numbers_from (suc low) n)

-- pieces of one length
pub length-flat : {A : Type 0} (f : ℕ → List A) (m : ℕ) → ((i : ℕ) → length (f i) ≡ m) → (low n : ℕ) → length (flat_map f (numbers_from low n)) ≡ n * m
length-flat f m h low zero = omega arith
length-flat f m h low (suc n) =
    let rest = length-flat f m h (suc low) n in
    omega (arith, length-append (f low) (flat_map f (numbers_from (suc low) n)), h low, rest)

pub slice_get-numbers_from : (low n i : ℕ) → i < n → slice_get (numbers_from low n) i ≡ Some (low + i)
slice_get-numbers_from low zero i h = absurd (omega arith)
slice_get-numbers_from low (suc n) zero h = ap Some (omega arith)
slice_get-numbers_from low (suc n) (suc i) h = slice_get-numbers_from (suc low) n i (omega arith) ∙ ap Some (omega arith)

-- the r-th element of the i-th piece, where each piece has m
pub slice_get-flat : {A : Type 0} (f : ℕ → List A) (m : ℕ) → ((i : ℕ) → length (f i) ≡ m) → (low n i r : ℕ) → i < n → r < m → slice_get (flat_map f (numbers_from low n)) (i * m + r) ≡ slice_get (f (low + i)) r
slice_get-flat f m h low zero i r p q = absurd (omega arith)
slice_get-flat f m h low (suc n) zero r p q =
    let e : 0 * m + r ≡ r = omega arith in
    let e' : low + 0 ≡ low = omega arith in
    rw (e, e') (nth_left (f low) (flat_map f (numbers_from (suc low) n)) r (omega (arith, h low)))
slice_get-flat f m h low (suc n) (suc i) r p q =
    let e : suc i * m + r ≡ length (f low) + (i * m + r) = omega (arith, h low) in
    let e' : low + suc i ≡ suc low + i = omega arith in
    rw (e, e') (nth_right (f low) (flat_map f (numbers_from (suc low) n)) (i * m + r) ∙ slice_get-flat f m h (suc low) n i r (omega arith) q)

-- a list of four is its four elements
pub four : (xs : List ℕ) → length xs ≡ 4 → xs ≡ slice_index xs 0 ∷ slice_index xs 1 ∷ slice_index xs 2 ∷ slice_index xs 3 ∷ []
four (a ∷ b ∷ c ∷ d ∷ []) h = refl
four [] h = absurd (omega arith)
four (a ∷ []) h = absurd (omega arith)
four (a ∷ b ∷ []) h = absurd (omega arith)
four (a ∷ b ∷ c ∷ []) h = absurd (omega arith)
four (a ∷ b ∷ c ∷ d ∷ e ∷ xs) h = absurd (omega arith)

-- the digits of a number in mixed radix, by division
pub digits : (n a b c d : ℕ) → 0 < b → 0 < c → 0 < d → n < a * b * c * d → (n / d / c / b < a) × (((n / d / c / b * b + n / d / c % b) * c + n / d % c) * d + n % d ≡ n)
digits n a b c d p q r h =
    let e : n / d < a * b * c = (div-lt_iff_lt-mul r).1 h in
    let e' : n / d / c < a * b = (div-lt_iff_lt-mul q).1 e in
    let e'' : n / d / c / b < a = (div-lt_iff_lt-mul p).1 e' in
    let m : n / d / c / b * b + n / d / c % b ≡ n / d / c = omega arith in
    let m' : n / d / c * c + n / d % c ≡ n / d = omega arith in
    let m'' : n / d * d + n % d ≡ n = omega arith in
    (e'', rw (m, m', m'') refl)

-- a number below a product has factors to be below
pub factors : (n a b c d : ℕ) → n < a * b * c * d → (0 < b) × (0 < c) × (0 < d)
factors n a zero c d h = absurd (omega arith)
factors n a (suc b) zero d h = absurd (omega arith)
factors n a (suc b) (suc c) zero h = absurd (omega arith)
factors n a (suc b) (suc c) (suc d) h = (omega arith, omega arith, omega arith)
