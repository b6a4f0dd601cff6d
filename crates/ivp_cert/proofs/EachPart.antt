-- What holds of each part of a list, one part more at a time.
use Rattle.std.proofs.Common.{◌≡◌, ℕ, ◌+◌, ◌<◌, ◌≤◌, Some, inl, inr, List, length, subst, arith}
use Rattle.std.specs.Prelude.{slice_get}
use Rattle.std.proofs.lemmas.Bool.{cases_eq}
use Rattle.std.proofs.lemmas.Option.{slice_get_within}
use Rattle.ivp_cert.specs.Printed.{AllOf}

-- each part below a place
abbrev pub Below : {X : Type 0} → (X → Type 0) → List X → ℕ → Type 0
Below {X} P xs i = (k : ℕ) (x : X) → k < i → slice_get xs k ≡ Some x → P x

pub below_none : {X : Type 0} (P : X → Type 0) (xs : List X) → Below P xs 0
below_none P xs k x within at = absurd (omega (arith, within))

pub below_more : {X : Type 0} (P : X → Type 0) (xs : List X) (i : ℕ) (y : X) → Below P xs i → slice_get xs i ≡ Some y → P y → Below P xs (i + 1)
below_more P xs i y before here holds k x within at =
    elim (cases_eq k i) [
      | inl same ↦ let found : slice_get xs i ≡ Some x = subst (λ j. slice_get xs j ≡ Some x) same at in let is : y ≡ x = cc in subst P is holds
      | inr other ↦ before k x (omega (arith, within, other)) at
    ]

pub below_all : {X : Type 0} (P : X → Type 0) (xs : List X) (i : ℕ) → length xs ≤ i → Below P xs i → AllOf P xs
below_all P xs i past below k x at = below k x (omega (arith, past, slice_get_within xs k x at)) at
