-- What a star lets through. No lemma here speaks of the program.
use Rattle.std.proofs.Common.{◌≡◌, ℕ, true, false, ◌||◌, ◌&&◌, List, [], ◌∷◌, refl, ap, inl, inr, arith}
use Rattle.std.specs.Prelude.{◌==◌}
use Rattle.std.specs.List.{list_all}
use Rattle.std.proofs.lemmas.Bool.{or_cases, or_left, or_right}
use Rattle.moos_post.specs.Patterns.{matches}

-- a star may take nothing
pub takes_nothing : (p s : List ℕ) → matches p s ≡ true → matches (42 ∷ p) s ≡ true
takes_nothing p [] h = h
takes_nothing p (b ∷ s) h = or_left (matches p (b ∷ s)) (matches (42 ∷ p) s) h

-- two stars in a row let through what one does
pub two_stars : (p s : List ℕ) → matches (42 ∷ 42 ∷ p) s ≡ true → matches (42 ∷ p) s ≡ true
two_stars p [] h = h
two_stars p (b ∷ s) h =
    elim (or_cases (matches (42 ∷ p) (b ∷ s)) (matches (42 ∷ 42 ∷ p) s) h) [
      | inl e ↦ e
      | inr e ↦ or_right (matches p (b ∷ s)) (matches (42 ∷ p) s) (two_stars p s e)
    ]

-- nothing is left of the name, so each sign has to be a star
pub all_stars : (p : List ℕ) → list_all (λ sign. sign == 42) p ≡ matches p []
all_stars [] = refl
all_stars (c ∷ p) = ap (λ b. (c == 42) && b) (all_stars p)

-- a sign that takes the first byte leaves the rest to the others
pub sign_takes : (c b : ℕ) (p s : List ℕ)
    → (c == 42) ≡ false → (c == 63 || c == b) ≡ true → matches (c ∷ p) (b ∷ s) ≡ matches p s
sign_takes c b p s sign takes = grind arith

rest_matches : (c b : ℕ) (p s : List ℕ) → (c == 42) ≡ false → matches (c ∷ p) (b ∷ s) ≡ true → matches p s ≡ true
rest_matches c b p s sign h = grind arith

-- a star and then a sign let through, behind any one byte, no more than the star behind that sign
pub star_past : (c b : ℕ) (p s : List ℕ)
    → (c == 42) ≡ false → matches (42 ∷ c ∷ p) (b ∷ s) ≡ true → matches (42 ∷ p) s ≡ true
star_past c b p [] sign h =
    elim (or_cases (matches (c ∷ p) (b ∷ [])) (matches (42 ∷ c ∷ p) []) h) [
      | inl e ↦ rest_matches c b p [] sign e
      | inr e ↦ grind arith
    ]
star_past c b p (x ∷ s) sign h =
    elim (or_cases (matches (c ∷ p) (b ∷ x ∷ s)) (matches (42 ∷ c ∷ p) (x ∷ s)) h) [
      | inl e ↦ or_left (matches p (x ∷ s)) (matches (42 ∷ p) s) (rest_matches c b p (x ∷ s) sign e)
      | inr e ↦ or_right (matches p (x ∷ s)) (matches (42 ∷ p) s) (star_past c x p s sign e)
    ]
