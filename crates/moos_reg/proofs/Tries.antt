-- What stays true while a pattern is tried against a name: why the latest star alone needs to be tried again.
use Rattle.std.proofs.Common.{◌≡◌, ℕ, ◌-◌, ◌<◌, ◌≤◌, Bool, true, false, ◌||◌, List, [], ◌∷◌, length, get_or, take, drop, ap, sym, ◌∙◌, subst, inl, inr, arith}
use Rattle.std.specs.Prelude.{◌==◌, Option, Some, None}
use Rattle.std.specs.List.{list_all}
use Rattle.std.proofs.lemmas.Bool.{cases_Bool, or_parts, ne_eqb}
use Rattle.std.proofs.lemmas.List.{take_all, length-take}
use Rattle.moos_post.specs.Patterns.{matches}
use Rattle.moos_reg.specs.declared.matching.Star.{Star}
use Rattle.moos_reg.proofs.Stars.{takes_nothing, two_stars, all_stars, sign_takes, star_past}

-- what later tries at a star let through, in which it takes one byte more at least
abbrev pub later_at : List ℕ → List ℕ → Bool
later_at after [] = false
later_at after (b ∷ from) = matches (42 ∷ after) from

abbrev pub later : Option Star → Bool
later None = false
later (Some star) = later_at star.after.now star.from.now

-- how much of the name is left to the latest star, or all of it
abbrev pub room : ℕ → Option Star → ℕ
room all None = all
room all (Some star) = length star.from.now

-- how much of the pattern stands behind the latest star
abbrev pub behind : Option Star → ℕ
behind None = 0
behind (Some star) = length star.after.now

-- The pattern p matches the name s where this try comes to its end or a later one does. And what s lets p match lets
-- it match by this try too, once a star stands before what is left of it: so no earlier star is needed any more.
pub record Tries (p s left rest : List ℕ) (more : Bool) : Type 0 where
  pub whole : matches p s ≡ matches left rest || more
  pub onward : matches p s ≡ true → matches (42 ∷ left) rest ≡ true

pub at_first : (p s : List ℕ) → Tries p s p s false
at_first p s = record { whole = grind arith; onward = takes_nothing p s }

-- the try decides where a star before what is left of the pattern would change nothing
decides : (p s left rest : List ℕ) (more : Bool) → Tries p s left rest more
    → (matches (42 ∷ left) rest ≡ true → matches left rest ≡ true) → matches p s ≡ matches left rest
decides p s left rest more t same =
    elim (cases_Bool (matches p s)) [
      | inl holds ↦ holds ∙ sym (same (t.onward holds))
      | inr fails ↦ fails ∙ sym (or_parts (matches left rest) more (sym t.whole ∙ fails)).0
    ]

-- all of a list but its first element
abbrev pub tail : List ℕ → List ℕ
tail xs = take (length xs - 1) (drop 1 xs)

tail_is : (x : ℕ) (xs : List ℕ) → tail (x ∷ xs) ≡ xs
tail_is x xs = take_all (length (x ∷ xs) - 1) xs (omega arith)

pub tail_within : (xs : List ℕ) (n : ℕ) → length xs ≤ n → length (tail xs) ≤ n
tail_within xs n h = omega (arith, length-take (length xs - 1) (drop 1 xs))

-- at a star a new try begins behind it
pub at_star : (p s left rest : List ℕ) (more : Bool) → 1 ≤ length left → 1 ≤ length rest → get_or left 0 0 ≡ 42
    → Tries p s left rest more → Tries p s (tail left) rest (later_at (tail left) rest)
at_star p s [] rest more some_left some_rest star t = absurd (omega arith)
at_star p s (c ∷ left) [] more some_left some_rest star t = absurd (omega arith)
at_star p s (c ∷ left) (b ∷ rest) more some_left some_rest star t =
    let met : Tries p s (42 ∷ left) (b ∷ rest) more = subst (λ v. Tries p s (v ∷ left) (b ∷ rest) more) star t in
    let all : matches p s ≡ matches (42 ∷ left) (b ∷ rest) = decides p s (42 ∷ left) (b ∷ rest) more met (two_stars left (b ∷ rest)) in
    subst (λ v. Tries p s v (b ∷ rest) (later_at v (b ∷ rest))) (sym (tail_is c left))
    (record { whole = all; onward = λ holds. sym all ∙ holds })

-- at a sign that takes the next byte the try goes on
pub at_sign : (p s left rest : List ℕ) (more : Bool) → 1 ≤ length left → 1 ≤ length rest → (get_or left 0 0 ≡ 42 → ⊥)
    → (get_or left 0 0 == 63 || get_or left 0 0 == get_or rest 0 0) ≡ true
    → Tries p s left rest more → Tries p s (tail left) (tail rest) more
at_sign p s [] rest more some_left some_rest sign takes t = absurd (omega arith)
at_sign p s (c ∷ left) [] more some_left some_rest sign takes t = absurd (omega arith)
at_sign p s (c ∷ left) (b ∷ rest) more some_left some_rest sign takes t =
    rw (tail_is c left, tail_is b rest)
    (record {
      whole = t.whole ∙ ap (λ v. v || more) (sign_takes c b left rest (ne_eqb c 42 sign) takes);
      onward = λ holds. star_past c b left rest (ne_eqb c 42 sign) (t.onward holds);
    })

-- at the name's end the try decides
pub at_end : (p s left rest : List ℕ) (more : Bool) → length rest < 1 → Tries p s left rest more
    → list_all (λ sign. sign == 42) left ≡ matches p s
at_end p s left [] more none t = all_stars left ∙ sym (decides p s left [] more t (λ holds. holds))
at_end p s left (b ∷ rest) more none t = absurd (omega arith)
