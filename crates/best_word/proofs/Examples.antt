-- The definitions on a worked example: one function over two points, of value 5 and 6.
use Rattle.std.proofs.Common.{◌≡◌, ℕ, zero, suc, inl, inr, Some, pos, List, [], ◌∷◌, length, refl, sym, ap, subst, arith}
use mathlib.Core.Option.{some, none as silent}
use lib.ListN.{get_elem?}
use Rattle.atomic_table.specs.Table.{Me, State, Step, step}
use Rattle.std.specs.Prelude.{codes, slice_get}
use Rattle.ivp_domain.specs.declared.axis.Axis.{Axis}
use Rattle.ivp_domain.specs.Boxes.{point_from}
use Rattle.ivp_domain.specs.Domains.{points_of, whole}
use Rattle.ivp_func.specs.declared.piece.Piece.{Piece}
use Rattle.ivp_problem.specs.Found.{IsKnownSum}
use Rattle.ivp_problem.specs.Problems.{WeightedSum}
use Rattle.ivp_problem.specs.Sums.{sum_at}
use Rattle.ivp_problem.proofs.Terms.{at_places, listed_at, weighted_sums_places}
use Rattle.best_word.specs.declared.best.View.{View}
use Rattle.best_word.specs.Known.{first_scout, IsScoutOf, joined_scout, WordRule, Looks, Raises, spent_scout}

abbrev axes : List Axis
axes = record { name = codes "a"; low = pos 0; high = pos 1000; points = 2 } ∷ []

abbrev rising : Piece
rising = record { area = record { low = 0 ∷ 0 ∷ 0 ∷ 0 ∷ []; high = 1 ∷ 0 ∷ 0 ∷ 0 ∷ [] }; base = pos 5; slope = pos 1 ∷ pos 0 ∷ pos 0 ∷ pos 0 ∷ [] }

abbrev one : WeightedSum
one = record { axes = axes; terms = record { weight = 1; func = record { axes = axes; pieces = rising ∷ [] } } ∷ [] }

-- nothing was offered yet, or the sum of a point was
nothing_known : IsKnownSum one 0
nothing_known = inl refl

first_known : IsKnownSum one 5
first_known = inr (point_from 0 0 0 0, refl, refl)

last_known : IsKnownSum one 6
last_known = inr (point_from 1 0 0 0, refl, refl)

-- a scout of the problem that knows so much
abbrev knows : ℕ → View
knows low = record { about = Some one; low = low }

-- it fits a word that holds as much, and none that holds less
fits : IsScoutOf one 7 (first_scout one) × IsScoutOf one 7 (knows 7) × IsScoutOf one 0 spent_scout
fits = (inr (refl, omega arith), inr (refl, omega arith), inl refl)

too_much : IsScoutOf one 6 (knows 7) → ⊥
too_much (inl none) = absurd (cc)
too_much (inr of) = let low = of.1 in absurd (omega arith)

-- of two scouts the one that stays knows the greater
taken_in : (joined_scout (knows 3) (knows 7) ≡ knows 7) × (joined_scout (knows 7) (knows 3) ≡ knows 7)
taken_in = (refl, refl)

-- no point has the sum 1
no_sum : IsKnownSum one 1 → ⊥
no_sum (inl empty) = absurd (omega arith)
no_sum (inr (p, inside, is)) = let at = listed_at (whole axes) p inside in by at.0 at.1
  where
    by : (n : ℕ) → slice_get (points_of axes) n ≡ Some (at_places p) → ⊥
    by zero e =
        let same : point_from 0 0 0 0 ≡ at_places p = cc in
        let five : sum_at one (at_places p) ≡ 5 = ap (sum_at one) (sym same) in
        absurd (omega (arith, five, weighted_sums_places one.terms p, is))
    by (suc zero) e =
        let same : point_from 1 0 0 0 ≡ at_places p = cc in
        let six : sum_at one (at_places p) ≡ 6 = ap (sum_at one) (sym same) in
        absurd (omega (arith, six, weighted_sums_places one.terms p, is))
    by (suc (suc n)) e = absurd (cc)

-- the rule of the word: it holds the last point's sum, of which no scout knows more; a spent one knows nothing
abbrev word : List ℕ → List View → State (Unit {0}) View
word words views = record { words = words; homes = []; views = views }

kept : WordRule one (word (6 ∷ []) (knows 6 ∷ spent_scout ∷ []))
kept = record { word = 6; words = refl; known = last_known; each = each }
  where
    each : (seat : ℕ) (v : View) → get_elem? (knows 6 ∷ spent_scout ∷ []) seat ≡ some v → IsScoutOf one 6 v
    each zero v here = let same : knows 6 ≡ v = cc in subst (IsScoutOf one 6) same (inr (refl, omega arith))
    each (suc zero) v here = let same : spent_scout ≡ v = cc in subst (IsScoutOf one 6) same (inl refl)
    each (suc (suc seat)) v here = cc

knows_too_much : WordRule one (word (5 ∷ []) (knows 6 ∷ [])) → ⊥
knows_too_much is =
    let holds : is.word ≡ 5 = cc is.words in
    elim (is.each 0 (knows 6) refl) [
      | inl empty ↦ absurd (cc)
      | inr of ↦ let low = of.1 in absurd (omega arith)
    ]

-- nor does a second word stand beside it, or one hold what is no point's sum
two_words : WordRule one (word (0 ∷ 0 ∷ []) []) → ⊥
two_words is = absurd (omega (arith, ap length is.words))

holds_no_sum : WordRule one (word (1 ∷ []) []) → ⊥
holds_no_sum is = let holds : is.word ≡ 1 = cc is.words in no_sum (subst (IsKnownSum one) holds is.known)

-- a scout with so much before it, and the steps that it makes at the only word
abbrev scout : ℕ → Me (Unit {0}) View
scout low = (knows low, [])

abbrev low_of : Me (Unit {0}) View → ℕ
low_of me = me.0.low

abbrev offers : ℕ → Step (Unit {0})
offers sum = step 0 0 sum 0 silent

-- it looks at a word that holds the last point's sum, which becomes its own
looked : Looks (offers 0) (scout 0) 6 (scout 6)
looked problem about = let same : one ≡ problem = cc in (refl, omega arith, subst (λ p. IsKnownSum p 6) same last_known)

-- but not where the scout knew more, where what the word holds doesn't become its own, or is no point's sum
looked_lower : Looks (offers 0) (scout 6) 5 (scout 5) → ⊥
looked_lower is = absurd (omega (arith, (is one refl).1))

looked_away : Looks (offers 0) (scout 0) 6 (scout 5) → ⊥
looked_away is = absurd (omega (arith, ap low_of (is one refl).0))

looked_at_no_sum : Looks (offers 0) (scout 0) 1 (scout 1) → ⊥
looked_at_no_sum is = no_sum (is one refl).2

-- it offers the first point's sum, and then the last one's, of which it knows the greater in both orders
offered : Raises (offers 6) (scout 0) 5 (scout 6) × Raises (offers 5) (scout 0) 6 (scout 6)
offered = (
  λ problem about. let same : one ≡ problem = cc in (refl, omega arith, subst (λ p. IsKnownSum p 5) same first_known),
  λ problem about. let same : one ≡ problem = cc in (refl, omega arith, subst (λ p. IsKnownSum p 6) same last_known),
)

-- but not the lesser one, whether that is what it offered or what the word held
offered_the_lesser : Raises (offers 5) (scout 0) 6 (scout 5) → ⊥
offered_the_lesser is = absurd (omega (arith, ap low_of (is one refl).0))

found_the_lesser : Raises (offers 6) (scout 0) 5 (scout 5) → ⊥
found_the_lesser is = absurd (omega (arith, ap low_of (is one refl).0))

-- of the looks of a spent scout nothing is said, and none are made: a scout that looks is one of a problem
spent_looks : Looks (offers 0) (spent_scout, []) 3 (scout 9)
spent_looks problem about = cc
