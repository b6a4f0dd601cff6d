-- The sums of the weighted tops of the terms from each number on, found from the last term to the first.
use Rattle.std.proofs.Common.{◌≡◌, ℕ, ◌+◌, ◌<◌, ◌≤◌, Some, List, length, drop, get_or, set, replicate, inl, inr, sym, subst, ◌∙◌, arith}
use Rattle.std.specs.Prelude.{slice_get}
use Rattle.std.specs.List.{sum_by}
use Rattle.std.proofs.lemmas.Bool.{cases_eq}
use Rattle.std.proofs.lemmas.List.{at_drop_all, get_or-replicate, get_or-set_other, get_or-set_same}
use Rattle.std.proofs.lemmas.List.Sums.{sum_by-cons}
use Rattle.ivp_problem.specs.declared.term.Term.{Term}
use Rattle.ivp_problem.specs.Trees.{own_top}
use Rattle.ivp_problem.proofs.Makes.{drop_at}

-- each of these from a place on is the sum from there on
abbrev pub TopsFrom : List Term → List ℕ → ℕ → Type 0
TopsFrom terms tops place = (from : ℕ) → place ≤ from → from ≤ length terms → get_or tops from 0 ≡ sum_by own_top (drop from terms)

-- past the last term each sum is 0
pub tops_past : (terms : List Term) → length terms ≤ 64 → TopsFrom terms (replicate 65 0) (length terms)
tops_past terms few from past within = get_or-replicate 65 from 0 0 (omega arith) ∙ sym (at_drop_all (sum_by own_top) terms from past)

-- and one place before, the top there is added to the sum behind it
pub tops_before : (terms : List Term) (tops : List ℕ) (place top : ℕ) (term : Term) → slice_get terms place ≡ Some term → top ≡ own_top term → place < length terms → place < length tops → TopsFrom terms tops (place + 1) → TopsFrom terms (set tops place (get_or tops (place + 1) 0 + top)) place
tops_before terms tops place top term here same within room behind from past few =
    elim (cases_eq from place) [
      | inl at ↦ subst (λ k. get_or (set tops place (get_or tops (place + 1) 0 + top)) k 0 ≡ sum_by own_top (drop k terms)) (sym at) first
      | inr other ↦ get_or-set_other tops place from (get_or tops (place + 1) 0 + top) 0 other ∙ behind from (omega arith) few
    ]
  where
    first : get_or (set tops place (get_or tops (place + 1) 0 + top)) place 0 ≡ sum_by own_top (drop place terms)
    first =
        let rest = behind (place + 1) (omega arith) (omega arith) in
        let whole = sum_by-cons own_top term (drop (place + 1) terms) in
        rw (drop_at terms place term here) (get_or-set_same tops place (get_or tops (place + 1) 0 + top) 0 room ∙ omega (arith, whole, rest, same))
