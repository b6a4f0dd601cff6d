-- When terms make a problem, and what then holds of them.
use Rattle.std.proofs.Common.{◌≡◌, ℕ, suc, ◌+◌, ◌<◌, Bool, true, false, not, ◌&&◌, ℤ, Some, None, List, [], ◌∷◌, length, drop, take, add-one, inl, inr, refl, sym, ap, subst, ◌∙◌, arith}
use Rattle.std.specs.Prelude.{slice_get, ◌==◌}
use Rattle.std.specs.List.{position_from}
use Rattle.std.specs.Ordering.{int_eq}
use Rattle.std.specs.Str.{bytes_eq}
use Rattle.std.proofs.lemmas.Bool.{and_parts, cases_eq}
use Rattle.std.proofs.lemmas.Bool.Decides.{Decides-int_eq, nat_tests}
use Rattle.std.proofs.lemmas.Iterator.Adapters.{position_from-zero}
use Rattle.std.proofs.Math.Seq.{drop-cons}
use Rattle.std.proofs.lemmas.List.{take_more}
use Rattle.std.proofs.lemmas.Option.{get_or_from_slice_get, slice_get_within}
use Rattle.std.proofs.lemmas.Slice.Eq.{bytes_eq-Decides}
use Rattle.ivp_domain.specs.declared.axis.Axis.{Axis}
use Rattle.ivp_domain.specs.Domains.{is_domain}
use Rattle.ivp_domain.proofs.Padding.{none_fails}
use Rattle.ivp_func.specs.Functions.{IsFunction}
use Rattle.ivp_func.proofs.Facts.{passes_at}
use Rattle.ivp_problem.specs.declared.term.Term.{Term}
use Rattle.ivp_problem.specs.Problems.{bad_weight, is_weight, other_domain, same_axis, same_domain}
use Rattle.ivp_problem.proofs.Terms.{AreTerms}

-- what stands at a place is the first of the rest
pub drop_at : {X : Type 0} (xs : List X) (i : ℕ) (x : X) → slice_get xs i ≡ Some x → drop i xs ≡ x ∷ drop (i + 1) xs
drop_at xs i x e = rw (drop-cons xs i x (slice_get_within xs i x e), add-one, get_or_from_slice_get xs i x x e) refl

-- what holds of each element below a place, and of that at the place, holds below the next
pub below_next : {X : Type 0} (P : X → Type 0) (xs : List X) (i : ℕ) (x : X) → slice_get xs i ≡ Some x → P x → ((k : ℕ) (y : X) → k < i → slice_get xs k ≡ Some y → P y) → (k : ℕ) (y : X) → k < i + 1 → slice_get xs k ≡ Some y → P y
below_next P xs i x here holds before k y within e =
    elim (cases_eq k i) [
      | inl same ↦ let there : slice_get xs i ≡ Some y = subst (λ j. slice_get xs j ≡ Some y) same e in let at : x ≡ y = cc in subst P at holds
      | inr other ↦ before k y (omega arith) e
    ]

-- domains of different lengths are not the same
and_false : (t : Bool) (u : Bool) → false ≡ u → false ≡ (t && u)
and_false true u e = e
and_false false u e = refl

pub other_length : (a b : List Axis) → (length a ≡ length b → ⊥) → false ≡ same_domain a b
other_length [] [] h = absurd (h refl)
other_length [] (y ∷ ys) h = refl
other_length (x ∷ xs) [] h = refl
other_length (x ∷ xs) (y ∷ ys) h = and_false (same_axis x y) (same_domain xs ys) (other_length xs ys (λ e. h (ap suc e)))

-- the domains agree from a place on where they agree there and after it
pub same_from : (a b : List Axis) (i : ℕ) (x y : Axis) → slice_get a i ≡ Some x → slice_get b i ≡ Some y → same_domain (drop i a) (drop i b) ≡ (same_axis x y && same_domain (drop (i + 1) a) (drop (i + 1) b))
same_from a b i x y e e' = rw (drop_at a i x e, drop_at b i y e') refl

-- axes that agree are equal
abbrev axis_of : List ℕ → ℤ → ℤ → ℕ → Axis
axis_of name low high points = record { name = name; low = low; high = high; points = points }

same_axis-true : (a b : Axis) → same_axis a b ≡ true → b ≡ a
same_axis-true a b h =
    let three = and_parts (bytes_eq a.name b.name && int_eq a.low b.low && int_eq a.high b.high) (a.points == b.points) h in
    let two = and_parts (bytes_eq a.name b.name && int_eq a.low b.low) (int_eq a.high b.high) three.0 in
    let one = and_parts (bytes_eq a.name b.name) (int_eq a.low b.low) two.0 in
    let name : a.name ≡ b.name = (bytes_eq-Decides a.name b.name).0 one.0 in
    let low : a.low ≡ b.low = (Decides-int_eq a.low b.low).0 one.1 in
    let high : a.high ≡ b.high = (Decides-int_eq a.high b.high).0 two.1 in
    let points : a.points ≡ b.points = grind (arith, nat_tests, three.1) in
    let same : axis_of b.name b.low b.high b.points ≡ axis_of a.name a.low a.high a.points = rw (name, low, high, points) refl in
    same

pub same_domain-true : (a b : List Axis) → same_domain a b ≡ true → b ≡ a
same_domain-true [] [] h = refl
same_domain-true [] (y ∷ ys) h = absurd (cc)
same_domain-true (x ∷ xs) [] h = absurd (cc)
same_domain-true (x ∷ xs) (y ∷ ys) h =
    let both = and_parts (same_axis x y) (same_domain xs ys) h in
    let first = same_axis-true x y both.0 in
    let rest = same_domain-true xs ys both.1 in
    rw (first, rest) refl

-- one more term that is over the domain
pub position_next : (axes : List Axis) (terms : List Term) (i : ℕ) (term : Term) → slice_get terms i ≡ Some term → true ≡ same_domain axes term.func.axes → position_from (λ (t : Term). not (same_domain axes t.func.axes)) i (drop i terms) ≡ position_from (λ (t : Term). not (same_domain axes t.func.axes)) (i + 1) (drop (i + 1) terms)
position_next axes terms i term e same = rw (drop_at terms i term e) (rw (← same) refl)

-- no refusal: each is a term of the domain
pub terms_from : (axes : List Axis) (terms : List Term) → bad_weight terms ≡ None → other_domain axes terms ≡ None → ((place : ℕ) (term : Term) → slice_get terms place ≡ Some term → IsFunction term.func) → AreTerms axes terms
terms_from axes terms weights domains functions =
    let good = none_fails (λ (t : Term). is_weight t.weight) terms 0 (sym (position_from-zero (λ (t : Term). not (is_weight t.weight)) terms) ∙ weights) in
    let same = none_fails (λ (t : Term). same_domain axes t.func.axes) terms 0 (sym (position_from-zero (λ (t : Term). not (same_domain axes t.func.axes)) terms) ∙ domains) in
    λ place term e.
    record {
      weight = passes_at (λ (t : Term). is_weight t.weight) terms place term good e;
      domain = same_domain-true axes term.func.axes (passes_at (λ (t : Term). same_domain axes t.func.axes) terms place term same e);
      func = functions place term e;
    }

-- and the axes are a domain's, since the first function has them
pub domain_from : (axes : List Axis) (terms : List Term) → 0 < length terms → AreTerms axes terms → is_domain axes ≡ true
domain_from axes [] some h = absurd (omega arith)
domain_from axes (t ∷ ts) some h = let first = h 0 t refl in subst (λ (a : List Axis). is_domain a ≡ true) first.domain first.func.domain

-- terms over one domain that agree up to a place, and at it
pub agree_more : (a b : List Term) (n : ℕ) (x y : Term) → slice_get a n ≡ Some x → slice_get b n ≡ Some y → x ≡ y → take n a ≡ take n b → take (n + 1) a ≡ take (n + 1) b
agree_more a b n x y e f same before =
    rw (take_more a n x (slice_get_within a n x e), take_more b n y (slice_get_within b n y f), get_or_from_slice_get a n x x e, get_or_from_slice_get b n y y f, before, same) refl
