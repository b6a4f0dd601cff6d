-- Each step of a scout keeps the rule of the word.
use Rattle.std.proofs.Common.{◌≡◌, ◌≢◌, ℕ, ◌≤◌, ◌⊎◌, inl, inr, max, set, is_some, unwrap_or, Some, sym, refl, ap, ◌∙◌, subst, arith}
use Rattle.std.specs.Prelude.{slice_index}
use Rattle.std.proofs.lemmas.Bool.{false≢true}
use mathlib.Core.Option.{some}
use lib.ListN.{get_elem?}
use Rattle.atomic_table.specs.Table.{Allows, Joins, keeps, Me, Splits, State, Step}
use Rattle.atomic_table.proofs.Lists.{at_set, at_snoc, set_else}
use Rattle.ivp_problem.specs.Found.{IsKnownSum}
use Rattle.ivp_problem.specs.Problems.{WeightedSum}
use Rattle.ivp_problem.proofs.Totals.{greater}
use Rattle.best_word.specs.declared.best.View.{View}
use Rattle.best_word.specs.Known.{IsScoutOf, joined_scout, WordRule, Looks, Raises, spent_scout}

-- a scout of a problem is of the rule's, and knows no more than the word
about_is : (problem other : WeightedSum) (word : ℕ) (v : View) → IsScoutOf problem word v → v.about ≡ Some other → (problem ≡ other) × (v.low ≤ word)
about_is problem other word v (inl none) is = absurd (false≢true (ap is_some (sym none ∙ is)))
about_is problem other word v (inr some') is = (ap (λ o. unwrap_or o problem) (sym some'.0 ∙ is), some'.1)

-- a word that rose leaves each scout fitting
risen : (problem : WeightedSum) (word more : ℕ) (v : View) → word ≤ more → IsScoutOf problem word v → IsScoutOf problem more v
risen problem word more v up (inl none) = inl none
risen problem word more v up (inr some') = inr (some'.0, omega (arith, some'.1, up))

-- a scout that learns a number up to the word fits
learnt : (problem : WeightedSum) (word low : ℕ) (v : View) → low ≤ word → IsScoutOf problem word v → IsScoutOf problem word (record v { low = low })
learnt problem word low v within (inl none) = inl none
learnt problem word low v within (inr some') = inr (some'.0, within)

-- the word rises, and one scout's view changes
kept_with : (problem : WeightedSum) (s : State (Unit {0}) View) (h : WordRule problem s) (id more : ℕ) (w : View) → h.word ≤ more → IsKnownSum problem more → IsScoutOf problem more w
    → WordRule problem (record { words = set s.words 0 more; homes = s.homes; views = set s.views id w })
kept_with problem s h id more w up known fits = record { word = more; words = ap (λ ws. set ws 0 more) h.words; known = known; each = λ seat v at. by (at_set s.views id seat w v at) }
  where
    by : {seat : ℕ} {v : View} → ((seat ≡ id) × (w ≡ v)) ⊎ ((seat ≢ id) × (get_elem? s.views seat ≡ some v)) → IsScoutOf problem more v
    by (inl it) = subst (IsScoutOf problem more) it.1 fits
    by (inr it) = risen problem h.word more _ up (h.each _ _ it.1)

found_is : (problem : WeightedSum) (s : State (Unit {0}) View) (h : WordRule problem s) → slice_index s.words 0 ≡ h.word
found_is problem s h = ap (λ ws. slice_index ws 0) h.words

pub looks : (problem : WeightedSum) (slots id : ℕ) (me : Me (Unit {0}) View) (it : Step (Unit {0})) → Allows (WordRule problem) slots id me 0 (λ n. n) (Looks it me)
looks problem slots id me it s h size at bound = (w, keeps, tt, kept_with problem s h id found w (omega (arith, is)) (subst (IsKnownSum problem) (sym is) h.known) (learnt problem found found me.0 (omega arith) fits), told)
  where
    found : ℕ
    found = slice_index s.words 0

    is : found ≡ h.word
    is = found_is problem s h

    w : View
    w = record me.0 { low = found }

    fits : IsScoutOf problem found me.0
    fits = subst (λ n. IsScoutOf problem n me.0) (sym is) (h.each id me.0 at)

    told : Looks it me found (w, me.1)
    told other about = let same = about_is problem other found me.0 fits about in (refl, same.1, subst (λ p. IsKnownSum p found) same.0 (subst (IsKnownSum problem) (sym is) h.known))

pub raises : (problem other : WeightedSum) (slots id sum : ℕ) (me : Me (Unit {0}) View) (it : Step (Unit {0})) → it.first ≡ sum → me.0.about ≡ Some other → IsKnownSum other sum
    → Allows (WordRule problem) slots id me 0 (λ n. max n sum) (Raises it me)
raises problem other slots id sum me it first about offered s h size at bound =
    (w, keeps, tt, kept_with problem s h id (max found sum) w (omega (arith, is)) known (learnt problem (max found sum) (max found sum) me.0 (omega arith) (risen problem found (max found sum) me.0 (omega arith) fits)), told)
  where
    found : ℕ
    found = slice_index s.words 0

    is : found ≡ h.word
    is = found_is problem s h

    w : View
    w = record me.0 { low = max found sum }

    fits : IsScoutOf problem found me.0
    fits = subst (λ n. IsScoutOf problem n me.0) (sym is) (h.each id me.0 at)

    same : (problem ≡ other) × (me.0.low ≤ found)
    same = about_is problem other found me.0 fits about

    held : IsKnownSum problem found
    held = subst (IsKnownSum problem) (sym is) h.known

    by : (max found sum ≡ found) ⊎ (max found sum ≡ sum) → IsKnownSum problem (max found sum)
    by (inl e) = subst (IsKnownSum problem) (sym e) held
    by (inr e) = subst (IsKnownSum problem) (sym e) (subst (λ p. IsKnownSum p sum) (sym same.0) offered)

    known : IsKnownSum problem (max found sum)
    known = by (greater found sum)

    told : Raises it me found (w, me.1)
    told third about' =
        let same' = about_is problem third found me.0 fits about' in
        (ap (λ k. (record me.0 { low = max found k }, me.1)) (sym first), same'.1, subst (λ p. IsKnownSum p found) same'.0 held)

pub forks : (problem : WeightedSum) (id : ℕ) (v : View) → Splits (WordRule problem) id v v v
forks problem id v s h at =
    record { word = h.word; words = h.words; known = h.known; each = λ seat u at'. by seat u (at_snoc (set s.views id v) v u seat at') }
  where
    mine : IsScoutOf problem h.word v
    mine = h.each id v at

    here : {seat : ℕ} {u : View} → ((seat ≡ id) × (v ≡ u)) ⊎ ((seat ≢ id) × (get_elem? s.views seat ≡ some u)) → IsScoutOf problem h.word u
    here (inl it) = subst (IsScoutOf problem h.word) it.1 mine
    here (inr it) = h.each _ _ it.1

    by : (seat : ℕ) (u : View) → (get_elem? (set s.views id v) seat ≡ some u) ⊎ (v ≡ u) → IsScoutOf problem h.word u
    by seat u (inl at') = here (at_set s.views id seat v u at')
    by seat u (inr is) = subst (IsScoutOf problem h.word) is mine

pub merges : (problem : WeightedSum) (id other : ℕ) (v w : View) (about : WeightedSum) → v.about ≡ Some about → w.about ≡ Some about → Joins (WordRule problem) id v other w (joined_scout v w) spent_scout
merges problem id other v w about is is' s h at ne at' =
    record { word = h.word; words = h.words; known = h.known; each = λ seat u at''. by seat u (at_set (set s.views id (joined_scout v w)) other seat spent_scout u at'') }
  where
    one : (problem ≡ about) × (v.low ≤ h.word)
    one = about_is problem about h.word v (h.each id v at) is

    two : (problem ≡ about) × (w.low ≤ h.word)
    two = about_is problem about h.word w (h.each other w (sym (set_else s.views id other (joined_scout v w) ne) ∙ at')) is'

    both : IsScoutOf problem h.word (joined_scout v w)
    both = inr (is ∙ ap Some (sym one.0), omega (arith, one.1, two.1))

    here : {seat : ℕ} {u : View} → ((seat ≡ id) × (joined_scout v w ≡ u)) ⊎ ((seat ≢ id) × (get_elem? s.views seat ≡ some u)) → IsScoutOf problem h.word u
    here (inl it) = subst (IsScoutOf problem h.word) it.1 both
    here (inr it) = h.each _ _ it.1

    by : (seat : ℕ) (u : View) → ((seat ≡ other) × (spent_scout ≡ u)) ⊎ ((seat ≢ other) × (get_elem? (set s.views id (joined_scout v w)) seat ≡ some u)) → IsScoutOf problem h.word u
    by seat u (inl it) = subst (IsScoutOf problem h.word) it.1 (inl refl)
    by seat u (inr it) = here (at_set s.views id seat (joined_scout v w) u it.1)
