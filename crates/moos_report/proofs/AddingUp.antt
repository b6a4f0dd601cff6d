-- What is printed of a history so far, and of a part behind it.
use Rattle.std.proofs.Common.{◌≡◌, ℕ, zero, suc, ◌+◌, ◌<◌, ◌≤◌, Bool, true, false, List, [], ◌∷◌, ◌++◌, length, refl, ap, sym, ◌∙◌, subst, arith, append_assoc, append-nil, zero-add}
use Rattle.std.specs.Prelude.{IsTrue, if◌then◌else◌, slice_get}
use Rattle.moos_post.specs.declared.entry.Entry.{Entry}
use Rattle.moos_post.specs.History.{History}
use Rattle.helm_core.specs.declared.iteration.Iteration.{Iteration}
use Rattle.moos_report.specs.declared.setup.Setup.{Setup}
use Rattle.moos_report.specs.IterationLines.{current_text, helm_fetches, is_helm_post, iteration_from, listed_text, outcome_text}
use Rattle.moos_report.specs.Parts.{EndsWithin, FrontsStay, PartsAddUp}
use Rattle.moos_report.specs.Report.{end_text, entries_text, entry_text, head_text}

-- some entries, and others behind them
entries_on : (setup : Setup) (first : ℕ) (iterations : List Iteration) (names : List (List ℕ)) (past one other : History)
    → entries_text setup first iterations names past (one ++ other) ≡ entries_text setup first iterations names past one ++ entries_text setup first iterations names (past ++ one) other
entries_on setup first iterations names past [] other = ap (λ before. entries_text setup first iterations names before other) (sym (append-nil past))
entries_on setup first iterations names past (entry ∷ one) other =
    let text = entry_text names past entry in
    let outcome = outcome_text setup first iterations names past entry in
    let left = entries_text setup first iterations names (past ++ entry ∷ []) one in
    let behind = entries_text setup first iterations names (past ++ entry ∷ one) other in
    let later : entries_text setup first iterations names (past ++ entry ∷ []) (one ++ other) ≡ left ++ behind =
    entries_on setup first iterations names (past ++ entry ∷ []) one other
    ∙ ap (λ before. left ++ entries_text setup first iterations names before other) (append_assoc past (entry ∷ []) one) in
    ap (λ end. text ++ (outcome ++ end)) later ∙ ap (λ end. text ++ end) (sym (append_assoc outcome left behind)) ∙ sym (append_assoc text (outcome ++ left) behind)

-- an iteration of a list, in the middle of a longer one
found_first : (iterations after : List Iteration) (number : ℕ) → number < length iterations → slice_get (iterations ++ after) number ≡ slice_get iterations number
found_first [] after number within = absurd (omega (arith, within))
found_first (iteration ∷ iterations) after zero within = refl
found_first (iteration ∷ iterations) after (suc number) within = found_first iterations after number (omega (arith, within))

found : (before iterations after : List Iteration) (number : ℕ) → length before < suc number → number < length before + length iterations
    → slice_get (before ++ (iterations ++ after)) number ≡ iteration_from (length before) iterations number
found [] iterations after number from within = found_first iterations after number (omega (arith, within))
found (iteration ∷ before) iterations after zero from within = absurd (omega (arith, from))
found (iteration ∷ before) iterations after (suc number) from within = found before iterations after number (omega (arith, from)) (omega (arith, within))

-- what follows the entries of a part is found among its iterations
outcome_own : (setup : Setup) (before iterations after : List Iteration) (names : List (List ℕ)) (past : History) (entry : Entry)
    → (IsTrue (is_helm_post names entry) → 0 < helm_fetches names past → (length before < helm_fetches names past) × (helm_fetches names past ≤ length before + length iterations))
    → outcome_text setup 0 (before ++ (iterations ++ after)) names past entry ≡ outcome_text setup (length before) iterations names past entry
outcome_own setup before iterations after names past entry = by (is_helm_post names entry) (helm_fetches names past)
  where
    by : (posts : Bool) (fetches : ℕ) → (IsTrue posts → 0 < fetches → (length before < fetches) × (fetches ≤ length before + length iterations))
        → (if posts then current_text setup 0 (before ++ (iterations ++ after)) fetches else []) ≡ (if posts then current_text setup (length before) iterations fetches else [])
    by false fetches theirs = refl
    by true zero theirs = refl
    by true (suc number) theirs =
        let own = theirs refl (omega arith) in
        ap (listed_text setup number) (found before iterations after number own.0 (omega (arith, own.1)))

entries_own : (setup : Setup) (before iterations after : List Iteration) (names : List (List ℕ)) (past entries : History)
    → EndsWithin names past (length before) (length before + length iterations) entries
    → entries_text setup 0 (before ++ (iterations ++ after)) names past entries ≡ entries_text setup (length before) iterations names past entries
entries_own setup before iterations after names past [] theirs = refl
entries_own setup before iterations after names past (entry ∷ entries) theirs =
    let outcome = outcome_own setup before iterations after names past entry theirs.0 in
    let later = entries_own setup before iterations after names (past ++ entry ∷ []) entries theirs.1 in
    λ i. entry_text names past entry ++ (outcome i ++ later i)

-- what is printed so far is the same with more iterations
so_far : (setup : Setup) (names : List (List ℕ)) (history : History) (before more : List Iteration) → EndsWithin names [] 0 (length before) history
    → entries_text setup 0 (before ++ more) names [] history ≡ entries_text setup 0 before names [] history
so_far setup names history before more own =
    entries_own setup [] before more names [] history (subst (λ limit. EndsWithin names [] 0 limit history) (sym (zero-add (length before))) own)

pub parts_same : PartsAddUp
parts_same setup names history part before iterations own theirs =
    let head = head_text setup names in
    let here = entries_text setup (length before) iterations names history part in
    let behind : entries_text setup 0 (before ++ iterations) names history part ≡ here =
    ap (λ iterations. entries_text setup 0 (before ++ iterations) names history part) (sym (append-nil iterations)) ∙ entries_own setup before iterations [] names history part theirs in
    append_assoc head (entries_text setup 0 before names [] history) here ∙ (λ i. head ++ (sym (so_far setup names history before iterations own) i ++ sym behind i))
    ∙ ap (λ entries. head ++ entries) (sym (entries_on setup 0 (before ++ iterations) names [] history part))

pub fronts_same : FrontsStay
fronts_same setup names history rest before more own =
    let head = head_text setup names in
    let here = entries_text setup 0 before names [] history in
    let behind = entries_text setup 0 (before ++ more) names history rest in
    let end = end_text (history ++ rest) in
    ap (λ entries. head ++ (entries ++ end)) (entries_on setup 0 (before ++ more) names [] history rest ∙ ap (λ entries. entries ++ behind) (so_far setup names history before more own))
    ∙ ap (λ text. head ++ text) (append_assoc here behind end) ∙ sym (append_assoc head here (behind ++ end))
