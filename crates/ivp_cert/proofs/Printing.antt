-- The functions of a problem are written in turn, and what a decision states before its certificate.
use Rattle.std.proofs.Common.{◌≡◌, ℕ, ◌+◌, ◌<◌, Option, Some, None, List, [], ◌∷◌, ◌++◌, flat_map, length, drop, get_or, ap, sym, ◌∙◌, append_assoc}
use Rattle.std.specs.List.{concat}
use Rattle.std.specs.Prelude.{IfSome, codes, slice_get}
use Rattle.std.proofs.lemmas.Option.{get_or_from_slice_get, slice_get-get_or}
use Rattle.moos_io.specs.declared.buffered_writer.BufferedWriter.{BufferedWriter}
use Rattle.moos_io.specs.BufferedWriting.{Writes}
use Rattle.moos_io.specs.Faults.{Faring}
use Rattle.moos_io.proofs.BufferedWriting.{Leaves, each_less, writes_as}
use Rattle.ivp_func.specs.Functions.{Function}
use Rattle.ivp_problem.specs.declared.term.Term.{Term}
use Rattle.ivp_problem.specs.Problems.{WeightedSum}
use Rattle.ivp_problem.proofs.Nodes.{blank_term}
use Rattle.ivp_cert.specs.declared.claim.Decision.{Decision}
use Rattle.ivp_cert.specs.Texts.{claim_text, decision_lines, line_text, problem_text, term_text}

abbrev pub term_with : ℕ → Function → Term
term_with weight func = record { weight = weight; func = func }

-- a function by its weight and its pieces, as the code finds them
term_at : (terms : List Term) (i weight : ℕ) (func : Function) → i < length terms → IfSome (slice_get terms i) (λ term. weight ≡ term.weight) → IfSome (slice_get terms i) (λ term. func ≡ term.func) → slice_get terms i ≡ Some (term_with weight func)
term_at terms i weight func within w f = by (slice_get terms i) (slice_get-get_or terms i blank_term within) w f
  where
    by : (o : Option Term) → o ≡ Some (get_or terms i blank_term) → IfSome o (λ term. weight ≡ term.weight) → IfSome o (λ term. func ≡ term.func) → o ≡ Some (term_with weight func)
    by None e w f = absurd (cc)
    by (Some term) e w f = ap (λ n. Some (term_with n term.func)) (sym w) ∙ ap (λ g. Some (term_with weight g)) (sym f)

pub terms_less : {S : Type 0} {taken : S → Option (List ℕ)} {faults : S → Faring} {a b c : BufferedWriter S} {whole : List ℕ} (prefix : List ℕ) (problem : WeightedSum) (axes i weight : ℕ) (func : Function) → Leaves taken faults a b (flat_map (term_text prefix (length problem.axes)) (drop i problem.terms)) whole → i < length problem.terms → axes ≡ length problem.axes → IfSome (slice_get problem.terms i) (λ term. weight ≡ term.weight) → IfSome (slice_get problem.terms i) (λ term. func ≡ term.func) → Writes taken faults b c (term_text prefix axes (term_with weight func)) → Leaves taken faults a c (flat_map (term_text prefix (length problem.axes)) (drop (i + 1) problem.terms)) whole
terms_less prefix problem axes i weight func so within many w f wrote =
    let at = term_at problem.terms i weight func within w f in
    each_less (term_text prefix (length problem.axes)) problem.terms i (term_with weight func) so within (sym (get_or_from_slice_get problem.terms i (term_with weight func) (term_with weight func) at))
    (writes_as (ap (λ n. term_text prefix n (term_with weight func)) many) wrote)

-- the text of a decision: what it states, and then its certificate
pub stated : (prefix : List ℕ) (decision : Decision) → (problem_text prefix decision.problem ++ claim_text prefix (length decision.problem.axes) decision.claim) ++ (flat_map (line_text prefix) decision.cert ++ concat (prefix ∷ codes "done\n" ∷ [])) ≡ decision_lines prefix decision
stated prefix decision = append_assoc (problem_text prefix decision.problem) (claim_text prefix (length decision.problem.axes) decision.claim) (flat_map (line_text prefix) decision.cert ++ concat (prefix ∷ codes "done\n" ∷ []))
