-- The printed axes of a domain, as the reader takes them.
use Rattle.std.proofs.Common.{◌≡◌, ℕ, suc, true, nat_lt, Ok, List, [], ◌∷◌, ◌++◌, flat_map, length, refl, ap, ◌∙◌, arith, append_assoc, append-nil, length-append}
use Rattle.std.specs.Prelude.{codes}
use Rattle.std.specs.List.{AllByRecursion as Each}
use Rattle.std.proofs.lemmas.Bool.{lt-ltb}
use Rattle.ivp_domain.specs.declared.axis.Axis.{Axis}
use Rattle.ivp_domain.specs.Domains.{is_domain}
use Rattle.ivp_domain.proofs.Sizes.{four_axes}
use Rattle.ivp_cert.specs.declared.phase.DecisionStage.TheVariants.{OfProblem}
use Rattle.ivp_cert.specs.declared.stage.ProblemStage.{ProblemStage}
use Rattle.ivp_cert.specs.declared.stage.ProblemStage.TheVariants.{Begun, Axes}
use Rattle.ivp_cert.specs.Printed.{IsPrefix}
use Rattle.ivp_cert.specs.Problems.{with_domain}
use Rattle.ivp_cert.specs.Stages.{after_first}
use Rattle.ivp_cert.specs.Texts.{axis_text}
use Rattle.ivp_cert.proofs.PrintedAxes.{axis_back, axis_is_word, axis_line, axis_word, IsPrintedAxis}
use Rattle.ivp_cert.proofs.PrintedDomains.{front_domain}
use Rattle.ivp_cert.proofs.PrintedLines.{IsWord}
use Rattle.ivp_cert.proofs.Taking.{Leads, Takes, takes_as, takes_both, takes_line, takes_none, takes_to}

-- the stage after so many axes
abbrev pub stage_at : List Axis → ProblemStage
stage_at [] = Begun
stage_at (axis ∷ axes) = Axes (axis ∷ axes)

axis_added : (before after : List Axis) (axis : Axis) → is_domain (before ++ axis ∷ after) ≡ true → IsPrintedAxis axis → with_domain before (axis_word axis ∷ []) ≡ Ok (before ++ axis ∷ [])
axis_added before after axis domain is =
    let few : nat_lt (length before) 4 ≡ true = lt-ltb (length before) 4 (omega (arith, length-append before (axis ∷ after), four_axes (before ++ axis ∷ after) domain)) in
    let whole : is_domain ((before ++ axis ∷ []) ++ after) ≡ true = ap is_domain (append_assoc before (axis ∷ []) after) ∙ domain in
    rw (axis_back axis is, few, front_domain (before ++ axis ∷ []) after whole) refl

domain_word : IsWord (codes "domain")
domain_word = record { some = omega arith; ink = (omega arith, (omega arith, (omega arith, (omega arith, (omega arith, (omega arith, tt)))))) }

axis_first : (lines : ℕ) (before after : List Axis) (axis : Axis) → is_domain (before ++ axis ∷ after) ≡ true → IsPrintedAxis axis → after_first (suc lines) (OfProblem (stage_at before)) (codes "domain") (axis_word axis ∷ []) ≡ Ok (OfProblem (stage_at (before ++ axis ∷ [])))
axis_first lines [] after axis domain is = rw (axis_added [] after axis domain is) refl
axis_first lines (first ∷ before) after axis domain is = rw (axis_added (first ∷ before) after axis domain is) refl

axis_taken : (lines : ℕ) (prefix : List ℕ) (before after : List Axis) (axis : Axis) → IsPrefix prefix → is_domain (before ++ axis ∷ after) ≡ true → IsPrintedAxis axis → Takes lines (OfProblem (stage_at before)) (axis_text prefix axis) (suc lines) (OfProblem (stage_at (before ++ axis ∷ [])))
axis_taken lines prefix before after axis at domain is =
    let then = OfProblem (stage_at (before ++ axis ∷ [])) in
    takes_as lines (suc lines) (OfProblem (stage_at before)) then (axis_text prefix axis) _ (axis_line prefix axis)
    (takes_line lines (OfProblem (stage_at before)) then prefix 100 (codes "omain") (axis_word axis ∷ []) at (omega arith) domain_word (axis_is_word axis is, tt) (axis_first lines before after axis domain is))

pub axes_taken : (lines : ℕ) (prefix : List ℕ) (before axes : List Axis) → IsPrefix prefix → is_domain (before ++ axes) ≡ true → Each IsPrintedAxis axes → Leads lines (OfProblem (stage_at before)) (flat_map (axis_text prefix) axes) (OfProblem (stage_at (before ++ axes)))
axes_taken lines prefix before [] at domain each = record { more = lines; takes = rw (append-nil before) (takes_none lines (OfProblem (stage_at before))) }
axes_taken lines prefix before (axis ∷ axes) at domain each =
    let whole = append_assoc before (axis ∷ []) axes in
    let one = axis_taken lines prefix before axes axis at domain each.0 in
    let others = axes_taken (suc lines) prefix (before ++ axis ∷ []) axes at (ap is_domain whole ∙ domain) each.1 in
    let then = OfProblem (stage_at (before ++ axis ∷ [])) in
    let both = takes_both lines (suc lines) others.more (OfProblem (stage_at before)) then (OfProblem (stage_at ((before ++ axis ∷ []) ++ axes))) (axis_text prefix axis) (flat_map (axis_text prefix) axes) one others.takes in
    record { more = others.more; takes = takes_to lines others.more (OfProblem (stage_at before)) (OfProblem (stage_at ((before ++ axis ∷ []) ++ axes))) (OfProblem (stage_at (before ++ axis ∷ axes))) (axis_text prefix axis ++ flat_map (axis_text prefix) axes) (ap (λ all. OfProblem (stage_at all)) whole) both }
