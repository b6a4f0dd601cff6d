-- A printed problem, as the reader takes it.
use Rattle.std.proofs.Common.{◌≡◌, ℕ, suc, ◌<◌, ◌≤◌, ◌^◌, true, ℤ, pos, neg_ℤ, ◌≤ℤ◌, Some, List, [], ◌∷◌, ◌++◌, flat_map, length, refl, subst, arith}
use Rattle.std.specs.Prelude.{codes, slice_get}
use Rattle.std.specs.List.{concat, AllByRecursion as Each}
use Rattle.std.proofs.lemmas.Bool.{and_parts}
use Rattle.std.proofs.lemmas.Bool.Decides.{nat_tests}
use Rattle.std.proofs.lemmas.Int.{ints}
use Rattle.moos_io.proofs.Lists.{each_from}
use Rattle.ivp_domain.specs.declared.axis.Axis.{Axis}
use Rattle.ivp_domain.specs.Axes.{is_end, is_good_axis}
use Rattle.ivp_domain.specs.Domains.{is_domain}
use Rattle.ivp_domain.proofs.Sizes.{few_at, good_axes}
use Rattle.ivp_func.specs.Functions.{HasValues, IsPartition}
use Rattle.ivp_func.specs.Pieces.{are_pieces_of}
use Rattle.ivp_func.proofs.Facts.{passes_at}
use Rattle.ivp_func.proofs.PointTests.{partition_passes, values_pass}
use Rattle.ivp_problem.specs.declared.term.Term.{Term}
use Rattle.ivp_problem.specs.Problems.{WeightedSum}
use Rattle.ivp_cert.specs.declared.phase.DecisionStage.TheVariants.{OfProblem}
use Rattle.ivp_cert.specs.declared.stage.ProblemStage.TheVariants.{Begun, Ended, Functions, Start}
use Rattle.ivp_cert.specs.Printed.{HasFourPlaces, IsPrefix, IsPrintableProblem}
use Rattle.ivp_cert.specs.Texts.{axis_text, problem_text, term_text}
use Rattle.ivp_cert.proofs.PrintedAxes.{IsPrintedAxis}
use Rattle.ivp_cert.proofs.PrintedLines.{IsWord}
use Rattle.ivp_cert.proofs.Taking.{Leads, takes_both, takes_line}
use Rattle.ivp_cert.proofs.TakingAxes.{axes_taken, stage_at}
use Rattle.ivp_cert.proofs.TakingTerms.{axes_open, functions_end, IsPrintedTerm, Opens, terms_taken, TermsTaken}

-- an end of an axis is within 10^12 thousandths of 0
end_within : (z : ℤ) → is_end z ≡ true → (neg_ℤ (pos (10 ^ 12)) ≤ℤ z) × (z ≤ℤ pos (10 ^ 12))
end_within z h = (grind (arith, nat_tests, ints), grind (arith, nat_tests, ints))

-- the axes and the functions of a problem are what the reader asks for
printed_axis : (problem : WeightedSum) → IsPrintableProblem problem → (k : ℕ) (axis : Axis) → slice_get problem.axes k ≡ Some axis → IsPrintedAxis axis
printed_axis problem is k axis at =
    let good = passes_at is_good_axis problem.axes k axis (good_axes problem.axes is.lawful.domain) at in
    let ends = and_parts _ (is_end axis.high) good in
    let low = and_parts _ (is_end axis.low) ends.0 in
    let few = few_at problem.axes k axis is.lawful.domain at in
    record { name = is.names k axis at; low = end_within axis.low low.1; high = end_within axis.high ends.1; few = omega (arith, few) }

printed_term : (problem : WeightedSum) → IsPrintableProblem problem → (k : ℕ) (term : Term) → slice_get problem.terms k ≡ Some term → IsPrintedTerm problem.axes term
printed_term problem is k term at =
    let of = is.lawful.terms k term at in
    let pieces = term.func.pieces in
    record {
      weight = of.weight;
      domain = of.domain;
      few = of.func.few;
      pieces = subst (λ axes. are_pieces_of axes pieces ≡ true) of.domain of.func.pieces;
      partition = partition_passes problem.axes pieces (subst (λ axes. IsPartition axes pieces) of.domain of.func.partition);
      values = values_pass problem.axes pieces (subst (λ axes. HasValues axes pieces) of.domain of.func.values);
      four = each_from HasFourPlaces pieces (is.pieces k term at);
    }

-- a function may stand behind the axes of a domain
domain_opens : (axes : List Axis) → is_domain axes ≡ true → Opens (record { axes = axes; terms = [] }) (stage_at axes)
domain_opens [] h = absurd (cc)
domain_opens (axis ∷ axes) h = axes_open axis axes

problem_terms : (lines : ℕ) (prefix : List ℕ) (axes : List Axis) (terms : List Term) → IsPrefix prefix → is_domain axes ≡ true → 0 < length terms → length terms ≤ 64 → Each (IsPrintedTerm axes) terms → TermsTaken lines (stage_at axes) (flat_map (term_text prefix (length axes)) terms) (record { axes = axes; terms = terms })
problem_terms lines prefix axes [] at domain some few each = absurd (omega (arith, some))
problem_terms lines prefix axes (term ∷ terms) at domain some few each =
    terms_taken lines prefix (record { axes = axes; terms = [] }) (stage_at axes) term terms at domain (domain_opens axes domain) each.0 each.1 (omega (arith, few))

first_word : IsWord (codes "ivp")
first_word = record { some = omega arith; ink = (omega arith, (omega arith, (omega arith, tt))) }

one_word : IsWord (codes "1")
one_word = record { some = omega arith; ink = (omega arith, tt) }

end_word : IsWord (codes "end")
end_word = record { some = omega arith; ink = (omega arith, (omega arith, (omega arith, tt))) }

pub problem_taken : (prefix : List ℕ) (problem : WeightedSum) → IsPrefix prefix → IsPrintableProblem problem → Leads 0 (OfProblem Start) (problem_text prefix problem) (OfProblem (Ended problem))
problem_taken prefix problem at is =
    let domain = is.lawful.domain in
    let first = takes_line 0 (OfProblem Start) (OfProblem Begun) prefix 105 (codes "vp") (codes "1" ∷ []) at (omega arith) first_word (one_word, tt) refl in
    let axes = axes_taken 1 prefix [] problem.axes at domain (each_from IsPrintedAxis problem.axes (printed_axis problem is)) in
    let terms = problem_terms axes.more prefix problem.axes problem.terms at domain is.lawful.some is.lawful.few (each_from (IsPrintedTerm problem.axes) problem.terms (printed_term problem is)) in
    let last = takes_line terms.more (OfProblem (Functions terms.sum)) (OfProblem (Ended problem)) prefix 101 (codes "nd") [] at (omega arith) end_word tt (functions_end (suc terms.more) terms.sum problem terms.finishes) in
    let front = concat (prefix ∷ codes "ivp 1\n" ∷ []) in
    let end = concat (prefix ∷ codes "end\n" ∷ []) in
    let axes_are = flat_map (axis_text prefix) problem.axes in
    let terms_are = flat_map (term_text prefix (length problem.axes)) problem.terms in
    record {
      more = suc terms.more;
      takes =
          takes_both 0 1 (suc terms.more) (OfProblem Start) (OfProblem Begun) (OfProblem (Ended problem)) front (axes_are ++ (terms_are ++ end)) first
          (takes_both 1 axes.more (suc terms.more) (OfProblem Begun) (OfProblem (stage_at problem.axes)) (OfProblem (Ended problem)) axes_are (terms_are ++ end) axes.takes
          (takes_both axes.more terms.more (suc terms.more) (OfProblem (stage_at problem.axes)) (OfProblem (Functions terms.sum)) (OfProblem (Ended problem)) terms_are end terms.takes last));
    }
