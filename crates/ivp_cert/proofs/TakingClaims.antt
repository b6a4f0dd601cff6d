-- What was decided, printed, as the reader takes it.
use Rattle.std.proofs.Common.{◌≡◌, ℕ, suc, ◌*◌, ◌^◌, ◌<◌, ◌≤◌, true, Some, Ok, List, [], ◌∷◌, ◌++◌, length, map, take, refl, ap, sym, subst, ◌∙◌, arith, append_assoc, append-nil}
use Rattle.std.specs.Prelude.{codes, decimal, IsTrue}
use Rattle.std.specs.List.{AllByRecursion as Each}
use Rattle.std.proofs.lemmas.Bool.{lt-ltb}
use Rattle.moos_io.proofs.Lists.{each_append}
use Rattle.moos_text.specs.Numbers.{unsigned_text}
use Rattle.ivp_domain.specs.declared.axis.Axis.{Axis}
use Rattle.ivp_domain.specs.declared.boxes.Point.{Point}
use Rattle.ivp_domain.specs.Domains.{is_domain, is_point, size_on}
use Rattle.ivp_domain.proofs.Sizes.{few_on, four_axes, places_below}
use Rattle.ivp_problem.specs.Problems.{WeightedSum}
use Rattle.ivp_cert.specs.declared.claim.Claim.{Claim}
use Rattle.ivp_cert.specs.declared.phase.DecisionStage.TheVariants.{OfCuts, OfProblem}
use Rattle.ivp_cert.specs.declared.stage.ProblemStage.TheVariants.{Ended}
use Rattle.ivp_cert.specs.Decisions.{are_on, spelled, spelled_with}
use Rattle.ivp_cert.specs.Stages.{after_first}
use Rattle.ivp_cert.specs.Printed.{IsPrefix}
use Rattle.ivp_cert.specs.Texts.{claim_text}
use Rattle.ivp_cert.proofs.PrintedLines.{IsWord}
use Rattle.ivp_cert.proofs.PrintedNumbers.{decimal_word, place_back, sum_back, unsigned_word}
use Rattle.ivp_cert.proofs.PrintedPieces.{four_of}
use Rattle.ivp_cert.proofs.PrintedTexts.{claim_line, claim_words}
use Rattle.ivp_cert.proofs.Taking.{Takes, takes_as, takes_line}

-- a point of the domain, and a sum of at most 64,000,000,000, in thousandths
pub record IsPrintableClaim (problem : WeightedSum) (claim : Claim) : Type 0 where
  pub four : length claim.point.at ≡ 4
  pub point : IsTrue (is_point problem.axes claim.point)
  pub sum : claim.sum ≤ 64 * 10 ^ 12

-- printed places are words
pub places_words : (places : List ℕ) → Each (λ place. place < 2 ^ 32) places → Each IsWord (map decimal places)
places_words [] each = tt
places_words (place ∷ places) each = let small = each.0 in (decimal_word place (omega (arith, small)), places_words places each.1)

-- the places and the sum behind them are spelled by their words
spelled_back : (before places : List ℕ) (sum : ℕ) → Each (λ place. place < 2 ^ 32) places → sum ≤ 64 * 10 ^ 12 → spelled before (map decimal places ++ unsigned_text sum ∷ []) ≡ Some (spelled_with (before ++ places) sum)
spelled_back before [] sum each few = rw (sum_back sum few, append-nil before) refl
spelled_back before (place ∷ []) sum each few = rw (place_back place each.0, sum_back sum few) refl
spelled_back before (place ∷ next ∷ places) sum each few =
    rw (place_back place each.0) (spelled_back (before ++ place ∷ []) (next ∷ places) sum each.1 few ∙ ap (λ all. Some (spelled_with all sum)) (append_assoc before (place ∷ []) (next ∷ places)))

-- the places of a point, one for each axis
record Placed (axes : List Axis) (at : List ℕ) : Type 0 where
  pub on : are_on axes (take (length axes) at) ≡ true
  pub back : take 4 (take (length axes) at ++ 0 ∷ 0 ∷ 0 ∷ 0 ∷ []) ≡ at
  pub small : Each (λ place. place < 2 ^ 32) (take (length axes) at)

none : (n : ℕ) → n < 1 → n ≡ 0
none n h = omega (arith, h)

fits : (size n : ℕ) → n < size → size ≤ 2 ^ 28 → n < 2 ^ 32
fits size n h k = omega (arith, h, k)

placed_by : (axes : List Axis) (i j k l : ℕ) → is_domain axes ≡ true → i < size_on 0 axes → j < size_on 1 axes → k < size_on 2 axes → l < size_on 3 axes → Placed axes (i ∷ j ∷ k ∷ l ∷ [])
placed_by [] i j k l domain p q r s = absurd (cc)
placed_by (a ∷ []) i j k l domain p q r s = record {
  on = rw (lt-ltb i a.points p) refl;
  back = rw (none j q, none k r, none l s) refl;
  small = (fits a.points i p (few_on (a ∷ []) domain 0 (omega arith)), tt);
}
placed_by (a ∷ b ∷ []) i j k l domain p q r s = record {
  on = rw (lt-ltb i a.points p, lt-ltb j b.points q) refl;
  back = rw (none k r, none l s) refl;
  small = (fits a.points i p (few_on (a ∷ b ∷ []) domain 0 (omega arith)), (fits b.points j q (few_on (a ∷ b ∷ []) domain 1 (omega arith)), tt));
}
placed_by (a ∷ b ∷ d ∷ []) i j k l domain p q r s =
    let few = λ (n : ℕ) (within : n < 4). few_on (a ∷ b ∷ d ∷ []) domain n within in
    record {
      on = rw (lt-ltb i a.points p, lt-ltb j b.points q, lt-ltb k d.points r) refl;
      back = rw (none l s) refl;
      small = (fits a.points i p (few 0 (omega arith)), (fits b.points j q (few 1 (omega arith)), (fits d.points k r (few 2 (omega arith)), tt)));
    }
placed_by (a ∷ b ∷ d ∷ e ∷ []) i j k l domain p q r s =
    let few = λ (n : ℕ) (within : n < 4). few_on (a ∷ b ∷ d ∷ e ∷ []) domain n within in
    record {
      on = rw (lt-ltb i a.points p, lt-ltb j b.points q, lt-ltb k d.points r, lt-ltb l e.points s) refl;
      back = refl;
      small = (fits a.points i p (few 0 (omega arith)), (fits b.points j q (few 1 (omega arith)), (fits d.points k r (few 2 (omega arith)), (fits e.points l s (few 3 (omega arith)), tt))));
    }
placed_by (a ∷ b ∷ d ∷ e ∷ g ∷ axes) i j k l domain p q r s = absurd (omega (arith, four_axes (a ∷ b ∷ d ∷ e ∷ g ∷ axes) domain))

placed : (axes : List Axis) (point : Point) → is_domain axes ≡ true → length point.at ≡ 4 → is_point axes point ≡ true → Placed axes point.at
placed axes point domain four inside =
    let at = four_of point.at four in
    let Goal = λ (places : List ℕ). (is_point axes (record { at = places }) ≡ true → Placed axes places) in
    let by : Goal (at.one ∷ at.two ∷ at.three ∷ at.four ∷ []) =
    λ known. let below = places_below axes (record { at = at.one ∷ at.two ∷ at.three ∷ at.four ∷ [] }) domain known in placed_by axes at.one at.two at.three at.four domain below.0 below.1 below.2 below.3 in
    subst Goal (sym at.is) by inside

decision_word : IsWord (codes "decision")
decision_word = record { some = omega arith; ink = (omega arith, (omega arith, (omega arith, (omega arith, (omega arith, (omega arith, (omega arith, (omega arith, tt)))))))) }

claim_first : (line : ℕ) (problem : WeightedSum) (claim : Claim) → is_domain problem.axes ≡ true → IsPrintableClaim problem claim → after_first line (OfProblem (Ended problem)) (codes "decision") (claim_words (length problem.axes) claim) ≡ Ok (OfCuts (record { problem = problem; claim = claim; cert = [] }))
claim_first line problem claim domain is =
    let at = placed problem.axes claim.point domain is.four is.point in
    rw (spelled_back [] (take (length problem.axes) claim.point.at) claim.sum at.small is.sum, at.on, at.back) refl

pub claim_taken : (lines : ℕ) (prefix : List ℕ) (problem : WeightedSum) (claim : Claim) → IsPrefix prefix → is_domain problem.axes ≡ true → IsPrintableClaim problem claim → Takes lines (OfProblem (Ended problem)) (claim_text prefix (length problem.axes) claim) (suc lines) (OfCuts (record { problem = problem; claim = claim; cert = [] }))
claim_taken lines prefix problem claim at domain is =
    let then = OfCuts (record { problem = problem; claim = claim; cert = [] }) in
    let places = take (length problem.axes) claim.point.at in
    let sum = is.sum in
    let words = each_append IsWord (map decimal places) (unsigned_text claim.sum ∷ []) (places_words places (placed problem.axes claim.point domain is.four is.point).small) (unsigned_word claim.sum (omega (arith, sum)), tt) in
    takes_as lines (suc lines) (OfProblem (Ended problem)) then (claim_text prefix (length problem.axes) claim) _ (claim_line prefix (length problem.axes) claim)
    (takes_line lines (OfProblem (Ended problem)) then prefix 100 (codes "ecision") (claim_words (length problem.axes) claim) at (omega arith) decision_word words (claim_first (suc lines) problem claim domain is))
