-- The printed functions of a problem, as the reader takes them.
use Rattle.std.proofs.Common.{◌≡◌, ℕ, suc, ◌+◌, ◌<◌, ◌≤◌, true, nat_lt, Ok, List, [], ◌∷◌, ◌++◌, flat_map, length, refl, ap, sym, ◌∙◌, arith, append_assoc, append-nil, length-append}
use Rattle.std.specs.Prelude.{codes}
use Rattle.std.specs.List.{concat, list_all, AllByRecursion as Each}
use Rattle.std.proofs.lemmas.Bool.{lt-ltb}
use Rattle.ivp_domain.specs.declared.axis.Axis.{Axis}
use Rattle.ivp_domain.specs.Domains.{is_domain}
use Rattle.ivp_func.specs.Functions.{has_values, is_partition}
use Rattle.ivp_func.specs.Pieces.{is_piece_of}
use Rattle.ivp_problem.specs.declared.term.Term.{Term}
use Rattle.ivp_problem.specs.Problems.{is_weight, WeightedSum}
use Rattle.ivp_problem.proofs.Slopes.{weight_most}
use Rattle.ivp_cert.specs.declared.phase.DecisionStage.TheVariants.{OfProblem}
use Rattle.ivp_cert.specs.declared.stage.ProblemStage.{ProblemStage}
use Rattle.ivp_cert.specs.declared.stage.ProblemStage.TheVariants.{Axes, Ended, Functions}
use Rattle.ivp_cert.specs.Printed.{HasFourPlaces, IsPrefix}
use Rattle.ivp_cert.specs.Problems.{finished, with_function}
use Rattle.ivp_cert.specs.Stages.{after_first, as_now}
use Rattle.ivp_cert.specs.Texts.{piece_text, term_text}
use Rattle.ivp_cert.specs.Unfinished.{UnfinishedSum}
use Rattle.ivp_cert.proofs.PrintedLines.{IsWord}
use Rattle.ivp_cert.proofs.PrintedNumbers.{unsigned_word, weight_back}
use Rattle.ivp_cert.proofs.PrintedTexts.{function_line}
use Rattle.ivp_cert.proofs.Taking.{Takes, takes_as, takes_both, takes_line}
use Rattle.ivp_cert.proofs.TakingPieces.{pieces_taken, with_pieces}
use Rattle.moos_text.specs.Numbers.{unsigned_text}
use Rattle.moos_text.specs.Refusals.{at_line}

-- a function that a problem over these axes may have, by the tests that the reader makes
pub record IsPrintedTerm (axes : List Axis) (term : Term) : Type 0 where
  pub weight : is_weight term.weight ≡ true
  pub domain : term.func.axes ≡ axes
  pub few : length term.func.pieces ≤ 4096
  pub pieces : list_all (is_piece_of axes) term.func.pieces ≡ true
  pub partition : is_partition axes term.func.pieces ≡ true
  pub values : has_values axes term.func.pieces ≡ true
  pub four : Each HasFourPlaces term.func.pieces

abbrev pub with_terms : WeightedSum → List Term → WeightedSum
with_terms before terms = record { axes = before.axes; terms = before.terms ++ terms }

-- behind this stage a function may stand, with these before it
pub record Opens (before : WeightedSum) (stage : ProblemStage) : Type 0 where
  pub function : (line : ℕ) (words : List (List ℕ)) → after_first line (OfProblem stage) (codes "function") words ≡ as_now OfProblem (at_line line (as_now Functions (with_function before line words)))

pub axes_open : (axis : Axis) (axes : List Axis) → Opens (record { axes = axis ∷ axes; terms = [] }) (Axes (axis ∷ axes))
axes_open axis axes = record { function = λ line words. refl }

functions_open : (sum : UnfinishedSum) (before : WeightedSum) → finished sum ≡ Ok before → Opens before (Functions sum)
functions_open sum before e = record { function = λ line words. rw e refl }

pub functions_end : (line : ℕ) (sum : UnfinishedSum) (whole : WeightedSum) → finished sum ≡ Ok whole → after_first line (OfProblem (Functions sum)) (codes "end") [] ≡ Ok (OfProblem (Ended whole))
functions_end line sum whole e = rw e refl

-- the functions up to here were read
pub record TermsTaken (lines : ℕ) (stage : ProblemStage) (text : List ℕ) (whole : WeightedSum) : Type 0 where
  pub more : ℕ
  pub sum : UnfinishedSum
  pub takes : Takes lines (OfProblem stage) text more (OfProblem (Functions sum))
  pub finishes : finished sum ≡ Ok whole

function_word : IsWord (codes "function")
function_word = record { some = omega arith; ink = (omega arith, (omega arith, (omega arith, (omega arith, (omega arith, (omega arith, (omega arith, (omega arith, tt)))))))) }

-- a function that has no piece yet
abbrev bare : WeightedSum → ℕ → Term → UnfinishedSum
bare before line term = record { before = before; line = line; weight = term.weight; pieces = [] }

weight_taken : (lines : ℕ) (prefix : List ℕ) (before : WeightedSum) (stage : ProblemStage) (term : Term) → IsPrefix prefix → Opens before stage → is_weight term.weight ≡ true → length before.terms < 64 → Takes lines (OfProblem stage) (concat (prefix ∷ codes "function " ∷ unsigned_text term.weight ∷ codes "\n" ∷ [])) (suc lines) (OfProblem (Functions (bare before (suc lines) term)))
weight_taken lines prefix before stage term at opens weight few =
    let then = OfProblem (Functions (bare before (suc lines) term)) in
    let small = (weight_most term.weight weight).1 in
    let room : nat_lt (length before.terms) 64 ≡ true = lt-ltb (length before.terms) 64 few in
    let good : with_function before (suc lines) (unsigned_text term.weight ∷ []) ≡ Ok (bare before (suc lines) term) = rw (room, weight_back term.weight (omega (arith, small)), weight) refl in
    takes_as lines (suc lines) (OfProblem stage) then _ _ (function_line prefix term.weight)
    (takes_line lines (OfProblem stage) then prefix 102 (codes "unction") (unsigned_text term.weight ∷ []) at (omega arith) function_word (unsigned_word term.weight (omega (arith, small)), tt)
    (opens.function (suc lines) (unsigned_text term.weight ∷ []) ∙ ap (λ r. as_now OfProblem (at_line (suc lines) (as_now Functions r))) good))

term_taken : (lines : ℕ) (prefix : List ℕ) (before : WeightedSum) (stage : ProblemStage) (term : Term) → IsPrefix prefix → is_domain before.axes ≡ true → Opens before stage → IsPrintedTerm before.axes term → length before.terms < 64 → TermsTaken lines stage (term_text prefix (length before.axes) term) (with_terms before (term ∷ []))
term_taken lines prefix before stage term at domain opens is few =
    let start = bare before (suc lines) term in
    let pieces = pieces_taken (suc lines) prefix start term.func.pieces at domain is.pieces is.four (omega (arith, is.few)) in
    let sum = with_pieces start term.func.pieces in
    let one = weight_taken lines prefix before stage term at opens is.weight few in
    let same : ◌≡◌ {A = Term} (record { weight = term.weight; func = record { axes = before.axes; pieces = term.func.pieces } }) term = ap (λ (axes : List Axis). let t : Term = record { weight = term.weight; func = record { axes = axes; pieces = term.func.pieces } } in t) (sym is.domain) in
    record {
      more = pieces.more;
      sum = sum;
      takes = takes_both lines (suc lines) pieces.more (OfProblem stage) (OfProblem (Functions start)) (OfProblem (Functions sum)) _ (flat_map (piece_text prefix (length before.axes)) term.func.pieces) one pieces.takes;
      finishes = rw (is.partition, is.values) (ap (λ (t : Term). Ok (with_terms before (t ∷ []))) same);
    }

-- the functions, the first of which stands behind the axes
pub terms_taken : (lines : ℕ) (prefix : List ℕ) (before : WeightedSum) (stage : ProblemStage) (term : Term) (terms : List Term) → IsPrefix prefix → is_domain before.axes ≡ true → Opens before stage → IsPrintedTerm before.axes term → Each (IsPrintedTerm before.axes) terms → length before.terms + length (term ∷ terms) ≤ 64 → TermsTaken lines stage (flat_map (term_text prefix (length before.axes)) (term ∷ terms)) (with_terms before (term ∷ terms))
terms_taken lines prefix before stage term [] at domain opens is all few =
    let one = term_taken lines prefix before stage term at domain opens is (omega (arith, few)) in
    record { more = one.more; sum = one.sum; takes = takes_as lines one.more (OfProblem stage) (OfProblem (Functions one.sum)) _ _ (append-nil (term_text prefix (length before.axes) term)) one.takes; finishes = one.finishes }
terms_taken lines prefix before stage term (next ∷ terms) at domain opens is all few =
    let one = term_taken lines prefix before stage term at domain opens is (omega (arith, few)) in
    let middle = with_terms before (term ∷ []) in
    let others = terms_taken one.more prefix middle (Functions one.sum) next terms at domain (functions_open one.sum middle one.finishes) all.0 all.1 (omega (arith, few, length-append before.terms (term ∷ []))) in
    let text = term_text prefix (length before.axes) in
    record {
      more = others.more;
      sum = others.sum;
      takes = takes_both lines one.more others.more (OfProblem stage) (OfProblem (Functions one.sum)) (OfProblem (Functions others.sum)) (text term) (flat_map text (next ∷ terms)) one.takes others.takes;
      finishes = others.finishes ∙ ap (λ ts. Ok (record before { terms = ts })) (append_assoc before.terms (term ∷ []) (next ∷ terms));
    }
