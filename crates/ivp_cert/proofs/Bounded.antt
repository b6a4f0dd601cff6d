-- The sums of a decision that was read are within the format's bounds.
use Rattle.std.proofs.Common.{◌≡◌, ℕ, suc, ◌+◌, ◌*◌, ◌^◌, ◌≤◌, Bool, true, false, cond, nat_lt, Option, Some, None, Result, Ok, Err, List, [], ◌∷◌, ◌++◌, length, refl, ap, sym, subst, ◌∙◌, arith}
use Rattle.std.specs.Prelude.{bytes_eq, codes, IfOk, IfSome, max}
use Rattle.std.specs.List.{AllByRecursion as Each}
use Rattle.std.specs.Option.{option_and_then, option_map}
use Rattle.moos_io.proofs.Lists.{each_append, each_at}
use Rattle.moos_text.specs.declared.cause.Cause.{Cause}
use Rattle.moos_text.specs.declared.cause.Cause.TheVariants.{P1, P10}
use Rattle.moos_text.specs.declared.cause.ReadFault.{ReadFault}
use Rattle.moos_text.specs.Lines.{raw_lines}
use Rattle.moos_text.proofs.Numerals.{unsigned_most}
use Rattle.ivp_problem.specs.Problems.{WeightedSum}
use Rattle.ivp_cert.specs.declared.cert.Line.{Line}
use Rattle.ivp_cert.specs.declared.claim.Decision.{Decision}
use Rattle.ivp_cert.specs.declared.phase.DecisionStage.{DecisionStage}
use Rattle.ivp_cert.specs.declared.phase.DecisionStage.TheVariants.{Done, OfCuts, OfProblem}
use Rattle.ivp_cert.specs.declared.stage.ProblemStage.{ProblemStage}
use Rattle.ivp_cert.specs.declared.stage.ProblemStage.TheVariants.{Start, Begun, Axes, Functions, Ended}
use Rattle.ivp_cert.specs.declared.claim.Spelled.{Spelled}
use Rattle.ivp_cert.specs.Decisions.{are_on, bound_with, claimed, decision_of, in_form, line_from, line_with, point_at, spelled, spelled_with, sum_word, with_claim, with_cut, with_line}
use Rattle.ivp_cert.specs.Problems.{nothing_behind, problem_of}
use Rattle.ivp_cert.specs.Stages.{after_cuts, after_problem, after_stage, after_word, stage_after, as_now, phase_after, whole_decision, whole_problem}
use Rattle.moos_text.specs.Refusals.{and_then, at_line}
use Rattle.ivp_cert.specs.Words.{line_words, place_of}
use Rattle.ivp_cert.specs.Printed.{HasSums}
use Rattle.ivp_cert.proofs.Following.{decision_read, problem_read}
use Rattle.ivp_cert.proofs.Reading.{after_lines, IsRead}

-- the claim's sum, and those of the lines
record KeepsSums (decision : Decision) : Type 0 where
  pub sum : decision.claim.sum ≤ 64 * 10 ^ 12
  pub sums : Each (λ (line : Line). line.sum ≤ 64 * 10 ^ 12) decision.cert

abbrev Good : DecisionStage → Type 0
Good (OfProblem stage) = Unit {0}
Good (OfCuts decision) = KeepsSums decision
Good (Done decision) = KeepsSums decision

-- what a computation that succeeds was made of
then_of : {A B E : Type 0} (next : A → Result B E) (r : Result A E) (b : B) → and_then next r ≡ Ok b → (a : A) × (r ≡ Ok a) × (next a ≡ Ok b)
then_of next (Ok a) b e = (a, refl, e)
then_of next (Err fault) b e = absurd (cc)

line_of : {A : Type 0} (line : ℕ) (r : Result A Cause) (a : A) → at_line line r ≡ Ok a → r ≡ Ok a
line_of line (Ok b) a e = let same : b ≡ a = cc in ap Ok same
line_of line (Err cause) a e = absurd (cc)

form_of : {A : Type 0} (o : Option A) (a : A) → in_form o ≡ Ok a → o ≡ Some a
form_of None a e = absurd (cc)
form_of (Some b) a e = let same : b ≡ a = cc in ap Some same

some_of : {A B : Type 0} (f : A → Option B) (o : Option A) (b : B) → option_and_then f o ≡ Some b → (a : A) × (o ≡ Some a) × (f a ≡ Some b)
some_of f None b e = absurd (cc)
some_of f (Some a) b e = (a, refl, e)

sum_most : (word : List ℕ) (n : ℕ) → sum_word word ≡ Some n → n ≤ 64 * 10 ^ 12
sum_most word n e = subst (λ (o : Option ℕ). IfSome o (λ m. m ≤ 64 * 10 ^ 12)) e (unsigned_most (64 * 10 ^ 12) word)

-- the sum of a `decision` line
abbrev sum_in : Option Spelled → ℕ
sum_in None = 0
sum_in (Some of) = of.sum

one_sum : (places word : List ℕ) (o : Option ℕ) (of : Spelled) → sum_word word ≡ o → option_map (spelled_with places) o ≡ Some of → of.sum ≤ 64 * 10 ^ 12
one_sum places word None of f e = absurd (cc)
one_sum places word (Some n) of f e = let same : n ≡ of.sum = ap sum_in e in subst (λ m. m ≤ 64 * 10 ^ 12) same (sum_most word n f)

spelled_sum : (places : List ℕ) (words : List (List ℕ)) (of : Spelled) → spelled places words ≡ Some of → of.sum ≤ 64 * 10 ^ 12
spelled_sum places [] of e = absurd (cc)
spelled_sum places (word ∷ []) of e = one_sum places word (sum_word word) of refl e
spelled_sum places (word ∷ next ∷ rest) of e =
    let one = some_of (λ place. spelled (places ++ place ∷ []) (next ∷ rest)) (place_of word) of e in
    spelled_sum (places ++ one.0 ∷ []) (next ∷ rest) of one.2

-- and that of a line of a certificate
abbrev line_sum : Option Line → ℕ
line_sum None = 0
line_sum (Some line) = line.sum

bound_sum : (path : List ℕ) (sum : List ℕ) (s index : Option ℕ) (line : Line) → sum_word sum ≡ s → line_with path s index ≡ Some line → line.sum ≤ 64 * 10 ^ 12
bound_sum path sum (Some n) (Some k) line f e = let same : n ≡ line.sum = ap line_sum e in subst (λ m. m ≤ 64 * 10 ^ 12) same (sum_most sum n f)
bound_sum path sum (Some n) None line f e = absurd (cc)
bound_sum path sum None index line f e = absurd (cc)

cut_sum : (path : List ℕ) (words : List (List ℕ)) (line : Line) → bound_with path words ≡ Some line → line.sum ≤ 64 * 10 ^ 12
cut_sum path [] line e = absurd (cc)
cut_sum path (sum ∷ []) line e = absurd (cc)
cut_sum path (sum ∷ index ∷ []) line e = bound_sum path sum (sum_word sum) (place_of index) line refl e
cut_sum path (sum ∷ index ∷ more ∷ rest) line e = absurd (cc)

from_sum : (path : List ℕ) (words : List (List ℕ)) (line : Line) → line_from path words ≡ Some line → line.sum ≤ 64 * 10 ^ 12
from_sum path [] line e = absurd (cc)
from_sum path (word ∷ words) line e = by (bytes_eq word (codes ":")) (nat_lt (length path) 64) (λ number. from_sum (path ++ number ∷ []) words line) e
  where
    by : (colon room : Bool) → ((number : ℕ) → line_from (path ++ number ∷ []) words ≡ Some line → line.sum ≤ 64 * 10 ^ 12) → cond colon (bound_with path words) (cond room (option_and_then (λ number. line_from (path ++ number ∷ []) words) (place_of word)) None) ≡ Some line → line.sum ≤ 64 * 10 ^ 12
    by true room more e = cut_sum path words line e
    by false true more e = let one = some_of (λ number. line_from (path ++ number ∷ []) words) (place_of word) line e in more one.0 one.2
    by false false more e = absurd (cc)

-- one line more keeps the sums within their bounds
ok_inside : {A E : Type 0} {p q : A} → ◌≡◌ {A = Result A E} (Ok p) (Ok q) → p ≡ q
ok_inside e = cc

good_at : {E : Type 0} (phase next : DecisionStage) → ◌≡◌ {A = Result DecisionStage E} (Ok phase) (Ok next) → Good phase → Good next
good_at phase next e good = subst Good (ok_inside e) good

of_good : (r : Result ProblemStage ReadFault) (next : DecisionStage) → as_now OfProblem r ≡ Ok next → Good next
of_good (Ok stage) next e = good_at (OfProblem stage) next e tt
of_good (Err fault) next e = absurd (cc)

claimed_good : (problem : WeightedSum) (of : Spelled) (decision : Decision) → of.sum ≤ 64 * 10 ^ 12 → claimed problem of ≡ Ok decision → KeepsSums decision
claimed_good problem of decision few e = by (are_on problem.axes of.places) e
  where
    bare : Decision
    bare = record { problem = problem; claim = record { point = point_at of.places; sum = of.sum }; cert = [] }

    by : (b : Bool) → cond b (Ok bare) (Err P10) ≡ Ok decision → KeepsSums decision
    by true e = let same : bare ≡ decision = cc in subst KeepsSums same (record { sum = few; sums = tt })
    by false e = absurd (cc)

problem_good : (problem : WeightedSum) (word : List ℕ) (words : List (List ℕ)) (next : DecisionStage) → after_problem problem word words ≡ Ok next → Good next
problem_good problem word words next e = by (bytes_eq word (codes "decision")) e
  where
    by : (b : Bool) → cond b (as_now OfCuts (with_claim problem words)) (Err P1) ≡ Ok next → Good next
    by true e =
        let claim = then_of (λ decision. Ok (OfCuts decision)) (with_claim problem words) next e in
        let one = then_of (claimed problem) (in_form (spelled [] words)) claim.0 claim.1 in
        good_at (OfCuts claim.0) next claim.2 (claimed_good problem one.0 claim.0 (spelled_sum [] words one.0 (form_of (spelled [] words) one.0 one.1)) one.2)
    by false e = absurd (cc)

done_good : (decision : Decision) (words : List (List ℕ)) (next : DecisionStage) → KeepsSums decision → as_now Done (nothing_behind decision words) ≡ Ok next → Good next
done_good decision [] next good e = good_at (Done decision) next e good
done_good decision (word ∷ words) next good e = absurd (cc)

cuts_good : (decision : Decision) (word : List ℕ) (words : List (List ℕ)) (next : DecisionStage) → KeepsSums decision → after_cuts decision word words ≡ Ok next → Good next
cuts_good decision word words next good e = by (bytes_eq word (codes "cut")) (bytes_eq word (codes "done")) e
  where
    by : (cut done : Bool) → cond cut (as_now OfCuts (with_cut decision words)) (cond done (as_now Done (nothing_behind decision words)) (Err P1)) ≡ Ok next → Good next
    by true done e =
        let more = then_of (λ decision. Ok (OfCuts decision)) (with_cut decision words) next e in
        let one = then_of (λ line. Ok (with_line decision line)) (in_form (line_from [] words)) more.0 more.1 in
        let few = from_sum [] words one.0 (form_of (line_from [] words) one.0 one.1) in
        let keeps : KeepsSums (with_line decision one.0) = record { sum = good.sum; sums = each_append (λ (line : Line). line.sum ≤ 64 * 10 ^ 12) decision.cert (one.0 ∷ []) good.sums (few, tt) } in
        let same : with_line decision one.0 ≡ more.0 = ok_inside one.2 in
        good_at (OfCuts more.0) next more.2 (subst KeepsSums same keeps)
    by false true e = done_good decision words next good e
    by false false e = absurd (cc)

stage_good : (line : ℕ) (stage : ProblemStage) (word : List ℕ) (words : List (List ℕ)) (next : DecisionStage) → after_stage line stage word words ≡ Ok next → Good next
stage_good line Start word words next e = of_good (after_word line Start word words) next e
stage_good line Begun word words next e = of_good (after_word line Begun word words) next e
stage_good line (Axes axes) word words next e = of_good (after_word line (Axes axes) word words) next e
stage_good line (Functions sum) word words next e = of_good (after_word line (Functions sum) word words) next e
stage_good line (Ended problem) word words next e = problem_good problem word words next (line_of line (after_problem problem word words) next e)

phase_good : (line : ℕ) (phase : DecisionStage) (words : List (List ℕ)) (next : DecisionStage) → Good phase → phase_after line phase words ≡ Ok next → Good next
phase_good line phase [] next good e = good_at phase next e good
phase_good line (OfProblem stage) (word ∷ words) next good e = stage_good line stage word words next e
phase_good line (OfCuts decision) (word ∷ words) next good e = cuts_good decision word words next good (line_of line (after_cuts decision word words) next e)
phase_good line (Done decision) (word ∷ words) next good e = absurd (cc)

read_good : (raws : List (List ℕ)) (lines : ℕ) (phase last : DecisionStage) → Good phase → after_lines phase_after lines phase raws ≡ Ok last → Good last
read_good [] lines phase last good e = good_at phase last e good
read_good (raw ∷ raws) lines phase last good e =
    let one = then_of (λ next. after_lines phase_after (suc lines) next raws) (phase_after (suc lines) phase (line_words raw)) last e in
    read_good raws (suc lines) one.0 last (phase_good (suc lines) phase (line_words raw) one.0 good one.1) one.2

whole_good : (last : ℕ) (phase : DecisionStage) (decision : Decision) → Good phase → whole_decision last phase ≡ Ok decision → KeepsSums decision
whole_good last (OfProblem stage) decision good e = absurd (cc)
whole_good last (OfCuts cuts) decision good e = absurd (cc)
whole_good last (Done done) decision good e = let same : done ≡ decision = cc in subst KeepsSums same good

read_keeps : (bytes : List ℕ) (decision : Decision) → decision_of bytes ≡ Ok decision → KeepsSums decision
read_keeps bytes decision e =
    let one = then_of (whole_decision (max 1 (length (raw_lines bytes)))) (after_lines phase_after 0 (OfProblem Start) (raw_lines bytes)) decision (decision_read bytes ∙ e) in
    whole_good (max 1 (length (raw_lines bytes))) one.0 decision (read_good (raw_lines bytes) 0 (OfProblem Start) one.0 tt one.1) one.2

-- as the reader answers
pub read_sums : (bytes : List ℕ) (answer : Result Decision ReadFault) → decision_of bytes ≡ answer → IfOk answer HasSums
read_sums bytes (Ok decision) e =
    let kept = read_keeps bytes decision e in
    record { claim = kept.sum; lines = λ k line at. each_at (λ (l : Line). l.sum ≤ 64 * 10 ^ 12) decision.cert k line kept.sums at }
read_sums bytes (Err fault) e = tt

-- where no line is left
pub read_whole : (bytes : List ℕ) (lines last : ℕ) (phase : DecisionStage) (left : List ℕ) → IsRead phase_after (OfProblem Start) bytes lines phase left → left ≡ [] → last ≡ max lines 1 → decision_of bytes ≡ whole_decision last phase
read_whole bytes lines last phase left read none is =
    let so_far : after_lines phase_after 0 (OfProblem Start) (raw_lines bytes) ≡ Ok phase = read.so_far ∙ ap (λ text. after_lines phase_after lines phase (raw_lines text)) none in
    let counted : length (raw_lines bytes) ≡ lines = sym read.counted ∙ (ap (λ text. lines + length (raw_lines text)) none ∙ omega arith) in
    let same : max 1 (length (raw_lines bytes)) ≡ last = omega (arith, counted, is) in
    sym (decision_read bytes) ∙ ap (and_then (whole_decision (max 1 (length (raw_lines bytes))))) so_far ∙ ap (λ n. whole_decision n phase) same

pub problem_whole : (bytes : List ℕ) (lines last : ℕ) (stage : ProblemStage) (left : List ℕ) → IsRead stage_after Start bytes lines stage left → left ≡ [] → last ≡ max lines 1 → problem_of bytes ≡ whole_problem last stage
problem_whole bytes lines last stage left read none is =
    let so_far : after_lines stage_after 0 Start (raw_lines bytes) ≡ Ok stage = read.so_far ∙ ap (λ text. after_lines stage_after lines stage (raw_lines text)) none in
    let counted : length (raw_lines bytes) ≡ lines = sym read.counted ∙ (ap (λ text. lines + length (raw_lines text)) none ∙ omega arith) in
    let same : max 1 (length (raw_lines bytes)) ≡ last = omega (arith, counted, is) in
    sym (problem_read bytes) ∙ ap (and_then (whole_problem (max 1 (length (raw_lines bytes))))) so_far ∙ ap (λ n. whole_problem n stage) same
