-- The lines of a decision are passed over.
use Rattle.std.proofs.Common.{◌≡◌, ℕ, suc, ◌*◌, Some, None, Option, List, [], ◌∷◌, ◌++◌, flat_map, length, take, refl, arith, append_assoc}
use Rattle.std.specs.Prelude.{ℤ, pos, negsuc, codes, decimal, IsTrue, IfSome}
use Rattle.std.specs.List.{All, concat, AllByRecursion as Each}
use Rattle.std.specs.Fmt.{signed_decimal}
use Rattle.std.proofs.lemmas.List.Elements.{recursion_from_All}
use Rattle.moos_io.proofs.Lists.{each_weaker}
use Rattle.moos_text.specs.Numbers.{milli_text, unsigned_text}
use Rattle.ivp_domain.specs.declared.axis.Axis.{Axis}
use Rattle.ivp_func.specs.declared.piece.Piece.{Piece}
use Rattle.ivp_problem.specs.declared.term.Term.{Term}
use Rattle.ivp_problem.specs.Problems.{WeightedSum}
use Rattle.ivp_cert.specs.declared.cert.Line.{Line}
use Rattle.ivp_cert.specs.declared.claim.Claim.{Claim}
use Rattle.ivp_cert.specs.declared.claim.Decision.{Decision}
use Rattle.ivp_cert.specs.Texts.{axis_text, claim_text, decision_lines, ends_of, integer_word, line_text, number_word, piece_text, problem_text, term_text}
use Rattle.moos_report.specs.Community.{is_one_line}
use Rattle.moos_report.specs.IterationLines.{decided_text}
use Rattle.moos_report.proofs.PassedLines.{Clean, clean_line, clean_on, IsPassed, line_passed, milli_clean, passed_as, passed_each, passed_on, unsigned_clean, whole_lacks}

abbrev mark : List ℕ
mark = codes "%% "

-- words hold no line end
number_clean : (n : ℕ) → Clean (number_word n)
number_clean n = (λ same. absurd (omega (arith, same)), clean_on (decimal n) [] (whole_lacks n) tt)

signed_clean : (z : ℤ) → Clean (signed_decimal z)
signed_clean (pos n) = whole_lacks n
signed_clean (negsuc n) = (λ same. absurd (omega (arith, same)), whole_lacks (suc n))

integer_clean : (z : ℤ) → Clean (integer_word z)
integer_clean z = (λ same. absurd (omega (arith, same)), clean_on (signed_decimal z) [] (signed_clean z) tt)

words_clean : {X : Type 0} (word : X → List ℕ) (all : List X) → ((x : X) → Clean (word x)) → Clean (flat_map word all)
words_clean word [] clean = tt
words_clean word (x ∷ all) clean = clean_on (word x) (flat_map word all) (clean x) (words_clean word all clean)

each_of : {X : Type 0} (P : X → Type 0) (all : List X) → ((x : X) → P x) → Each P all
each_of P [] holds = tt
each_of P (x ∷ all) holds = (holds x, each_of P all holds)

-- after a sign that is no line end
behind : (sign : ℕ) (one other : List ℕ) → (sign ≡ 10 → ⊥) → Clean one → Clean other → Clean (one ++ sign ∷ other)
behind sign one other differs first second = clean_on one (sign ∷ other) first (differs, second)

-- the line of an axis
axis_open : (name low high points : List ℕ) → concat (mark ∷ codes "domain " ∷ name ∷ codes ":" ∷ low ∷ codes ":" ∷ high ∷ codes ":" ∷ points ∷ codes "\n" ∷ [])
    ≡ codes "%% domain " ++ ((name ++ 58 ∷ (low ++ 58 ∷ (high ++ 58 ∷ points))) ++ codes "\n")
axis_open name low high points = simp append_assoc refl

axis_passed : (axis : Axis) → IsTrue (is_one_line axis.name) → IsPassed (axis_text mark axis)
axis_passed axis line =
    let colon : 58 ≡ 10 → ⊥ = λ same. absurd (omega (arith, same)) in
    let low = milli_text axis.low in
    let high = milli_text axis.high in
    let points = decimal axis.points in
    passed_as (axis_open axis.name low high points)
    (line_passed (codes "%% domain ") (axis.name ++ 58 ∷ (low ++ 58 ∷ (high ++ 58 ∷ points))) (λ text. refl)
    (behind 58 axis.name (low ++ 58 ∷ (high ++ 58 ∷ points)) colon (clean_line axis.name line)
    (behind 58 low (high ++ 58 ∷ points) colon (milli_clean axis.low) (behind 58 high points colon (milli_clean axis.high) (whole_lacks axis.points)))))

-- the line of a piece
piece_open : (ends base slopes : List ℕ) → concat (mark ∷ codes "piece" ∷ []) ++ (ends ++ (base ++ (slopes ++ codes "\n")))
    ≡ codes "%% piece" ++ ((ends ++ (base ++ slopes)) ++ codes "\n")
piece_open ends base slopes = simp append_assoc refl

piece_passed : (axes : ℕ) (piece : Piece) → IsPassed (piece_text mark axes piece)
piece_passed axes piece =
    let ends = flat_map number_word (take (2 * axes) (ends_of piece.area)) in
    let base = integer_word piece.base in
    let slopes = flat_map integer_word (take axes piece.slope) in
    passed_as (piece_open ends base slopes)
    (line_passed (codes "%% piece") (ends ++ (base ++ slopes)) (λ text. refl)
    (clean_on ends (base ++ slopes) (words_clean number_word (take (2 * axes) (ends_of piece.area)) number_clean)
    (clean_on base slopes (integer_clean piece.base) (words_clean integer_word (take axes piece.slope) integer_clean))))

-- the lines of a function
weight_open : (weight : List ℕ) → concat (mark ∷ codes "function " ∷ weight ∷ codes "\n" ∷ []) ≡ codes "%% function " ++ (weight ++ codes "\n")
weight_open weight = refl

term_passed : (axes : ℕ) (term : Term) → IsPassed (term_text mark axes term)
term_passed axes term =
    passed_on (concat (mark ∷ codes "function " ∷ unsigned_text term.weight ∷ codes "\n" ∷ [])) (flat_map (piece_text mark axes) term.func.pieces)
    (passed_as (weight_open (unsigned_text term.weight)) (line_passed (codes "%% function ") (unsigned_text term.weight) (λ text. refl) (unsigned_clean term.weight)))
    (passed_each (piece_text mark axes) term.func.pieces (each_of (λ piece. IsPassed (piece_text mark axes piece)) term.func.pieces (piece_passed axes)))

-- the lines of a problem
problem_passed : (problem : WeightedSum) → All (λ (axis : Axis). IsTrue (is_one_line axis.name)) problem.axes → IsPassed (problem_text mark problem)
problem_passed problem lines =
    let axes = flat_map (axis_text mark) problem.axes in
    let terms = flat_map (term_text mark (length problem.axes)) problem.terms in
    let end = concat (mark ∷ codes "end\n" ∷ []) in
    passed_on (concat (mark ∷ codes "ivp 1\n" ∷ [])) (axes ++ (terms ++ end)) (λ after. refl)
    (passed_on axes (terms ++ end)
    (passed_each (axis_text mark) problem.axes
    (each_weaker (λ (axis : Axis). IsTrue (is_one_line axis.name)) (λ axis. IsPassed (axis_text mark axis)) axis_passed problem.axes
    (recursion_from_All (λ (axis : Axis). IsTrue (is_one_line axis.name)) problem.axes lines)))
    (passed_on terms end
    (passed_each (term_text mark (length problem.axes)) problem.terms (each_of (λ term. IsPassed (term_text mark (length problem.axes) term)) problem.terms (term_passed (length problem.axes))))
    (λ after. refl)))

-- the line of what is claimed
claim_open : (places sum : List ℕ) → concat (mark ∷ codes "decision" ∷ []) ++ (places ++ concat (codes " " ∷ sum ∷ codes "\n" ∷ []))
    ≡ codes "%% decision" ++ ((places ++ 32 ∷ sum) ++ codes "\n")
claim_open places sum = simp append_assoc refl

claim_passed : (axes : ℕ) (claim : Claim) → IsPassed (claim_text mark axes claim)
claim_passed axes claim =
    let places = flat_map number_word (take axes claim.point.at) in
    passed_as (claim_open places (unsigned_text claim.sum))
    (line_passed (codes "%% decision") (places ++ 32 ∷ unsigned_text claim.sum) (λ text. refl)
    (behind 32 places (unsigned_text claim.sum) (λ same. absurd (omega (arith, same))) (words_clean number_word (take axes claim.point.at) number_clean) (unsigned_clean claim.sum)))

-- a line of the certificate
cut_open : (path sum index : List ℕ) → concat (mark ∷ codes "cut" ∷ []) ++ (path ++ concat (codes " : " ∷ sum ∷ codes " " ∷ index ∷ codes "\n" ∷ []))
    ≡ codes "%% cut" ++ ((path ++ 32 ∷ (codes ": " ++ (sum ++ 32 ∷ index))) ++ codes "\n")
cut_open path sum index = simp append_assoc refl

cut_passed : (line : Line) → IsPassed (line_text mark line)
cut_passed line =
    let blank : 32 ≡ 10 → ⊥ = λ same. absurd (omega (arith, same)) in
    let colon : 58 ≡ 10 → ⊥ = λ same. absurd (omega (arith, same)) in
    let path = flat_map number_word line.path in
    let sum = unsigned_text line.sum in
    let index = decimal line.index in
    passed_as (cut_open path sum index)
    (line_passed (codes "%% cut") (path ++ 32 ∷ (codes ": " ++ (sum ++ 32 ∷ index))) (λ text. refl)
    (behind 32 path (codes ": " ++ (sum ++ 32 ∷ index)) blank (words_clean number_word line.path number_clean)
    (colon, (blank, behind 32 sum index blank (unsigned_clean line.sum) (whole_lacks line.index)))))

lines_passed : (decision : Decision) → All (λ (axis : Axis). IsTrue (is_one_line axis.name)) decision.problem.axes → IsPassed (decision_lines mark decision)
lines_passed decision lines =
    let axes = length decision.problem.axes in
    let cuts = flat_map (line_text mark) decision.cert in
    let done = concat (mark ∷ codes "done\n" ∷ []) in
    passed_on (problem_text mark decision.problem) (claim_text mark axes decision.claim ++ (cuts ++ done)) (problem_passed decision.problem lines)
    (passed_on (claim_text mark axes decision.claim) (cuts ++ done) (claim_passed axes decision.claim)
    (passed_on cuts done (passed_each (line_text mark) decision.cert (each_of (λ line. IsPassed (line_text mark line)) decision.cert cut_passed)) (λ after. refl)))

pub decided_passed : (decision : Option Decision) → IfSome decision (λ decided. All (λ (axis : Axis). IsTrue (is_one_line axis.name)) decided.problem.axes) → IsPassed (decided_text decision)
decided_passed None lines = λ after. refl
decided_passed (Some decision) lines = lines_passed decision lines
