-- The text of a decision: the lines of its problem, its point and sum, and the lines of its certificate. Weights and sums count
-- thousandths, and print as the numbers that they are.
use Rattle.std.specs.Prelude.{ℕ, ◌*◌, ℤ, List, [], ◌∷◌, ◌++◌, flat_map, length, take, slice_index, codes, decimal}
use Rattle.std.specs.Fmt.{signed_decimal}
use Rattle.std.specs.List.{concat}
use Rattle.moos_text.specs.Numbers.{milli_text, unsigned_text}
use Rattle.ivp_domain.specs.declared.axis.Axis.{Axis}
use Rattle.ivp_domain.specs.declared.boxes.BoxN.{BoxN}
use Rattle.ivp_func.specs.declared.piece.Piece.{Piece}
use Rattle.ivp_problem.specs.declared.term.Term.{Term}
use Rattle.ivp_problem.specs.Problems.{WeightedSum}
use Rattle.ivp_cert.specs.declared.cert.Line.{Line}
use Rattle.ivp_cert.specs.declared.claim.Claim.{Claim}
use Rattle.ivp_cert.specs.declared.claim.Decision.{Decision}

-- a number behind a blank
abbrev pub number_word : ℕ → List ℕ
number_word number = concat (codes " " ∷ decimal number ∷ [])

-- a number behind a blank, with `-` in front if it is below zero
abbrev pub integer_word : ℤ → List ℕ
integer_word number = concat (codes " " ∷ signed_decimal number ∷ [])

-- `domain NAME:LOW:HIGH:POINTS`
abbrev pub axis_text : List ℕ → Axis → List ℕ
axis_text prefix axis =
    concat
    (prefix ∷ codes "domain " ∷ axis.name ∷ codes ":" ∷ milli_text axis.low ∷ codes ":" ∷ milli_text axis.high ∷ codes ":"
    ∷ decimal axis.points ∷ codes "\n" ∷ [])

-- low and high on each axis, one axis after the other
abbrev pub ends_of : BoxN → List ℕ
ends_of area =
    slice_index area.low 0 ∷ slice_index area.high 0 ∷ slice_index area.low 1 ∷ slice_index area.high 1
    ∷ slice_index area.low 2 ∷ slice_index area.high 2 ∷ slice_index area.low 3 ∷ slice_index area.high 3 ∷ []

-- `piece`, then low and high on each of `axes` axes, the base, and the slope along each
abbrev pub piece_text : List ℕ → ℕ → Piece → List ℕ
piece_text prefix axes piece =
    concat (prefix ∷ codes "piece" ∷ [])
    ++ (flat_map number_word (take (2 * axes) (ends_of piece.area)) ++ (integer_word piece.base ++ (flat_map integer_word (take axes piece.slope) ++ codes "\n")))

-- `function WEIGHT`, and then its pieces
abbrev pub term_text : List ℕ → ℕ → Term → List ℕ
term_text prefix axes term =
    concat (prefix ∷ codes "function " ∷ unsigned_text term.weight ∷ codes "\n" ∷ []) ++ flat_map (piece_text prefix axes) term.func.pieces

-- the lines of a problem
abbrev pub problem_text : List ℕ → WeightedSum → List ℕ
problem_text prefix problem =
    concat (prefix ∷ codes "ivp 1\n" ∷ [])
    ++ (flat_map (axis_text prefix) problem.axes ++ (flat_map (term_text prefix (length problem.axes)) problem.terms ++ concat (prefix ∷ codes "end\n" ∷ [])))

-- `decision`, then the place on each of `axes` axes, and the sum
abbrev pub claim_text : List ℕ → ℕ → Claim → List ℕ
claim_text prefix axes claim =
    concat (prefix ∷ codes "decision" ∷ []) ++ (flat_map number_word (take axes claim.point.at) ++ concat (codes " " ∷ unsigned_text claim.sum ∷ codes "\n" ∷ []))

-- `cut`, then the path, `:`, and the sum and the index of the bound
abbrev pub line_text : List ℕ → Line → List ℕ
line_text prefix line =
    concat (prefix ∷ codes "cut" ∷ [])
    ++ (flat_map number_word line.path ++ concat (codes " : " ∷ unsigned_text line.sum ∷ codes " " ∷ decimal line.index ∷ codes "\n" ∷ []))

-- The text of a decision, each line behind the prefix.
abbrev pub decision_lines : List ℕ → Decision → List ℕ
decision_lines prefix decision =
    problem_text prefix decision.problem
    ++ (claim_text prefix (length decision.problem.axes) decision.claim ++ (flat_map (line_text prefix) decision.cert ++ concat (prefix ∷ codes "done\n" ∷ [])))
