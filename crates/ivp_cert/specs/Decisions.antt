-- What the bytes of a decision stand for: the problem, the claim and the certificate, or the first refusal with its line
-- and cause. First what one line says, and then which line may follow which.
use Rattle.std.specs.Prelude.{ℕ, ◌*◌, ◌^◌, Bool, true, false, ◌&&◌, nat_lt, if◌then◌else◌, List, [], ◌∷◌, ◌++◌, length, take, codes, bytes_eq, Option, Some, None, option_map, option_and_then, Result, Ok, Err}
use Rattle.moos_text.specs.declared.cause.Cause.{Cause}
use Rattle.moos_text.specs.declared.cause.Cause.TheVariants.{P1, P9, P10}
use Rattle.moos_text.specs.declared.cause.ReadFault.{ReadFault}
use Rattle.moos_text.specs.declared.cause.ReadFault.TheVariants.{At}
use Rattle.moos_text.specs.Lines.{raw_lines, last_line}
use Rattle.moos_text.specs.Numbers.{unsigned_within}
use Rattle.moos_text.specs.Refusals.{and_then, at_line}
use Rattle.ivp_domain.specs.declared.axis.Axis.{Axis}
use Rattle.ivp_domain.specs.declared.boxes.Point.{Point}
use Rattle.ivp_problem.specs.Problems.{WeightedSum}
use Rattle.ivp_cert.specs.declared.cert.Line.{Line}
use Rattle.ivp_cert.specs.declared.claim.Decision.{Decision}
use Rattle.ivp_cert.specs.declared.claim.Spelled.{Spelled}
use Rattle.ivp_cert.specs.Problems.{nothing_behind, problem_in}
use Rattle.ivp_cert.specs.SaidLines.{nothing_more, SaidLine, said_from}
use Rattle.ivp_cert.specs.Words.{place_of}

-- a sum: a number without a sign, at most 64,000,000,000, in thousandths
abbrev pub sum_word : List ℕ → Option ℕ
sum_word word = unsigned_within (64 * 10 ^ 12) word

-- what the words of a claim spell: these places and this sum
abbrev pub spelled_with : List ℕ → ℕ → Spelled
spelled_with places sum = record { places = places; sum = sum }

-- what words spell behind these places: further places, and in the last word the sum
abbrev pub spelled : List ℕ → List (List ℕ) → Option Spelled
spelled places [] = None
spelled places (word ∷ []) = option_map (spelled_with places) (sum_word word)
spelled places (word ∷ next ∷ rest) = option_and_then (λ place. spelled (places ++ place ∷ []) (next ∷ rest)) (place_of word)

-- there is one place for each axis, below its number of points
abbrev pub are_on : List Axis → List ℕ → Bool
are_on [] [] = true
are_on [] (place ∷ places) = false
are_on (axis ∷ axes) [] = false
are_on (axis ∷ axes) (place ∷ places) = nat_lt place axis.points && are_on axes places

-- the point at these places, with 0 past the last axis
abbrev pub point_at : List ℕ → Point
point_at places = record { at = take 4 (places ++ 0 ∷ 0 ∷ 0 ∷ 0 ∷ []) }

-- a line outside its form is refused
abbrev pub in_form : {A : Type 0} → Option A → Result A Cause
in_form None = Err P1
in_form (Some value) = Ok value

-- the decision on a problem, which has no line yet; a point outside the domain is refused
abbrev pub claimed : WeightedSum → Spelled → Result Decision Cause
claimed problem of =
    if are_on problem.axes of.places
    then Ok (record { problem = problem; claim = record { point = point_at of.places; sum = of.sum }; cert = [] })
    else Err P10

-- what follows `decision` is places and a sum
abbrev pub with_claim : WeightedSum → List (List ℕ) → Result Decision Cause
with_claim problem words = and_then (claimed problem) (in_form (spelled [] words))

-- a line of the certificate
abbrev pub line_with : List ℕ → Option ℕ → Option ℕ → Option Line
line_with path (Some sum) (Some index) = Some (record { path = path; sum = sum; index = index })
line_with path None index = None
line_with path (Some sum) None = None

-- after a path and `:` come a sum and an index
abbrev pub bound_with : List ℕ → List (List ℕ) → Option Line
bound_with path [] = None
bound_with path (sum ∷ []) = None
bound_with path (sum ∷ index ∷ []) = line_with path (sum_word sum) (place_of index)
bound_with path (sum ∷ index ∷ more ∷ rest) = None

-- the line of these numbers of a path and what the words spell behind them; the path has at most 64
abbrev pub line_from : List ℕ → List (List ℕ) → Option Line
line_from path [] = None
line_from path (word ∷ words) =
    if bytes_eq word (codes ":") then bound_with path words
    else if nat_lt (length path) 64 then option_and_then (λ number. line_from (path ++ number ∷ []) words) (place_of word)
    else None

-- the decision with one more line of its certificate
abbrev pub with_line : Decision → Line → Decision
with_line decision line = record decision { cert = decision.cert ++ line ∷ [] }

-- what follows `cut` is a line of the certificate
abbrev pub with_cut : Decision → List (List ℕ) → Result Decision Cause
with_cut decision words = and_then (λ line. Ok (with_line decision line)) (in_form (line_from [] words))

-- in a certificate comes one more line, or `done`, after which no line says anything
abbrev pub cuts_in : ℕ → Decision → List SaidLine → Result Decision ReadFault
cuts_in last decision [] = Err (At last P9)
cuts_in last decision (said ∷ behind) =
    if bytes_eq said.word (codes "cut") then and_then (λ more. cuts_in last more behind) (at_line said.line (with_cut decision said.rest))
    else if bytes_eq said.word (codes "done") then and_then (λ whole. nothing_more whole behind) (at_line said.line (nothing_behind decision said.rest))
    else Err (At said.line P1)

-- after a problem comes what is claimed of it, and then the certificate
abbrev pub claim_in : ℕ → WeightedSum → List SaidLine → Result Decision ReadFault
claim_in last problem [] = Err (At last P9)
claim_in last problem (said ∷ behind) =
    if bytes_eq said.word (codes "decision") then and_then (λ decision. cuts_in last decision behind) (at_line said.line (with_claim problem said.rest))
    else Err (At said.line P1)

-- What the bytes of a decision stand for. Lines are counted from 1.
abbrev pub decision_of : List ℕ → Result Decision ReadFault
decision_of bytes = problem_in (last_line bytes) (claim_in (last_line bytes)) (said_from 0 (raw_lines bytes))
