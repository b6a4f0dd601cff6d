-- What the bytes of a problem stand for: the problem, or its first refusal with its line and cause. First what one line
-- says, and then which line may follow which. `last` is the line that is refused if the lines end too early.
use Rattle.std.specs.Prelude.{ℕ, ℤ, pos, negsuc, Bool, false, ◌&&◌, nat_lt, if◌then◌else◌, List, [], ◌∷◌, ◌++◌, length, codes, bytes_eq, Option, Some, None, Result, Ok, Err}
use Rattle.moos_text.specs.declared.cause.Cause.{Cause}
use Rattle.moos_text.specs.declared.cause.Cause.TheVariants.{P1, P2, P3, P4, P5, P6, P7, P8, P9}
use Rattle.moos_text.specs.declared.cause.ReadFault.{ReadFault}
use Rattle.moos_text.specs.declared.cause.ReadFault.TheVariants.{At}
use Rattle.moos_text.specs.Lines.{last_line, raw_lines}
use Rattle.moos_text.specs.Refusals.{and_then, at_line}
use Rattle.ivp_domain.specs.declared.axis.Axis.{Axis}
use Rattle.ivp_domain.specs.declared.domain.DomainFault.{DomainFault}
use Rattle.ivp_domain.specs.Domains.{domain_of}
use Rattle.ivp_func.specs.declared.piece.Piece.{Piece}
use Rattle.ivp_func.specs.Pieces.{is_box_of}
use Rattle.ivp_func.specs.Functions.{has_values, is_partition}
use Rattle.ivp_problem.specs.declared.term.Term.{Term}
use Rattle.ivp_problem.specs.Problems.{is_weight, WeightedSum}
use Rattle.ivp_cert.specs.Pieces.{piece_of}
use Rattle.ivp_cert.specs.SaidLines.{nothing_more, SaidLine, said_from}
use Rattle.ivp_cert.specs.Unfinished.{UnfinishedSum}
use Rattle.ivp_cert.specs.Words.{axis_of}
use Rattle.moos_text.specs.Numbers.{milli_of}

-- `ivp 1`, by its first word and those behind
abbrev pub is_first : List ℕ → List (List ℕ) → Bool
is_first word [] = false
is_first word (one ∷ []) = bytes_eq word (codes "ivp") && bytes_eq one (codes "1")
is_first word (one ∷ more ∷ rest) = false

-- the axes, if they make a domain
abbrev pub over : Result (List Axis) DomainFault → Result (List Axis) Cause
over (Ok axes) = Ok axes
over (Err fault) = Err P2

-- the axes with one more: the fifth is refused, and one that makes no domain with those before it
abbrev pub with_axis : List Axis → Option Axis → Result (List Axis) Cause
with_axis axes None = Err P2
with_axis axes (Some axis) = if nat_lt (length axes) 4 then over (domain_of (axes ++ axis ∷ [])) else Err P2

-- what follows `domain` is one word
abbrev pub with_domain : List Axis → List (List ℕ) → Result (List Axis) Cause
with_domain axes [] = Err P1
with_domain axes (word ∷ []) = with_axis axes (axis_of word)
with_domain axes (word ∷ more ∷ rest) = Err P1

-- the sum with one more function, which has no piece yet; its weight counts thousandths, and one out of range is refused
abbrev pub with_weight : WeightedSum → ℕ → Option ℤ → Result UnfinishedSum Cause
with_weight before line None = Err P6
with_weight before line (Some (negsuc n)) = Err P6
with_weight before line (Some (pos weight)) =
    if is_weight weight then Ok (record { before = before; line = line; weight = weight; pieces = [] }) else Err P6

-- what follows `function` is one word; a 65th function is refused
abbrev pub with_function : WeightedSum → ℕ → List (List ℕ) → Result UnfinishedSum Cause
with_function before line [] = Err P1
with_function before line (word ∷ []) = if nat_lt (length before.terms) 64 then with_weight before line (milli_of word) else Err P7
with_function before line (word ∷ more ∷ rest) = Err P1

-- the sum with one more piece of the last function; the 4,097th is refused, and one whose box is empty or not in the domain
abbrev pub with_piece : UnfinishedSum → Option Piece → Result UnfinishedSum Cause
with_piece sum None = Err P1
with_piece sum (Some piece) =
    if nat_lt (length sum.pieces) 4096 then
    (if is_box_of sum.before.axes piece.area then Ok (record sum { pieces = sum.pieces ++ piece ∷ [] }) else Err P3)
    else Err P7

-- the last function, to which no more pieces are added
abbrev pub last_term : UnfinishedSum → Term
last_term sum = record { weight = sum.weight; func = record { axes = sum.before.axes; pieces = sum.pieces } }

-- The functions with the last one. It is refused at its own line if its pieces are no partition, and else if a
-- value of it is out of range.
abbrev pub finished : UnfinishedSum → Result WeightedSum ReadFault
finished sum =
    if is_partition sum.before.axes sum.pieces then
    (if has_values sum.before.axes sum.pieces then Ok (record sum.before { terms = sum.before.terms ++ last_term sum ∷ [] }) else Err (At sum.line P5))
    else Err (At sum.line P4)

-- no word follows `end`
abbrev pub nothing_behind : {A : Type 0} → A → List (List ℕ) → Result A Cause
nothing_behind value [] = Ok value
nothing_behind value (word ∷ rest) = Err P1

-- why `end` without a function is refused
abbrev pub ended_early : List (List ℕ) → Cause
ended_early [] = P8
ended_early (word ∷ rest) = P1

-- After a function comes a piece of it, or the next function or `end`, which finish it first; behind `end` is what
-- `next` makes of the problem and the lines that are left.
abbrev pub functions_in : {A : Type 0} → ℕ → (WeightedSum → List SaidLine → Result A ReadFault) → UnfinishedSum → List SaidLine → Result A ReadFault
functions_in last next sum [] = Err (At last P9)
functions_in last next sum (said ∷ behind) =
    if bytes_eq said.word (codes "piece") then
    and_then (λ more. functions_in last next more behind) (at_line said.line (with_piece sum (piece_of (length sum.before.axes) said.rest)))
    else if bytes_eq said.word (codes "function") then
    and_then (λ before. and_then (λ more. functions_in last next more behind) (at_line said.line (with_function before said.line said.rest))) (finished sum)
    else if bytes_eq said.word (codes "end") then
    and_then (λ whole. and_then (λ problem. next problem behind) (at_line said.line (nothing_behind whole said.rest))) (finished sum)
    else Err (At said.line P1)

-- after an axis comes another one, the first function, or `end`, which is too early
abbrev pub axes_in : {A : Type 0} → ℕ → (WeightedSum → List SaidLine → Result A ReadFault) → List Axis → List SaidLine → Result A ReadFault
axes_in last next axes [] = Err (At last P9)
axes_in last next axes (said ∷ behind) =
    if bytes_eq said.word (codes "domain") then and_then (λ more. axes_in last next more behind) (at_line said.line (with_domain axes said.rest))
    else if bytes_eq said.word (codes "function") then
    and_then (λ sum. functions_in last next sum behind) (at_line said.line (with_function (record { axes = axes; terms = [] }) said.line said.rest))
    else if bytes_eq said.word (codes "end") then Err (At said.line (ended_early said.rest))
    else Err (At said.line P1)

-- after `ivp 1` comes an axis
abbrev pub domain_in : {A : Type 0} → ℕ → (WeightedSum → List SaidLine → Result A ReadFault) → List SaidLine → Result A ReadFault
domain_in last next [] = Err (At last P9)
domain_in last next (said ∷ behind) =
    if bytes_eq said.word (codes "domain") then and_then (λ axes. axes_in last next axes behind) (at_line said.line (with_domain [] said.rest))
    else Err (At said.line P1)

-- a problem begins with `ivp 1`
abbrev pub problem_in : {A : Type 0} → ℕ → (WeightedSum → List SaidLine → Result A ReadFault) → List SaidLine → Result A ReadFault
problem_in last next [] = Err (At last P9)
problem_in last next (said ∷ behind) = if is_first said.word said.rest then domain_in last next behind else Err (At said.line P1)

-- What the bytes of a problem stand for. Lines are counted from 1.
abbrev pub problem_of : List ℕ → Result WeightedSum ReadFault
problem_of bytes = problem_in (last_line bytes) nothing_more (said_from 0 (raw_lines bytes))
