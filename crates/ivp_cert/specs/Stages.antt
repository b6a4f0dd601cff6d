-- How far the reader has come, line by line. It serves the reader alone: what bytes stand for is said without it.
use Rattle.std.specs.Prelude.{ℕ, IsTrue, if◌then◌else◌, List, [], ◌∷◌, length, codes, bytes_eq, Result, Ok, Err}
use Rattle.moos_text.specs.declared.cause.Cause.{Cause}
use Rattle.moos_text.specs.declared.cause.Cause.TheVariants.{P1, P9}
use Rattle.moos_text.specs.declared.cause.ReadFault.{ReadFault}
use Rattle.moos_text.specs.declared.cause.ReadFault.TheVariants.{At}
use Rattle.moos_text.specs.Refusals.{and_then, at_line}
use Rattle.ivp_domain.specs.declared.axis.Axis.{Axis}
use Rattle.ivp_domain.specs.Domains.{is_point}
use Rattle.ivp_problem.specs.Problems.{WeightedSum}
use Rattle.ivp_cert.specs.declared.claim.Decision.{Decision}
use Rattle.ivp_cert.specs.declared.phase.DecisionStage.{DecisionStage}
use Rattle.ivp_cert.specs.declared.phase.DecisionStage.TheVariants.{OfProblem, OfCuts, Done}
use Rattle.ivp_cert.specs.declared.stage.ProblemStage.{ProblemStage}
use Rattle.ivp_cert.specs.declared.stage.ProblemStage.TheVariants.{Start, Begun, Axes, Functions, Ended}
use Rattle.ivp_cert.specs.Decisions.{with_claim, with_cut}
use Rattle.ivp_cert.specs.Pieces.{piece_of}
use Rattle.ivp_cert.specs.Problems.{nothing_behind, ended_early, finished, is_first, with_domain, with_function, with_piece}
use Rattle.ivp_cert.specs.Unfinished.{UnfinishedSum}

-- what a line leads to, as the stage or the phase in which the lines are then
abbrev pub as_now : {A B E : Type 0} → (A → B) → Result A E → Result B E
as_now form read = and_then (λ value. Ok (form value)) read

-- the first line
abbrev pub after_start : List ℕ → List (List ℕ) → Result ProblemStage Cause
after_start word words = if is_first word words then Ok Begun else Err P1

-- behind the first line
abbrev pub after_begun : List ℕ → List (List ℕ) → Result ProblemStage Cause
after_begun word words = if bytes_eq word (codes "domain") then as_now Axes (with_domain [] words) else Err P1

-- behind an axis
abbrev pub after_axes : List Axis → ℕ → List ℕ → List (List ℕ) → Result ProblemStage Cause
after_axes axes line word words =
    if bytes_eq word (codes "domain") then as_now Axes (with_domain axes words)
    else if bytes_eq word (codes "function") then as_now Functions (with_function (record { axes = axes; terms = [] }) line words)
    else if bytes_eq word (codes "end") then Err (ended_early words)
    else Err P1

-- in a function
abbrev pub after_functions : UnfinishedSum → ℕ → List ℕ → List (List ℕ) → Result ProblemStage ReadFault
after_functions sum line word words =
    if bytes_eq word (codes "piece") then at_line line (as_now Functions (with_piece sum (piece_of (length sum.before.axes) words)))
    else if bytes_eq word (codes "function") then and_then (λ before. at_line line (as_now Functions (with_function before line words))) (finished sum)
    else if bytes_eq word (codes "end") then and_then (λ whole. at_line line (as_now Ended (nothing_behind whole words))) (finished sum)
    else Err (At line P1)

-- the stage after one more line of a problem, by its first word and those behind
abbrev pub after_word : ℕ → ProblemStage → List ℕ → List (List ℕ) → Result ProblemStage ReadFault
after_word line Start word words = at_line line (after_start word words)
after_word line Begun word words = at_line line (after_begun word words)
after_word line (Axes axes) word words = at_line line (after_axes axes line word words)
after_word line (Functions sum) word words = after_functions sum line word words
after_word line (Ended problem) word words = Err (At line P1)

-- the stage after one more line of a problem, by the words of the line, which says nothing if it is blank
abbrev pub stage_after : ℕ → ProblemStage → List (List ℕ) → Result ProblemStage ReadFault
stage_after line stage [] = Ok stage
stage_after line stage (word ∷ words) = after_word line stage word words

-- the problem, if the lines come to `end`; else they end too early, which the last line is refused for
abbrev pub whole_problem : ℕ → ProblemStage → Result WeightedSum ReadFault
whole_problem last Start = Err (At last P9)
whole_problem last Begun = Err (At last P9)
whole_problem last (Axes axes) = Err (At last P9)
whole_problem last (Functions sum) = Err (At last P9)
whole_problem last (Ended problem) = Ok problem

-- behind a problem
abbrev pub after_problem : WeightedSum → List ℕ → List (List ℕ) → Result DecisionStage Cause
after_problem problem word words = if bytes_eq word (codes "decision") then as_now OfCuts (with_claim problem words) else Err P1

-- in a certificate
abbrev pub after_cuts : Decision → List ℕ → List (List ℕ) → Result DecisionStage Cause
after_cuts decision word words =
    if bytes_eq word (codes "cut") then as_now OfCuts (with_cut decision words)
    else if bytes_eq word (codes "done") then as_now Done (nothing_behind decision words)
    else Err P1

-- the phase after one more line behind a stage of the problem, by its first word and those behind
abbrev pub after_stage : ℕ → ProblemStage → List ℕ → List (List ℕ) → Result DecisionStage ReadFault
after_stage line Start word words = as_now OfProblem (after_word line Start word words)
after_stage line Begun word words = as_now OfProblem (after_word line Begun word words)
after_stage line (Axes axes) word words = as_now OfProblem (after_word line (Axes axes) word words)
after_stage line (Functions sum) word words = as_now OfProblem (after_word line (Functions sum) word words)
after_stage line (Ended problem) word words = at_line line (after_problem problem word words)

-- the phase after one more line of a decision, by its first word and those behind
abbrev pub after_first : ℕ → DecisionStage → List ℕ → List (List ℕ) → Result DecisionStage ReadFault
after_first line (OfProblem stage) word words = after_stage line stage word words
after_first line (OfCuts decision) word words = at_line line (after_cuts decision word words)
after_first line (Done decision) word words = Err (At line P1)

-- the phase after one more line of a decision, by the words of the line, which says nothing if it is blank
abbrev pub phase_after : ℕ → DecisionStage → List (List ℕ) → Result DecisionStage ReadFault
phase_after line phase [] = Ok phase
phase_after line phase (word ∷ words) = after_first line phase word words

-- the decision, if the lines come to `done`; else they end too early, which the last line is refused for
abbrev pub whole_decision : ℕ → DecisionStage → Result Decision ReadFault
whole_decision last (OfProblem stage) = Err (At last P9)
whole_decision last (OfCuts decision) = Err (At last P9)
whole_decision last (Done decision) = Ok decision

-- if something was decided, its point is one of the domain
abbrev pub HasPoint : DecisionStage → Type 0
HasPoint (OfProblem stage) = Unit {0}
HasPoint (OfCuts decision) = IsTrue (is_point decision.problem.axes decision.claim.point)
HasPoint (Done decision) = IsTrue (is_point decision.problem.axes decision.claim.point)
