-- Line by line the reader comes to what the lines stand for.
use Rattle.std.proofs.Common.{◌≡◌, ℕ, suc, Bool, true, false, cond, Result, Ok, Err, List, [], ◌∷◌, length, refl, ◌∙◌}
use Rattle.std.specs.Prelude.{bytes_eq, codes}
use Rattle.moos_text.specs.declared.cause.Cause.{Cause}
use Rattle.moos_text.specs.declared.cause.Cause.TheVariants.{P1}
use Rattle.moos_text.specs.declared.cause.ReadFault.{ReadFault}
use Rattle.moos_text.specs.declared.cause.ReadFault.TheVariants.{At}
use Rattle.moos_text.specs.Lines.{raw_lines, last_line}
use Rattle.moos_text.specs.Refusals.{and_then, at_line}
use Rattle.ivp_domain.specs.declared.axis.Axis.{Axis}
use Rattle.ivp_problem.specs.Problems.{WeightedSum}
use Rattle.ivp_cert.specs.declared.claim.Decision.{Decision}
use Rattle.ivp_cert.specs.declared.phase.DecisionStage.{DecisionStage}
use Rattle.ivp_cert.specs.declared.phase.DecisionStage.TheVariants.{Done, OfCuts, OfProblem}
use Rattle.ivp_cert.specs.declared.stage.ProblemStage.{ProblemStage}
use Rattle.ivp_cert.specs.declared.stage.ProblemStage.TheVariants.{Axes, Begun, Ended, Functions, Start}
use Rattle.ivp_cert.specs.Decisions.{claim_in, cuts_in, decision_of, with_claim, with_cut}
use Rattle.ivp_cert.specs.Pieces.{piece_of}
use Rattle.ivp_cert.specs.Problems.{axes_in, domain_in, nothing_behind, ended_early, finished, functions_in, is_first, problem_in, problem_of, with_domain, with_function, with_piece}
use Rattle.ivp_cert.specs.SaidLines.{nothing_more, SaidLine, said_from, said_with}
use Rattle.ivp_cert.specs.Stages.{after_first, after_word, stage_after, as_now, phase_after, whole_decision, whole_problem}
use Rattle.ivp_cert.specs.Unfinished.{UnfinishedSum}
use Rattle.ivp_cert.specs.Words.{line_words}
use Rattle.ivp_cert.proofs.Reading.{after_lines}

-- what `next` makes of a problem and the lines behind it
abbrev Next : Type 0 → Type 0
Next A = WeightedSum → List SaidLine → Result A ReadFault

-- what the lines that are left come to, behind a stage
abbrev behind : {A : Type 0} → ℕ → Next A → List SaidLine → ProblemStage → Result A ReadFault
behind last next lines Start = problem_in last next lines
behind last next lines Begun = domain_in last next lines
behind last next lines (Axes axes) = axes_in last next axes lines
behind last next lines (Functions sum) = functions_in last next sum lines
behind last next lines (Ended problem) = next problem lines

-- and behind a phase
abbrev behind_phase : ℕ → List SaidLine → DecisionStage → Result Decision ReadFault
behind_phase last lines (OfProblem stage) = behind last (claim_in last) lines stage
behind_phase last lines (OfCuts decision) = cuts_in last decision lines
behind_phase last lines (Done decision) = nothing_more decision lines

-- a good line is followed by what stands behind it, and a refused one by nothing
one_line : {X S A : Type 0} (form : X → S) (rest : S → Result A ReadFault) (line : ℕ) (r : Result X Cause) → and_then rest (at_line line (as_now form r)) ≡ and_then (λ x. rest (form x)) (at_line line r)
one_line form rest line (Ok x) = refl
one_line form rest line (Err cause) = refl

one_formed : {X S A E : Type 0} (form : X → S) (rest : S → Result A E) (r : Result X E) → and_then rest (as_now form r) ≡ and_then (λ x. rest (form x)) r
one_formed form rest (Ok x) = refl
one_formed form rest (Err fault) = refl

finished_line : {X Y S A : Type 0} (form : Y → S) (rest : S → Result A ReadFault) (line : ℕ) (read : X → Result Y Cause) (r : Result X ReadFault) → and_then rest (and_then (λ x. at_line line (as_now form (read x))) r) ≡ and_then (λ x. and_then (λ y. rest (form y)) (at_line line (read x))) r
finished_line form rest line read (Ok x) = one_line form rest line (read x)
finished_line form rest line read (Err fault) = refl

then_each : {X S A E : Type 0} (whole : S → Result A E) (read : X → Result S E) (rest : X → Result A E) (r : Result X E) → ((x : X) → and_then whole (read x) ≡ rest x) → and_then whole (and_then read r) ≡ and_then rest r
then_each whole read rest (Ok x) same = same x
then_each whole read rest (Err fault) same = refl

-- a line of a problem
line_begun : {A : Type 0} (last : ℕ) (next : Next A) (lines : List SaidLine) (line : ℕ) (first : Bool) → and_then (behind last next lines) (at_line line (cond first (Ok Begun) (Err P1))) ≡ cond first (domain_in last next lines) (Err (At line P1))
line_begun last next lines line true = refl
line_begun last next lines line false = refl

line_domain : {A : Type 0} (last : ℕ) (next : Next A) (lines : List SaidLine) (line : ℕ) (words : List (List ℕ)) (domain : Bool) → and_then (behind last next lines) (at_line line (cond domain (as_now Axes (with_domain [] words)) (Err P1))) ≡ cond domain (and_then (λ axes. axes_in last next axes lines) (at_line line (with_domain [] words))) (Err (At line P1))
line_domain last next lines line words true = one_line Axes (behind last next lines) line (with_domain [] words)
line_domain last next lines line words false = refl

abbrev no_function : List Axis → WeightedSum
no_function axes = record { axes = axes; terms = [] }

line_axes : {A : Type 0} (last : ℕ) (next : Next A) (lines : List SaidLine) (axes : List Axis) (line : ℕ) (words : List (List ℕ)) (domain function end : Bool) → and_then (behind last next lines) (at_line line (cond domain (as_now Axes (with_domain axes words)) (cond function (as_now Functions (with_function (no_function axes) line words)) (cond end (Err (ended_early words)) (Err P1))))) ≡ cond domain (and_then (λ more. axes_in last next more lines) (at_line line (with_domain axes words))) (cond function (and_then (λ sum. functions_in last next sum lines) (at_line line (with_function (no_function axes) line words))) (cond end (Err (At line (ended_early words))) (Err (At line P1))))
line_axes last next lines axes line words true function end = one_line Axes (behind last next lines) line (with_domain axes words)
line_axes last next lines axes line words false true end = one_line Functions (behind last next lines) line (with_function (no_function axes) line words)
line_axes last next lines axes line words false false true = refl
line_axes last next lines axes line words false false false = refl

line_functions : {A : Type 0} (last : ℕ) (next : Next A) (lines : List SaidLine) (sum : UnfinishedSum) (line : ℕ) (words : List (List ℕ)) (piece function end : Bool) → and_then (behind last next lines) (cond piece (at_line line (as_now Functions (with_piece sum (piece_of (length sum.before.axes) words)))) (cond function (and_then (λ before. at_line line (as_now Functions (with_function before line words))) (finished sum)) (cond end (and_then (λ whole. at_line line (as_now Ended (nothing_behind whole words))) (finished sum)) (Err (At line P1))))) ≡ cond piece (and_then (λ more. functions_in last next more lines) (at_line line (with_piece sum (piece_of (length sum.before.axes) words)))) (cond function (and_then (λ before. and_then (λ more. functions_in last next more lines) (at_line line (with_function before line words))) (finished sum)) (cond end (and_then (λ whole. and_then (λ problem. next problem lines) (at_line line (nothing_behind whole words))) (finished sum)) (Err (At line P1))))
line_functions last next lines sum line words true function end = one_line Functions (behind last next lines) line (with_piece sum (piece_of (length sum.before.axes) words))
line_functions last next lines sum line words false true end = finished_line Functions (behind last next lines) line (λ before. with_function before line words) (finished sum)
line_functions last next lines sum line words false false true = finished_line Ended (behind last next lines) line (λ whole. nothing_behind whole words) (finished sum)
line_functions last next lines sum line words false false false = refl

abbrev said : ℕ → List ℕ → List (List ℕ) → SaidLine
said line word words = record { line = line; word = word; rest = words }

-- before `end`
abbrev Open : ProblemStage → Type 0
Open Start = Unit {0}
Open Begun = Unit {0}
Open (Axes axes) = Unit {0}
Open (Functions sum) = Unit {0}
Open (Ended problem) = ⊥

stage_line : {A : Type 0} (last : ℕ) (next : Next A) (lines : List SaidLine) (stage : ProblemStage) (line : ℕ) (word : List ℕ) (words : List (List ℕ)) → Open stage → and_then (behind last next lines) (after_word line stage word words) ≡ behind last next (said line word words ∷ lines) stage
stage_line last next lines Start line word words is = line_begun last next lines line (is_first word words)
stage_line last next lines Begun line word words is = line_domain last next lines line words (bytes_eq word (codes "domain"))
stage_line last next lines (Axes axes) line word words is = line_axes last next lines axes line words (bytes_eq word (codes "domain")) (bytes_eq word (codes "function")) (bytes_eq word (codes "end"))
stage_line last next lines (Functions sum) line word words is = line_functions last next lines sum line words (bytes_eq word (codes "piece")) (bytes_eq word (codes "function")) (bytes_eq word (codes "end"))
stage_line last next lines (Ended problem) line word words is = absurd is

problem_line : (last : ℕ) (lines : List SaidLine) (stage : ProblemStage) (line : ℕ) (word : List ℕ) (words : List (List ℕ)) → and_then (behind last nothing_more lines) (after_word line stage word words) ≡ behind last nothing_more (said line word words ∷ lines) stage
problem_line last lines Start line word words = stage_line last nothing_more lines Start line word words tt
problem_line last lines Begun line word words = stage_line last nothing_more lines Begun line word words tt
problem_line last lines (Axes axes) line word words = stage_line last nothing_more lines (Axes axes) line word words tt
problem_line last lines (Functions sum) line word words = stage_line last nothing_more lines (Functions sum) line word words tt
problem_line last lines (Ended problem) line word words = refl

-- a line of a decision
of_stage : (last : ℕ) (lines : List SaidLine) (stage : ProblemStage) (line : ℕ) (word : List ℕ) (words : List (List ℕ)) → Open stage → and_then (behind_phase last lines) (as_now OfProblem (after_word line stage word words)) ≡ behind last (claim_in last) (said line word words ∷ lines) stage
of_stage last lines stage line word words is = one_formed OfProblem (behind_phase last lines) (after_word line stage word words) ∙ stage_line last (claim_in last) lines stage line word words is

line_claim : (last : ℕ) (lines : List SaidLine) (problem : WeightedSum) (line : ℕ) (words : List (List ℕ)) (claim : Bool) → and_then (behind_phase last lines) (at_line line (cond claim (as_now OfCuts (with_claim problem words)) (Err P1))) ≡ cond claim (and_then (λ decision. cuts_in last decision lines) (at_line line (with_claim problem words))) (Err (At line P1))
line_claim last lines problem line words true = one_line OfCuts (behind_phase last lines) line (with_claim problem words)
line_claim last lines problem line words false = refl

line_cuts : (last : ℕ) (lines : List SaidLine) (decision : Decision) (line : ℕ) (words : List (List ℕ)) (cut done : Bool) → and_then (behind_phase last lines) (at_line line (cond cut (as_now OfCuts (with_cut decision words)) (cond done (as_now Done (nothing_behind decision words)) (Err P1)))) ≡ cond cut (and_then (λ more. cuts_in last more lines) (at_line line (with_cut decision words))) (cond done (and_then (λ whole. nothing_more whole lines) (at_line line (nothing_behind decision words))) (Err (At line P1)))
line_cuts last lines decision line words true done = one_line OfCuts (behind_phase last lines) line (with_cut decision words)
line_cuts last lines decision line words false true = one_line Done (behind_phase last lines) line (nothing_behind decision words)
line_cuts last lines decision line words false false = refl

decision_line : (last : ℕ) (lines : List SaidLine) (phase : DecisionStage) (line : ℕ) (word : List ℕ) (words : List (List ℕ)) → and_then (behind_phase last lines) (after_first line phase word words) ≡ behind_phase last (said line word words ∷ lines) phase
decision_line last lines (OfProblem Start) line word words = of_stage last lines Start line word words tt
decision_line last lines (OfProblem Begun) line word words = of_stage last lines Begun line word words tt
decision_line last lines (OfProblem (Axes axes)) line word words = of_stage last lines (Axes axes) line word words tt
decision_line last lines (OfProblem (Functions sum)) line word words = of_stage last lines (Functions sum) line word words tt
decision_line last lines (OfProblem (Ended problem)) line word words = line_claim last lines problem line words (bytes_eq word (codes "decision"))
decision_line last lines (OfCuts decision) line word words = line_cuts last lines decision line words (bytes_eq word (codes "cut")) (bytes_eq word (codes "done"))
decision_line last lines (Done decision) line word words = refl

-- all lines, by those behind the first
problem_more : (last : ℕ) (raws : List (List ℕ)) (lines : ℕ) (stage : ProblemStage) (words : List (List ℕ)) → ((next : ProblemStage) → and_then (whole_problem last) (after_lines stage_after (suc lines) next raws) ≡ behind last nothing_more (said_from (suc lines) raws) next) → and_then (whole_problem last) (and_then (λ next. after_lines stage_after (suc lines) next raws) (stage_after (suc lines) stage words)) ≡ behind last nothing_more (said_with (suc lines) words (said_from (suc lines) raws)) stage
problem_more last raws lines stage [] others = others stage
problem_more last raws lines stage (word ∷ words) others =
    then_each (whole_problem last) (λ next. after_lines stage_after (suc lines) next raws) (behind last nothing_more (said_from (suc lines) raws)) (after_word (suc lines) stage word words) others
    ∙ problem_line last (said_from (suc lines) raws) stage (suc lines) word words

decision_more : (last : ℕ) (raws : List (List ℕ)) (lines : ℕ) (phase : DecisionStage) (words : List (List ℕ)) → ((next : DecisionStage) → and_then (whole_decision last) (after_lines phase_after (suc lines) next raws) ≡ behind_phase last (said_from (suc lines) raws) next) → and_then (whole_decision last) (and_then (λ next. after_lines phase_after (suc lines) next raws) (phase_after (suc lines) phase words)) ≡ behind_phase last (said_with (suc lines) words (said_from (suc lines) raws)) phase
decision_more last raws lines phase [] others = others phase
decision_more last raws lines phase (word ∷ words) others =
    then_each (whole_decision last) (λ next. after_lines phase_after (suc lines) next raws) (behind_phase last (said_from (suc lines) raws)) (after_first (suc lines) phase word words) others
    ∙ decision_line last (said_from (suc lines) raws) phase (suc lines) word words

problem_lines : (last : ℕ) (raws : List (List ℕ)) (lines : ℕ) (stage : ProblemStage) → and_then (whole_problem last) (after_lines stage_after lines stage raws) ≡ behind last nothing_more (said_from lines raws) stage
problem_lines last [] lines Start = refl
problem_lines last [] lines Begun = refl
problem_lines last [] lines (Axes axes) = refl
problem_lines last [] lines (Functions sum) = refl
problem_lines last [] lines (Ended problem) = refl
problem_lines last (raw ∷ raws) lines stage = problem_more last raws lines stage (line_words raw) (λ next. problem_lines last raws (suc lines) next)

decision_lines : (last : ℕ) (raws : List (List ℕ)) (lines : ℕ) (phase : DecisionStage) → and_then (whole_decision last) (after_lines phase_after lines phase raws) ≡ behind_phase last (said_from lines raws) phase
decision_lines last [] lines (OfProblem Start) = refl
decision_lines last [] lines (OfProblem Begun) = refl
decision_lines last [] lines (OfProblem (Axes axes)) = refl
decision_lines last [] lines (OfProblem (Functions sum)) = refl
decision_lines last [] lines (OfProblem (Ended problem)) = refl
decision_lines last [] lines (OfCuts decision) = refl
decision_lines last [] lines (Done decision) = refl
decision_lines last (raw ∷ raws) lines phase = decision_more last raws lines phase (line_words raw) (λ next. decision_lines last raws (suc lines) next)

pub problem_read : (bytes : List ℕ) → and_then (whole_problem (last_line bytes)) (after_lines stage_after 0 Start (raw_lines bytes)) ≡ problem_of bytes
problem_read bytes = problem_lines (last_line bytes) (raw_lines bytes) 0 Start

pub decision_read : (bytes : List ℕ) → and_then (whole_decision (last_line bytes)) (after_lines phase_after 0 (OfProblem Start) (raw_lines bytes)) ≡ decision_of bytes
decision_read bytes = decision_lines (last_line bytes) (raw_lines bytes) 0 (OfProblem Start)
