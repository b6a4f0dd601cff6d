-- The reader's stages, line by line, on examples worked by hand.
use Rattle.std.proofs.Common.{◌≡◌, true, false, [], ◌∷◌, refl}
use Rattle.std.specs.Prelude.{codes, Ok, Err, pos, negsuc}
use Rattle.ivp_domain.specs.Boxes.{point_from}
use Rattle.ivp_func.specs.declared.func.FuncFault.TheVariants.{TooMany, NotPartition, ValueOut, NoMemory}
use Rattle.moos_text.specs.declared.cause.Cause.TheVariants.{P1, P4, P5, P7, P8, P9, P10}
use Rattle.moos_text.specs.declared.cause.LineFault.TheVariants.{Refused, NoMemory as OutOfMemory}
use Rattle.moos_text.specs.declared.cause.ReadFault.TheVariants.{At}
use Rattle.moos_text.specs.Lines.{raw_lines, words_of}
use Rattle.ivp_problem.proofs.Examples.{two}
use Rattle.ivp_cert.specs.declared.claim.Decision.{Decision}
use Rattle.ivp_cert.specs.declared.phase.DecisionStage.TheVariants.{OfProblem, OfCuts, Done}
use Rattle.ivp_cert.specs.declared.stage.ProblemStage.TheVariants.{Start, Begun, Axes, Functions, Ended}
use Rattle.ivp_cert.specs.Making.{line_fault}
use Rattle.ivp_cert.specs.Pieces.{are_slopes, is_slope_where}
use Rattle.ivp_cert.specs.Stages.{stage_after, HasPoint, phase_after, whole_decision, whole_problem}
use Rattle.ivp_cert.specs.Unfinished.{UnfinishedSum}
use Rattle.ivp_cert.proofs.CertExamples.{decision, problem_bytes}
use Rattle.ivp_cert.proofs.Examples.{course, on_course}
use Rattle.ivp_cert.proofs.Reading.{after_lines}

-- the first lines of a problem: its axis, and a function that has no piece yet
abbrev begun : UnfinishedSum
begun = record { before = record { axes = course; terms = [] }; line = 3; weight = 100000; pieces = [] }

so_far : after_lines stage_after 0 Start (raw_lines (codes "ivp 1\ndomain course:0:359:360\nfunction 100\n")) ≡ Ok (Functions begun)
so_far = refl

-- a piece more is one of this function, and a blank line says nothing
with_a_piece : stage_after 4 (Functions begun) (words_of (codes "piece 0 359 7 0")) ≡ Ok (Functions (record begun { pieces = on_course 0 359 (pos 7) (pos 0) ∷ [] }))
with_a_piece = refl

blank_line : stage_after 4 (Functions begun) [] ≡ Ok (Functions begun)
blank_line = refl

-- each stage refuses what belongs to another
too_early : (stage_after 1 Start (words_of (codes "domain course:0:359:360")) ≡ Err (At 1 P1)) × (stage_after 2 Begun (words_of (codes "function 100")) ≡ Err (At 2 P1)) × (stage_after 3 (Axes course) (words_of (codes "end")) ≡ Err (At 3 P8))
too_early = (refl, refl, refl)

too_late : (stage_after 2 Begun (words_of (codes "ivp 1")) ≡ Err (At 2 P1)) × (stage_after 4 (Functions begun) (words_of (codes "domain a:0:1:2")) ≡ Err (At 4 P1)) × (stage_after 11 (Ended two) (words_of (codes "end")) ≡ Err (At 11 P1))
too_late = (refl, refl, refl)

-- a line that ends a function without a piece is refused at the function's line, and not at its own
no_piece : stage_after 5 (Functions begun) (words_of (codes "end")) ≡ Err (At 3 P4)
no_piece = refl

-- all lines of a problem come to its end; whatever stage they come to before, they end too early
all_lines : after_lines stage_after 0 Start (raw_lines problem_bytes) ≡ Ok (Ended two)
all_lines = refl

ends : (whole_problem 10 (Ended two) ≡ Ok two) × (whole_problem 3 (Functions begun) ≡ Err (At 3 P9)) × (whole_problem 2 (Axes course) ≡ Err (At 2 P9)) × (whole_problem 1 Begun ≡ Err (At 1 P9)) × (whole_problem 1 Start ≡ Err (At 1 P9))
ends = (refl, refl, refl, refl, refl)

-- behind the problem stands what is claimed, and no second one; a point outside the domain is refused
abbrev claimed : Decision
claimed = record decision { cert = [] }

claim : phase_after 11 (OfProblem (Ended two)) (words_of (codes "decision 0 1 0 0.075")) ≡ Ok (OfCuts claimed)
claim = refl

no_claim : (phase_after 11 (OfProblem (Ended two)) (words_of (codes "done")) ≡ Err (At 11 P1)) × (phase_after 11 (OfProblem (Ended two)) (words_of (codes "decision 0 2 0 0.075")) ≡ Err (At 11 P10)) × (phase_after 12 (OfCuts claimed) (words_of (codes "decision 0 1 0 0.075")) ≡ Err (At 12 P1))
no_claim = (refl, refl, refl)

-- and then the certificate up to `done`, behind which no line says anything
all_cuts : after_lines phase_after 11 (OfCuts claimed) (raw_lines (codes "cut 0 0 : 0.075 2\n\ncut 0 1 : 0.055 10\ndone\n\n")) ≡ Ok (Done decision)
all_cuts = refl

cut_behind_done : phase_after 15 (Done decision) (words_of (codes "cut 0 1 : 0.055 10")) ≡ Err (At 15 P1)
cut_behind_done = refl

whole : (whole_decision 14 (Done decision) ≡ Ok decision) × (whole_decision 13 (OfCuts decision) ≡ Err (At 13 P9)) × (whole_decision 10 (OfProblem (Ended two)) ≡ Err (At 10 P9))
whole = (refl, refl, refl)

-- what was decided has a point of the domain: not one past the end of an axis, nor past the last axis
points : HasPoint (OfProblem Start) × HasPoint (OfCuts claimed) × HasPoint (Done decision)
points = (tt, refl, refl)

past_an_axis : HasPoint (OfCuts (record claimed { claim = record { point = point_from 0 2 0 0; sum = 75 } })) → ⊥
past_an_axis is = let none : false ≡ true = is in absurd (cc)

past_the_last_axis : HasPoint (Done (record decision { claim = record { point = point_from 0 1 0 1; sum = 75 } })) → ⊥
past_the_last_axis is = let none : false ≡ true = is in absurd (cc)

-- a slope stands on an axis that is there, of at most 100,000 either way
slopes : (are_slopes 2 (pos 7 ∷ negsuc 99999 ∷ pos 0 ∷ pos 0 ∷ []) ≡ true) × (are_slopes 1 (pos 7 ∷ negsuc 99999 ∷ pos 0 ∷ pos 0 ∷ []) ≡ false) × (are_slopes 2 (pos 7 ∷ negsuc 100000 ∷ pos 0 ∷ pos 0 ∷ []) ≡ false)
slopes = (refl, refl, refl)

one_slope : (is_slope_where true (pos 100000) ≡ true) × (is_slope_where true (pos 100001) ≡ false) × (is_slope_where false (pos 0) ≡ true) × (is_slope_where false (pos 1) ≡ false)
one_slope = (refl, refl, refl, refl)

-- why pieces make no function, as the cause of a line
causes : (line_fault TooMany ≡ Refused P7) × (line_fault (NotPartition (point_from 0 0 0 0) 2) ≡ Refused P4) × (line_fault (ValueOut (point_from 0 0 0 0) (negsuc 0)) ≡ Refused P5) × (line_fault NoMemory ≡ OutOfMemory)
causes = (refl, refl, refl, refl)
