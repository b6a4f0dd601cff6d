-- Printed lines one after another, as the reader takes them.
use Rattle.std.proofs.Common.{◌≡◌, ℕ, suc, ◌≤◌, Ok, List, [], ◌∷◌, ◌++◌, refl, ap, sym, ◌∙◌, append_assoc}
use Rattle.std.specs.List.{AllByRecursion as Each}
use Rattle.moos_text.specs.Lines.{raw_lines}
use Rattle.ivp_cert.specs.declared.phase.DecisionStage.{DecisionStage}
use Rattle.ivp_cert.specs.Printed.{IsPrefix}
use Rattle.ivp_cert.specs.Stages.{after_first, phase_after}
use Rattle.moos_text.specs.Refusals.{and_then}
use Rattle.ivp_cert.proofs.PrintedLines.{IsWord, line_of, line_taken}
use Rattle.ivp_cert.proofs.Reading.{after_lines}

-- the text takes the reader from a phase, after so many lines, to another one
pub record Takes (lines : ℕ) (phase : DecisionStage) (text : List ℕ) (more : ℕ) (then : DecisionStage) : Type 0 where
  pub on : (rest : List ℕ) → after_lines phase_after lines phase (raw_lines (text ++ rest)) ≡ after_lines phase_after more then (raw_lines rest)

pub takes_none : (lines : ℕ) (phase : DecisionStage) → Takes lines phase [] lines phase
takes_none lines phase = record { on = λ rest. refl }

pub takes_both : (lines more most : ℕ) (phase then last : DecisionStage) (front back : List ℕ) → Takes lines phase front more then → Takes more then back most last → Takes lines phase (front ++ back) most last
takes_both lines more most phase then last front back one two = record {
  on = λ rest. ap (λ t. after_lines phase_after lines phase (raw_lines t)) (append_assoc front back rest) ∙ one.on (back ++ rest) ∙ two.on rest;
}

pub takes_as : (lines more : ℕ) (phase then : DecisionStage) (text same : List ℕ) → text ≡ same → Takes lines phase same more then → Takes lines phase text more then
takes_as lines more phase then text same e takes = rw e takes

pub takes_to : (lines more : ℕ) (phase then same : DecisionStage) (text : List ℕ) → then ≡ same → Takes lines phase text more then → Takes lines phase text more same
takes_to lines more phase then same text e takes = rw (sym e) takes

-- one line, by what its words come to
pub takes_line : (lines : ℕ) (phase then : DecisionStage) (prefix : List ℕ) (first : ℕ) (word : List ℕ) (words : List (List ℕ)) → IsPrefix prefix → 38 ≤ first → IsWord (first ∷ word) → Each IsWord words → after_first (suc lines) phase (first ∷ word) words ≡ Ok then → Takes lines phase (line_of prefix (first ∷ word) words) (suc lines) then
takes_line lines phase then prefix first word words at letter is all e = record {
  on = λ rest. line_taken phase_after lines phase prefix first word words rest at letter is all ∙ ap (λ r. and_then (λ next. after_lines phase_after (suc lines) next (raw_lines rest)) r) e;
}

-- the same, after some number of lines
pub record Leads (lines : ℕ) (phase : DecisionStage) (text : List ℕ) (then : DecisionStage) : Type 0 where
  pub more : ℕ
  pub takes : Takes lines phase text more then
