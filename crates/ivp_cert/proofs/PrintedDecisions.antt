-- Reading a printed decision gives the decision back.
use Rattle.std.proofs.Common.{◌≡◌, ℕ, suc, Ok, List, [], ◌∷◌, ◌++◌, flat_map, length, ap, sym, ◌∙◌, append-nil}
use Rattle.std.specs.Prelude.{codes, max}
use Rattle.std.specs.List.{concat}
use Rattle.moos_io.proofs.Lists.{each_from}
use Rattle.moos_text.specs.Lines.{raw_lines}
use Rattle.ivp_cert.specs.declared.claim.Decision.{Decision}
use Rattle.ivp_cert.specs.declared.phase.DecisionStage.TheVariants.{Done, OfCuts, OfProblem}
use Rattle.ivp_cert.specs.declared.stage.ProblemStage.TheVariants.{Ended, Start}
use Rattle.ivp_cert.specs.Decisions.{decision_of}
use Rattle.ivp_cert.specs.Printed.{AllOf, IsPrefix, IsPrintableLine, IsPrintableProblem}
use Rattle.ivp_cert.specs.Stages.{whole_decision}
use Rattle.moos_text.specs.Refusals.{and_then}
use Rattle.ivp_cert.specs.Texts.{claim_text, decision_lines, line_text, problem_text}
use Rattle.ivp_cert.proofs.Following.{decision_read}
use Rattle.ivp_cert.proofs.Taking.{Leads, takes_both}
use Rattle.ivp_cert.proofs.TakingClaims.{claim_taken, IsPrintableClaim}
use Rattle.ivp_cert.proofs.TakingCuts.{cuts_taken, done_taken}
use Rattle.ivp_cert.proofs.TakingProblems.{problem_taken}

-- what printing needs of a decision
pub record IsPrintable (decision : Decision) : Type 0 where
  pub problem : IsPrintableProblem decision.problem
  pub claim : IsPrintableClaim decision.problem decision.claim
  pub lines : AllOf IsPrintableLine decision.cert

decision_taken : (prefix : List ℕ) (decision : Decision) → IsPrefix prefix → IsPrintable decision → Leads 0 (OfProblem Start) (decision_lines prefix decision) (Done decision)
decision_taken prefix decision at is =
    let problem = problem_taken prefix decision.problem at is.problem in
    let bare = OfCuts (record { problem = decision.problem; claim = decision.claim; cert = [] }) in
    let claim = claim_taken problem.more prefix decision.problem decision.claim at is.problem.lawful.domain is.claim in
    let cuts = cuts_taken (suc problem.more) prefix (record { problem = decision.problem; claim = decision.claim; cert = [] }) decision.cert at (each_from IsPrintableLine decision.cert is.lines) in
    let done = done_taken cuts.more prefix decision at in
    let claim_is = claim_text prefix (length decision.problem.axes) decision.claim in
    let cuts_are = flat_map (line_text prefix) decision.cert in
    let end = concat (prefix ∷ codes "done\n" ∷ []) in
    record {
      more = suc cuts.more;
      takes =
          takes_both 0 problem.more (suc cuts.more) (OfProblem Start) (OfProblem (Ended decision.problem)) (Done decision) (problem_text prefix decision.problem) (claim_is ++ (cuts_are ++ end)) problem.takes
          (takes_both problem.more (suc problem.more) (suc cuts.more) (OfProblem (Ended decision.problem)) bare (Done decision) claim_is (cuts_are ++ end) claim
          (takes_both (suc problem.more) cuts.more (suc cuts.more) bare (OfCuts decision) (Done decision) cuts_are end cuts.takes done));
    }

pub decision_back : (prefix : List ℕ) (decision : Decision) → IsPrefix prefix → IsPrintable decision → decision_of (decision_lines prefix decision) ≡ Ok decision
decision_back prefix decision at is =
    let text = decision_lines prefix decision in
    let read = (decision_taken prefix decision at is).takes.on [] in
    ap decision_of (sym (append-nil text)) ∙ sym (decision_read (text ++ [])) ∙ ap (and_then (whole_decision (max 1 (length (raw_lines (text ++ [])))))) read
