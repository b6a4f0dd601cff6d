-- Behind what was printed so far a report has the line of the next entry.
use Rattle.std.proofs.Common.{◌≡◌, ℕ, List, [], ◌∷◌, ◌++◌, length, drop, refl, ap, ◌∙◌, append_assoc}
use Rattle.std.specs.Prelude.{codes, decimal}
use Rattle.std.specs.List.{concat}
use Rattle.moos_post.specs.declared.entry.Call.{Call}
use Rattle.moos_post.specs.declared.entry.Call.TheVariants.{Register, Unregister, Post as Posts, Fetch}
use Rattle.moos_post.specs.declared.entry.Entry.{Entry}
use Rattle.moos_post.specs.History.{History, name_of}
use Rattle.moos_text.specs.Numbers.{unsigned_text}
use Rattle.moos_report.specs.IterationLines.{outcome_text}
use Rattle.moos_report.specs.Parts.{front_text, FrontsStay}
use Rattle.moos_report.specs.Report.{call_text, end_text, entries_text, entry_text}
use Rattle.moos_verdict.specs.Asked.{asking_text, ReportsAsk}

-- a blank stands before what an entry asks for
call_blank : (names : List (List ℕ)) (past : History) (entry : Entry) (call : Call) → call_text names past entry call ≡ 32 ∷ drop 1 (call_text names past entry call)
call_blank names past entry (Register regs) = refl
call_blank names past entry (Unregister var source) = refl
call_blank names past entry (Posts batch) = refl
call_blank names past entry Fetch = refl

line_open : (number stamp name asked after : List ℕ) → (concat (codes "%% entry " ∷ number ∷ codes " " ∷ stamp ∷ codes " " ∷ name ∷ []) ++ 32 ∷ asked) ++ after
    ≡ concat (codes "%% entry " ∷ number ∷ codes " " ∷ stamp ∷ codes " " ∷ name ∷ codes " " ∷ []) ++ (asked ++ after)
line_open number stamp name asked after = simp append_assoc refl

-- AN ENTRY'S TEXT begins with the line that tells its client.
pub asks : (names : List (List ℕ)) (past : History) (entry : Entry) (after : List ℕ) → entry_text names past entry ++ after ≡ asking_text names (length past) entry ++ (drop 1 (call_text names past entry entry.call) ++ after)
asks names past entry after =
    ap (λ t. (concat (codes "%% entry " ∷ decimal (length past) ∷ codes " " ∷ unsigned_text entry.stamp ∷ codes " " ∷ name_of names entry.client ∷ []) ++ t) ++ after) (call_blank names past entry entry.call)
    ∙ line_open (decimal (length past)) (unsigned_text entry.stamp) (name_of names entry.client) (drop 1 (call_text names past entry entry.call)) after

pub reports_ask : FrontsStay → ReportsAsk
reports_ask stay setup names history more entry before iterations within =
    let outcome = outcome_text setup 0 (before ++ iterations) names history entry in
    let left = entries_text setup 0 (before ++ iterations) names (history ++ entry ∷ []) more in
    let end = end_text (history ++ entry ∷ more) in (
      drop 1 (call_text names history entry entry.call) ++ ((outcome ++ left) ++ end),
      stay setup names history (entry ∷ more) before iterations within
          ∙ ap (λ text. front_text setup names history before ++ text) (append_assoc (entry_text names history entry) (outcome ++ left) end ∙ asks names history entry ((outcome ++ left) ++ end)),
    )
