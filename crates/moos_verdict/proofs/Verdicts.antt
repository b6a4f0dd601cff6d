-- A text gets one verdict at most, and the report of a lawful history no other one than that it is accepted.
use Rattle.std.proofs.Common.{◌≡◌, ◌≢◌, ◌⊎◌, inl, inr, ℕ, zero, suc, ◌==◌, ◌<◌, ◌≤◌, Bool, true, false, cond, List, [], ◌∷◌, ◌++◌, length, refl, ap, sym, ◌∙◌, subst, append_assoc, arith}
use Rattle.std.specs.Prelude.{codes, decimal, nat_le}
use Rattle.std.specs.List.{concat}
use Rattle.std.proofs.lemmas.Bool.Decides.{nat_tests}
use Rattle.moos_lawful.proofs.Parts.{either}
use Rattle.moos_post.specs.History.{History, posts_of}
use Rattle.moos_report.specs.Report.{entries_text, head_text}
use Rattle.moos_verdict.specs.declared.verdict.Verdict.{Verdict}
use Rattle.moos_verdict.specs.declared.verdict.Verdict.TheVariants.{Accepted, CutOff, NotLawful}
use Rattle.moos_verdict.specs.Cases.{BeginsReportIn, Case, case_iterations, case_names, case_report, IsReportIn}
use Rattle.moos_verdict.specs.Judged.{BreaksOffBehind, IsJudgedAs, IsUnlawfulBehind}
use Rattle.moos_verdict.specs.Lines.{first_lines, whole_lines}

-- ---- lines of a text

-- the first lines of a text, and the rest
pub first_split : (count : ℕ) (text : List ℕ) → (rest : List ℕ) × (first_lines count text ++ rest ≡ text)
first_split zero text = (text, refl)
first_split (suc count) [] = ([], refl)
first_split (suc count) (byte ∷ text) = by (byte == 10) (first_split count text) (first_split (suc count) text)
  where
    by : (b : Bool) → (rest : List ℕ) × (first_lines count text ++ rest ≡ text) → (rest : List ℕ) × (first_lines (suc count) text ++ rest ≡ text)
        → (rest : List ℕ) × ((byte ∷ cond b (first_lines count text) (first_lines (suc count) text)) ++ rest ≡ byte ∷ text)
    by true one other = (one.0, ap (λ text. byte ∷ text) one.1)
    by false one other = (other.0, ap (λ text. byte ∷ text) other.1)

-- fewer lines, and those behind them
fewer_split : (count more : ℕ) (text : List ℕ) → count ≤ more → (rest : List ℕ) × (first_lines count text ++ rest ≡ first_lines more text)
fewer_split zero more text few = (first_lines more text, refl)
fewer_split (suc count) zero text few = absurd (omega (arith, few))
fewer_split (suc count) (suc more) [] few = ([], refl)
fewer_split (suc count) (suc more) (byte ∷ text) few = by (byte == 10) (fewer_split count more text (omega (arith, few))) (fewer_split (suc count) (suc more) text few)
  where
    by : (b : Bool) → (rest : List ℕ) × (first_lines count text ++ rest ≡ first_lines more text) → (rest : List ℕ) × (first_lines (suc count) text ++ rest ≡ first_lines (suc more) text)
        → (rest : List ℕ) × ((byte ∷ cond b (first_lines count text) (first_lines (suc count) text)) ++ rest ≡ byte ∷ cond b (first_lines more text) (first_lines (suc more) text))
    by true one other = (one.0, ap (λ text. byte ∷ text) one.1)
    by false one other = (other.0, ap (λ text. byte ∷ text) other.1)

-- the first lines of the first lines
first_first : (count more : ℕ) (text : List ℕ) → count ≤ more → first_lines count (first_lines more text) ≡ first_lines count text
first_first zero more text few = refl
first_first (suc count) zero text few = absurd (omega (arith, few))
first_first (suc count) (suc more) [] few = refl
first_first (suc count) (suc more) (byte ∷ text) few = by (byte == 10) (first_first count more text (omega (arith, few))) (first_first (suc count) (suc more) text few)
  where
    by : (b : Bool) → first_lines count (first_lines more text) ≡ first_lines count text → first_lines (suc count) (first_lines (suc more) text) ≡ first_lines (suc count) text
        → byte ∷ cond b (first_lines count (cond b (first_lines more text) (first_lines (suc more) text))) (first_lines (suc count) (cond b (first_lines more text) (first_lines (suc more) text)))
        ≡ byte ∷ cond b (first_lines count text) (first_lines (suc count) text)
    by true one other = ap (λ text. byte ∷ text) one
    by false one other = ap (λ text. byte ∷ text) other

-- as many lines as there are have all the ends
all_ends : (count : ℕ) (text : List ℕ) → whole_lines text ≤ count → whole_lines (first_lines count text) ≡ whole_lines text
all_ends zero text all = omega (arith, all)
all_ends (suc count) [] all = refl
all_ends (suc count) (byte ∷ text) all = by (byte == 10) all (all_ends count text) (all_ends (suc count) text)
  where
    by : (b : Bool) → cond b (suc (whole_lines text)) (whole_lines text) ≤ suc count → (whole_lines text ≤ count → whole_lines (first_lines count text) ≡ whole_lines text)
        → (whole_lines text ≤ suc count → whole_lines (first_lines (suc count) text) ≡ whole_lines text)
        → cond b (suc (whole_lines (cond b (first_lines count text) (first_lines (suc count) text)))) (whole_lines (cond b (first_lines count text) (first_lines (suc count) text)))
        ≡ cond b (suc (whole_lines text)) (whole_lines text)
    by true all one other = ap suc (one (omega (arith, all)))
    by false all one other = other all

-- a line ends in a text that ends with a line end
some_end : (text : List ℕ) → (count : ℕ) × (whole_lines (text ++ 10 ∷ []) ≡ suc count)
some_end [] = (0, refl)
some_end (byte ∷ text) = by (byte == 10) (some_end text)
  where
    by : (b : Bool) → (count : ℕ) × (whole_lines (text ++ 10 ∷ []) ≡ suc count) → (count : ℕ) × (cond b (suc (whole_lines (text ++ 10 ∷ []))) (whole_lines (text ++ 10 ∷ [])) ≡ suc count)
    by true rest = (whole_lines (text ++ 10 ∷ []), refl)
    by false rest = rest

-- the whole lines of such a text are all of it
all_whole : (text : List ℕ) → first_lines (whole_lines (text ++ 10 ∷ [])) (text ++ 10 ∷ []) ≡ text ++ 10 ∷ []
all_whole [] = refl
all_whole (byte ∷ text) = by (byte == 10) refl (all_whole text) (some_end text)
  where
    by : (b : Bool) → (byte == 10) ≡ b → first_lines (whole_lines (text ++ 10 ∷ [])) (text ++ 10 ∷ []) ≡ text ++ 10 ∷ [] → (count : ℕ) × (whole_lines (text ++ 10 ∷ []) ≡ suc count)
        → first_lines (cond b (suc (whole_lines (text ++ 10 ∷ []))) (whole_lines (text ++ 10 ∷ []))) (byte ∷ (text ++ 10 ∷ [])) ≡ byte ∷ (text ++ 10 ∷ [])
    by true is rest some = ap (λ b. byte ∷ cond b (first_lines (whole_lines (text ++ 10 ∷ [])) (text ++ 10 ∷ [])) (first_lines (suc (whole_lines (text ++ 10 ∷ []))) (text ++ 10 ∷ []))) is ∙ ap (λ text. byte ∷ text) rest
    by false is rest some =
        ap (λ count. first_lines count (byte ∷ (text ++ 10 ∷ []))) some.1
        ∙ ap (λ b. byte ∷ cond b (first_lines some.0 (text ++ 10 ∷ [])) (first_lines (suc some.0) (text ++ 10 ∷ []))) is
        ∙ ap (λ text. byte ∷ text) (ap (λ count. first_lines count (text ++ 10 ∷ [])) (sym some.1) ∙ rest)

-- ---- reports

-- a report ends with a line end
end_open : (entries posts : List ℕ) → concat (codes "%% end " ∷ entries ∷ codes " " ∷ posts ∷ codes "\n" ∷ []) ≡ (codes "%% end " ++ (entries ++ (codes " " ++ posts))) ++ codes "\n"
end_open entries posts = simp append_assoc refl

report_ends : (case : Case) (history : History) → (front : List ℕ) × (case_report case history ≡ front ++ 10 ∷ [])
report_ends case history =
    let head = head_text case.setup (case_names case) in
    let entries = entries_text case.setup 0 (case_iterations case history) (case_names case) [] history in
    let last = codes "%% end " ++ (decimal (length history) ++ (codes " " ++ decimal (length (posts_of history)))) in (
      head ++ (entries ++ last),
      ap (λ end. head ++ (entries ++ end)) (end_open (decimal (length history)) (decimal (length (posts_of history))))
          ∙ ap (λ text. head ++ text) (sym (append_assoc entries last (codes "\n"))) ∙ sym (append_assoc head (entries ++ last) (codes "\n")),
    )

-- so the whole lines of a report are the report
whole_report : (case : Case) (text : List ℕ) → IsReportIn case text → first_lines (whole_lines text) text ≡ text
whole_report case text is =
    let ends = report_ends case is.history in
    subst (λ text. first_lines (whole_lines text) text ≡ text) (sym (is.printed ∙ ends.1)) (all_whole ends.0)

-- a report begins with its first lines, however many
begins_so : (case : Case) (text : List ℕ) (count : ℕ) → IsReportIn case text → BeginsReportIn case (first_lines count text)
begins_so case text count is =
    let split = first_split count text in
    record { rest = split.0; whole = subst (IsReportIn case) (sym split.1) is }

-- and so does each of its beginnings
pub begins_fewer : (case : Case) (text : List ℕ) (count more : ℕ) → count ≤ more → BeginsReportIn case (first_lines more text) → BeginsReportIn case (first_lines count text)
begins_fewer case text count more few begins =
    let split = fewer_split count more text few in
    record {
      rest = split.0 ++ begins.rest;
      whole = subst (IsReportIn case) (ap (λ front. front ++ begins.rest) (sym split.1) ∙ append_assoc (first_lines count text) split.0 begins.rest) begins.whole;
    }

-- ---- verdicts

-- NOT LAWFUL BEHIND SO MANY LINES: with more of them no report begins.
pub begins_no_more : (case : Case) (text : List ℕ) (good count : ℕ) → IsUnlawfulBehind case text good → good < count → BeginsReportIn case (first_lines count text) → ⊥
begins_no_more case text good count judged more begins = let less : suc good ≤ count = omega (arith, more) in judged.first (begins_fewer case text (suc good) count less begins)

-- a report doesn't break off, and isn't unlawful anywhere
cut_no_report : (case : Case) (text : List ℕ) (good : ℕ) → BreaksOffBehind case text good → IsReportIn case text → ⊥
cut_no_report case text good judged is = judged.more (subst (IsReportIn case) (sym (ap (λ count. first_lines count text) (sym judged.all) ∙ whole_report case text is)) is)

unlawful_no_report : (case : Case) (text : List ℕ) (good : ℕ) → IsUnlawfulBehind case text good → IsReportIn case text → ⊥
unlawful_no_report case text good judged is = judged.first (begins_so case text (suc good) is)

-- what breaks off isn't unlawful anywhere
cut_not_unlawful : (case : Case) (text : List ℕ) (cut good : ℕ) → BreaksOffBehind case text cut → IsUnlawfulBehind case text good → ⊥
cut_not_unlawful case text cut good off judged = by judged.line
  where
    early : suc good ≤ cut → ⊥
    early less = judged.first (begins_fewer case text (suc good) cut less off.front)

    late : IsReportIn case (first_lines good text) → (nat_le (suc good) cut ≡ true) ⊎ (nat_le (suc good) cut ≡ false) → ⊥
    late is (inl e) = early (grind (arith, nat_tests, e))
    late is (inr e) =
        let ends = off.all in
        let past : cut ≤ good = grind (arith, nat_tests, e) in
        let all : whole_lines text ≤ good = omega (arith, past, ends) in
        off.more (subst (IsReportIn case)
        (sym (whole_report case (first_lines good text) is) ∙ ap (λ count. first_lines count (first_lines good text)) (all_ends good text all ∙ ends) ∙ first_first cut good text past) is)

    by : (good < whole_lines text) ⊎ IsReportIn case (first_lines good text) → ⊥
    by (inl less) = early (omega (arith, less, off.all))
    by (inr is) = late is (either (nat_le (suc good) cut))

-- NO OTHER VERDICT is given to a report.
pub no_report : (case : Case) (text : List ℕ) (verdict : Verdict) → verdict ≢ Accepted → IsJudgedAs case text verdict → IsReportIn case text → ⊥
no_report case text Accepted other judged is = other refl
no_report case text (CutOff good) other judged is = cut_no_report case text good judged is
no_report case text (NotLawful good) other judged is = unlawful_no_report case text good judged is

-- ONE VERDICT AT MOST is given to a text.
pub sole_verdict : (case : Case) (text : List ℕ) (one other : Verdict) → IsJudgedAs case text one → IsJudgedAs case text other → one ≡ other
sole_verdict case text Accepted Accepted is judged = refl
sole_verdict case text Accepted (CutOff good) is judged = absurd (cut_no_report case text good judged is)
sole_verdict case text Accepted (NotLawful good) is judged = absurd (unlawful_no_report case text good judged is)
sole_verdict case text (CutOff good) Accepted judged is = absurd (cut_no_report case text good judged is)
sole_verdict case text (CutOff one) (CutOff other) judged also = ap CutOff (sym judged.all ∙ also.all)
sole_verdict case text (CutOff one) (NotLawful other) judged also = absurd (cut_not_unlawful case text one other judged also)
sole_verdict case text (NotLawful good) Accepted judged is = absurd (unlawful_no_report case text good judged is)
sole_verdict case text (NotLawful one) (CutOff other) judged also = absurd (cut_not_unlawful case text other one also judged)
sole_verdict case text (NotLawful one) (NotLawful other) judged also =
    ap NotLawful (omega (arith, (λ (less : one < other). begins_no_more case text one other judged less also.front), (λ (less : other < one). begins_no_more case text other one also less judged.front)))
