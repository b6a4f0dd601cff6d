-- The printed lines of a certificate, as the reader takes them.
use Rattle.std.proofs.Common.{◌≡◌, ℕ, suc, ◌+◌, ◌*◌, ◌^◌, ◌<◌, ◌≤◌, true, false, nat_lt, Some, Ok, List, [], ◌∷◌, ◌++◌, flat_map, length, map, refl, ap, sym, ◌∙◌, arith, append_assoc, append-nil, length-append}
use Rattle.std.specs.Prelude.{bytes_eq, codes, decimal}
use Rattle.std.specs.List.{AllByRecursion as Each}
use Rattle.std.proofs.lemmas.Bool.{lt-ltb}
use Rattle.moos_io.proofs.Lists.{each_append, each_from}
use Rattle.moos_text.specs.Numbers.{unsigned_text}
use Rattle.ivp_cert.specs.declared.cert.Line.{Line}
use Rattle.ivp_cert.specs.declared.claim.Decision.{Decision}
use Rattle.ivp_cert.specs.declared.phase.DecisionStage.TheVariants.{Done, OfCuts}
use Rattle.ivp_cert.specs.Decisions.{line_from}
use Rattle.ivp_cert.specs.Stages.{after_first}
use Rattle.ivp_cert.specs.Printed.{IsPrefix, IsPrintableLine}
use Rattle.ivp_cert.specs.Texts.{line_text}
use Rattle.ivp_cert.proofs.PrintedLines.{IsWord}
use Rattle.ivp_cert.proofs.PrintedNumbers.{decimal_field, decimal_word, InField, place_back, sum_back, unsigned_word}
use Rattle.ivp_cert.proofs.PrintedTexts.{cut_line, cut_words}
use Rattle.ivp_cert.proofs.Taking.{Leads, Takes, takes_as, takes_both, takes_line, takes_none, takes_to}
use Rattle.ivp_cert.proofs.TakingClaims.{places_words}

-- a printed number isn't `:`
no_colon : (text : List ℕ) → 0 < length text → Each InField text → bytes_eq text (codes ":") ≡ false
no_colon [] some each = absurd (omega (arith, some))
no_colon (byte ∷ text) some each = rw each.0.apart refl

line_back : (before path : List ℕ) (sum index : ℕ) → Each (λ number. number < 2 ^ 32) path → length before + length path ≤ 64 → sum ≤ 64 * 10 ^ 12 → index < 2 ^ 32 → line_from before (map decimal path ++ codes ":" ∷ unsigned_text sum ∷ decimal index ∷ []) ≡ Some (record { path = before ++ path; sum = sum; index = index })
line_back before [] sum index each few most small = rw (sum_back sum most, place_back index small, append-nil before) refl
line_back before (number ∷ path) sum index each few most small =
    let within = each.0 in
    let word = decimal_word number (omega (arith, within)) in
    let apart = no_colon (decimal number) word.some (decimal_field number (omega (arith, within))) in
    let room : nat_lt (length before) 64 ≡ true = lt-ltb (length before) 64 (omega (arith, few)) in
    rw (apart, room, place_back number within)
    (line_back (before ++ number ∷ []) path sum index each.1 (omega (arith, few, length-append before (number ∷ []))) most small
    ∙ ap (λ (all : List ℕ). let line : Line = record { path = all; sum = sum; index = index } in Some line) (append_assoc before (number ∷ []) path))

cut_word : IsWord (codes "cut")
cut_word = record { some = omega arith; ink = (omega arith, (omega arith, (omega arith, tt))) }

colon_word : IsWord (codes ":")
colon_word = record { some = omega arith; ink = (omega arith, tt) }

done_word : IsWord (codes "done")
done_word = record { some = omega arith; ink = (omega arith, (omega arith, (omega arith, (omega arith, tt)))) }

-- the decision with more lines
abbrev with_lines : Decision → List Line → Decision
with_lines decision lines = record { problem = decision.problem; claim = decision.claim; cert = decision.cert ++ lines }

cut_taken : (lines : ℕ) (prefix : List ℕ) (decision : Decision) (line : Line) → IsPrefix prefix → IsPrintableLine line → Takes lines (OfCuts decision) (line_text prefix line) (suc lines) (OfCuts (with_lines decision (line ∷ [])))
cut_taken lines prefix decision line at is =
    let then = OfCuts (with_lines decision (line ∷ [])) in
    let path = each_from (λ number. number < 2 ^ 32) line.path is.path in
    let sum = is.sum in
    let index = is.index in
    let words = each_append IsWord (map decimal line.path) (codes ":" ∷ unsigned_text line.sum ∷ decimal line.index ∷ []) (places_words line.path path) (colon_word, (unsigned_word line.sum (omega (arith, sum)), (decimal_word line.index (omega (arith, index)), tt))) in
    let few = is.few in
    let first : after_first (suc lines) (OfCuts decision) (codes "cut") (cut_words line) ≡ Ok then = rw (line_back [] line.path line.sum line.index path (omega (arith, few)) sum index) refl in
    takes_as lines (suc lines) (OfCuts decision) then (line_text prefix line) _ (cut_line prefix line) (takes_line lines (OfCuts decision) then prefix 99 (codes "ut") (cut_words line) at (omega arith) cut_word words first)

pub cuts_taken : (lines : ℕ) (prefix : List ℕ) (decision : Decision) (cert : List Line) → IsPrefix prefix → Each IsPrintableLine cert → Leads lines (OfCuts decision) (flat_map (line_text prefix) cert) (OfCuts (with_lines decision cert))
cuts_taken lines prefix decision [] at each = record {
  more = lines;
  takes = takes_to lines lines (OfCuts decision) (OfCuts decision) (OfCuts (with_lines decision [])) [] (ap (λ all. OfCuts (record decision { cert = all })) (sym (append-nil decision.cert))) (takes_none lines (OfCuts decision));
}
cuts_taken lines prefix decision (line ∷ cert) at each =
    let next = with_lines decision (line ∷ []) in
    let one = cut_taken lines prefix decision line at each.0 in
    let others = cuts_taken (suc lines) prefix next cert at each.1 in
    let all = takes_both lines (suc lines) others.more (OfCuts decision) (OfCuts next) (OfCuts (with_lines next cert)) (line_text prefix line) (flat_map (line_text prefix) cert) one others.takes in
    record {
      more = others.more;
      takes = takes_to lines others.more (OfCuts decision) (OfCuts (with_lines next cert)) (OfCuts (with_lines decision (line ∷ cert))) (line_text prefix line ++ flat_map (line_text prefix) cert) (ap (λ ls. OfCuts (record decision { cert = ls })) (append_assoc decision.cert (line ∷ []) cert)) all;
    }

pub done_taken : (lines : ℕ) (prefix : List ℕ) (decision : Decision) → IsPrefix prefix → Takes lines (OfCuts decision) (prefix ++ codes "done\n") (suc lines) (Done decision)
done_taken lines prefix decision at = takes_line lines (OfCuts decision) (Done decision) prefix 100 (codes "one") [] at (omega arith) done_word tt refl
