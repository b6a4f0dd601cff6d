-- The lines of a file one after another, and what the whole comes to.
use Rattle.std.proofs.Common.{◌≡◌, ℕ, suc, ◌+◌, ◌≤◌, Result, Ok, Err, List, [], ◌∷◌, length, ap, sym, subst, ◌∙◌, arith, add-one}
use Rattle.std.specs.Prelude.{IfErr, IfOk}
use Rattle.moos_text.specs.declared.cause.ReadFault.{ReadFault}
use Rattle.moos_text.specs.declared.cause.ReadFault.TheVariants.{At, NoMemory}
use Rattle.moos_text.specs.Lines.{first_line, raw_lines, trimmed, without_return, words_of}
use Rattle.moos_text.specs.Refusals.{and_then, IsFirst}
use Rattle.ivp_cert.specs.Words.{line_words, without_prefix}

-- what one line more comes to, by its number and its words
abbrev pub After : Type 0 → Type 0
After S = ℕ → S → List (List ℕ) → Result S ReadFault

-- What the lines lead to from here on, if so many were read. One line more is taken by its number and its words.
abbrev pub after_lines : {S : Type 0} → After S → ℕ → S → List (List ℕ) → Result S ReadFault
after_lines after lines state [] = Ok state
after_lines after lines state (raw ∷ raws) = and_then (λ next. after_lines after (suc lines) next raws) (after (suc lines) state (line_words raw))

-- what was read of the bytes: so many lines, which come to this state, and what is left
pub record IsRead {S : Type 0} (after : After S) (start : S) (bytes : List ℕ) (lines : ℕ) (state : S) (left : List ℕ) : Type 0 where
  pub so_far : after_lines after 0 start (raw_lines bytes) ≡ after_lines after lines state (raw_lines left)
  pub counted : lines + length (raw_lines left) ≡ length (raw_lines bytes)
  pub within : lines + length left ≤ length bytes

-- the next of the lines that are left
pub record IsNext (left line rest : List ℕ) : Type 0 where
  pub text : line ≡ without_return (first_line left)
  pub lines : raw_lines left ≡ first_line left ∷ raw_lines rest
  pub shorter : suc (length rest) ≤ length left

-- what a line says, as it is given to the reader of one line
abbrev pub said_by : List ℕ → List (List ℕ)
said_by line = words_of (without_prefix (trimmed line))

-- the lines that are left, by the next one
lines_left : {S : Type 0} (after : After S) (lines : ℕ) (state : S) (left line rest : List ℕ) → IsNext left line rest → after_lines after lines state (raw_lines left) ≡ and_then (λ next. after_lines after (lines + 1) next (raw_lines rest)) (after (lines + 1) state (said_by line))
lines_left after lines state left line rest next =
    ap (after_lines after lines state) next.lines
    ∙ ap (λ words. and_then (λ s. after_lines after (suc lines) s (raw_lines rest)) (after (suc lines) state (said_by words))) (sym next.text)
    ∙ ap (λ n. and_then (λ s. after_lines after n s (raw_lines rest)) (after n state (said_by line))) (sym (add-one lines))

-- a good line more
pub one_read : {S : Type 0} (after : After S) (start : S) (bytes : List ℕ) (lines : ℕ) (state then : S) (left line rest : List ℕ) → IsRead after start bytes lines state left → IsNext left line rest → after (lines + 1) state (said_by line) ≡ Ok then → IsRead after start bytes (lines + 1) then rest
one_read after start bytes lines state then left line rest read next good = record {
  so_far = read.so_far ∙ lines_left after lines state left line rest next ∙ ap (and_then (λ s. after_lines after (lines + 1) s (raw_lines rest))) good;
  counted = let long = ap length next.lines in omega (arith, read.counted);
  within = omega (arith, read.within, next.shorter);
}

-- a line that is refused, which is the first one
first_then : {S A : Type 0} (whole : S → Result A ReadFault) (fault : ReadFault) (r : Result S ReadFault) → IsFirst fault r → IsFirst fault (and_then whole r)
first_then whole (At line cause) r e = ap (and_then whole) e
first_then whole NoMemory r e = tt

first_as : {S : Type 0} (fault : ReadFault) (r same : Result S ReadFault) → r ≡ same → IsFirst fault r → IsFirst fault same
first_as fault r same e is = subst (IsFirst fault) e is

pub one_refused : {S A : Type 0} (after : After S) (start : S) (whole : S → Result A ReadFault) (all : Result A ReadFault) (bytes : List ℕ) (lines : ℕ) (state : S) (left line rest : List ℕ) (fault : ReadFault) → and_then whole (after_lines after 0 start (raw_lines bytes)) ≡ all → IsRead after start bytes lines state left → IsNext left line rest → IsFirst fault (after (lines + 1) state (said_by line)) → IsFirst fault all
one_refused after start whole all bytes lines state left line rest fault e read next is =
    let here = first_then (λ s. after_lines after (lines + 1) s (raw_lines rest)) fault (after (lines + 1) state (said_by line)) is in
    let same = read.so_far ∙ lines_left after lines state left line rest next in
    first_as fault _ all e (first_then whole fault _ (first_as fault _ _ (sym same) here))

-- what the reader answers, where it is what the bytes stand for
pub told_value : {A : Type 0} (all answer : Result A ReadFault) → all ≡ answer → IfOk answer (λ value. all ≡ Ok value)
told_value all (Ok value) e = e
told_value all (Err fault) e = tt

pub told_fault : {A : Type 0} (all answer : Result A ReadFault) → all ≡ answer → IfErr answer (λ fault. IsFirst fault all)
told_fault all (Ok value) e = tt
told_fault all (Err (At line cause)) e = e
told_fault all (Err NoMemory) e = tt
