-- How far a reader of sections has come, line by line. This serves readers alone: what bytes stand for is said without it.
use Rattle.std.specs.Prelude.{ℕ, suc, if◌then◌else◌, List, [], ◌∷◌, codes, bytes_eq, Result, Ok, Err}
use Rattle.moos_text.specs.declared.cause.Cause.{Cause}
use Rattle.moos_text.specs.declared.cause.ReadFault.{ReadFault}
use Rattle.moos_text.specs.declared.cause.ReadFault.TheVariants.{At}
use Rattle.moos_text.specs.Lines.{content_of, ends_with, trimmed}
use Rattle.moos_text.specs.Refusals.{and_then}
use Rattle.moos_text.specs.Sections.{Form, made_of, Statement}

-- where a reader is: outside blocks, behind a line that opens one, or between its braces
pub data Standing (W B : Type 0) : Type 0 where
  Outside : W → Standing W B
  Opened : B → Standing W B
  Inside : B → Standing W B

-- behind a line that opens a block, with its `{` or without
abbrev pub behind_head : {W B : Type 0} → List ℕ → B → Standing W B
behind_head text block = if ends_with 123 text then Inside block else Opened block

-- where a reader is after one more line, which says something
abbrev pub after_statement : {W B : Type 0} → Form W B → Standing W B → Statement → Result (Standing W B) Cause
after_statement form (Outside whole) said =
    if form.opens said.text then and_then (λ block. Ok (behind_head said.text block)) (form.begin whole said)
    else and_then (λ more. Ok (Outside more)) (form.loose whole said)
after_statement form (Opened block) said = if bytes_eq said.text (codes "{") then Ok (Inside block) else Err form.bad
after_statement form (Inside block) said =
    if form.closes said.text then and_then (λ whole. Ok (Outside whole)) (form.close block said)
    else and_then (λ more. Ok (Inside more)) (form.inside block said)

-- where a reader is after one more line, by its number and its text, which says nothing if it is blank
abbrev pub after_text : {W B : Type 0} → Form W B → ℕ → Standing W B → List ℕ → Result (Standing W B) ReadFault
after_text form line standing [] = Ok standing
after_text form line standing (byte ∷ bytes) = made_of form.bad (after_statement form) standing (record { line = line; text = byte ∷ bytes })

-- where a reader is after one more line, by its number and its bytes
abbrev pub after_raw : {W B : Type 0} → Form W B → ℕ → Standing W B → List ℕ → Result (Standing W B) ReadFault
after_raw form line standing raw = after_text form line standing (trimmed (content_of raw))

-- what was read at the end of a file with this last line
abbrev pub at_end : {W B : Type 0} → Form W B → ℕ → Standing W B → Result W ReadFault
at_end form last (Outside whole) = Ok whole
at_end form last (Opened block) = Err (At last form.unclosed)
at_end form last (Inside block) = Err (At last form.unclosed)

-- What lines come to one after another, from a state on, if `before` lines are before them.
abbrev pub read_lines : {S : Type 0} → (ℕ → S → List ℕ → Result S ReadFault) → ℕ → S → List (List ℕ) → Result S ReadFault
read_lines after before state [] = Ok state
read_lines after before state (raw ∷ raws) = and_then (λ next. read_lines after (suc before) next raws) (after (suc before) state raw)
