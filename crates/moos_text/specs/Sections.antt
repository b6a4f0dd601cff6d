-- A file of lines that say something and of blocks of them, as missions and behaviour files are: its lines, the sections
-- that they make, and what a reader makes of one section after another, or its first refusal.
use Rattle.std.specs.Prelude.{ℕ, zero, suc, Bool, if◌then◌else◌, List, [], ◌∷◌, codes, bytes_eq, Option, Some, None, Result, Ok, Err}
use Rattle.std.specs.List.{before_first, find, position_or_len}
use Rattle.moos_text.specs.declared.cause.Cause.{Cause}
use Rattle.moos_text.specs.declared.cause.ReadFault.{ReadFault}
use Rattle.moos_text.specs.declared.cause.ReadFault.TheVariants.{At}
use Rattle.moos_text.specs.Lines.{content_of, ends_with, is_unclosed, last_line, raw_lines, trimmed}
use Rattle.moos_text.specs.Refusals.{and_then, at_line}

-- a line that says something: its number, counted from 1, and what it says
pub record Statement : Type 0 where
  pub line : ℕ
  pub text : List ℕ

-- the line of this number in front of those behind it; a blank one says nothing
abbrev pub stated : ℕ → List ℕ → List Statement → List Statement
stated line [] behind = behind
stated line (byte ∷ bytes) behind = record { line = line; text = byte ∷ bytes } ∷ behind

-- the lines that say something, if `before` lines are before them: what counts of each, without blanks at its ends
abbrev pub statements_from : ℕ → List (List ℕ) → List Statement
statements_from before [] = []
statements_from before (raw ∷ raws) = stated (suc before) (trimmed (content_of raw)) (statements_from (suc before) raws)

-- the lines of a file that say something
abbrev pub statements_of : List ℕ → List Statement
statements_of bytes = statements_from 0 (raw_lines bytes)

-- A line outside blocks; or a block: the line that opens it, the lines behind that one up to the line that closes it, and
-- that line, if there is one.
pub data Section : Type 0 where
  Loose : Statement → Section
  Block : Statement → List Statement → Option Statement → Section

-- the sections that lines make, by which of them opens a block and which closes one; the first `before` lines belong to a block
-- before them
abbrev pub sections_of : (List ℕ → Bool) → (List ℕ → Bool) → ℕ → List Statement → List Section
sections_of opens closes before [] = []
sections_of opens closes (suc before) (said ∷ behind) = sections_of opens closes before behind
sections_of opens closes zero (said ∷ behind) =
    if opens said.text
    then Block said (before_first (λ next. closes next.text) behind) (find (λ next. closes next.text) behind)
    ∷ sections_of opens closes (suc (position_or_len (λ next. closes next.text) behind)) behind
    else Loose said ∷ sections_of opens closes zero behind

-- How a file of sections is read: which lines open and close a block, the causes of a line outside its form and of a block
-- without an end, and what is made of each line. `W` is what was read so far, and `B` the same with an unfinished block.
pub record Form (W B : Type 0) : Type 0 where
  pub opens : List ℕ → Bool
  pub closes : List ℕ → Bool
  pub bad : Cause
  pub unclosed : Cause
  pub loose : W → Statement → Result W Cause
  pub begin : W → Statement → Result B Cause
  pub inside : B → Statement → Result B Cause
  pub close : B → Statement → Result W Cause

-- what is made of a line; one whose quote stays open is refused before its words are read
abbrev pub made_of : {A B : Type 0} → Cause → (A → Statement → Result B Cause) → A → Statement → Result B ReadFault
made_of bad make value said = at_line said.line (if is_unclosed said.text then Err bad else make value said)

-- what is made of lines one after another
abbrev pub made_of_all : {A : Type 0} → Cause → (A → Statement → Result A Cause) → A → List Statement → Result A ReadFault
made_of_all bad make value [] = Ok value
made_of_all bad make value (said ∷ behind) = and_then (λ more. made_of_all bad make more behind) (made_of bad make value said)

-- the line that closes a block; without one the last line of the file is refused
abbrev pub closing : {W B : Type 0} → Form W B → ℕ → Option Statement → B → Result W ReadFault
closing form last None block = Err (At last form.unclosed)
closing form last (Some said) block = made_of form.bad form.close block said

-- the lines of a block without its `{`, which must be the first of them
abbrev pub behind_brace : {W B : Type 0} → Form W B → ℕ → List Statement → Option Statement → Result (List Statement) ReadFault
behind_brace form last [] None = Err (At last form.unclosed)
behind_brace form last [] (Some close) = Err (At close.line form.bad)
behind_brace form last (said ∷ behind) close = if bytes_eq said.text (codes "{") then Ok behind else Err (At said.line form.bad)

-- the lines of a block: its `{` ends the line that opens it, or is alone on the next one
abbrev pub in_braces : {W B : Type 0} → Form W B → ℕ → Statement → List Statement → Option Statement → Result (List Statement) ReadFault
in_braces form last head lines close = if ends_with 123 head.text then Ok lines else behind_brace form last lines close

-- what is made of a section, in a file with this last line; of a block from the last line up: what opens it, its braces, its
-- lines, what closes it
abbrev pub with_section : {W B : Type 0} → Form W B → ℕ → W → Section → Result W ReadFault
with_section form last whole (Loose said) = made_of form.bad form.loose whole said
with_section form last whole (Block head lines close) =
    and_then (λ block.
    and_then (λ inside. and_then (closing form last close) (made_of_all form.bad form.inside block inside))
    (in_braces form last head lines close))
    (made_of form.bad form.begin whole head)

-- what is made of sections one after another
abbrev pub with_sections : {W B : Type 0} → Form W B → ℕ → W → List Section → Result W ReadFault
with_sections form last whole [] = Ok whole
with_sections form last whole (section ∷ behind) = and_then (λ more. with_sections form last more behind) (with_section form last whole section)

-- What is made of the bytes of a file, from what is before its first line.
abbrev pub made_of_file : {W B : Type 0} → Form W B → W → List ℕ → Result W ReadFault
made_of_file form start bytes = with_sections form (last_line bytes) start (sections_of form.opens form.closes 0 (statements_of bytes))
