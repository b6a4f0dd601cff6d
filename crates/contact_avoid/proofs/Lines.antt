-- A reader that goes from line to line comes to what the lines of the file set.
use Rattle.std.proofs.Common.{◌≡◌, ℕ, suc, ◌+◌, List, [], ◌∷◌, max, refl, ap, sym, ◌∙◌, add-one}
use Rattle.std.specs.Prelude.{Result, Ok, Err}
use Rattle.moos_text.specs.declared.cause.Cause.TheVariants.{C1}
use Rattle.moos_text.specs.declared.cause.ReadFault.{ReadFault}
use Rattle.moos_text.specs.Lines.{content_of, last_line, raw_lines, trimmed}
use Rattle.moos_text.specs.Refusals.{and_then}
use Rattle.moos_text.specs.Sections.{made_of, made_of_all, stated, statements_from}
use Rattle.moos_text.specs.Standing.{read_lines}
use Rattle.moos_text.proofs.Walks.{all_read, IsNext, IsRead, lines_all}
use Rattle.contact_avoid.specs.declared.ranges.Ranges.{Ranges}
use Rattle.contact_avoid.specs.RangeFiles.{ranges_of, ordered, usual_ranges, with_statement, with_text}

-- the same by what stands on the line
abbrev pub with_raw : ℕ → Ranges → List ℕ → Result Ranges ReadFault
with_raw line ranges raw = with_text line ranges (trimmed (content_of raw))

-- one line and those behind it, where these are as they should be
line_set : (before : ℕ) (ranges : Ranges) (text : List ℕ) (raws : List (List ℕ)) → ((next : Ranges) → read_lines with_raw (suc before) next raws ≡ made_of_all C1 with_statement next (statements_from (suc before) raws))
    → and_then (λ next. read_lines with_raw (suc before) next raws) (with_text (suc before) ranges text) ≡ made_of_all C1 with_statement ranges (stated (suc before) text (statements_from (suc before) raws))
line_set before ranges [] raws rest = rest ranges
line_set before ranges (byte ∷ bytes) raws rest = by (made_of C1 with_statement ranges (record { line = suc before; text = byte ∷ bytes }))
  where
    by : (r : Result Ranges ReadFault) → and_then (λ next. read_lines with_raw (suc before) next raws) r ≡ and_then (λ next. made_of_all C1 with_statement next (statements_from (suc before) raws)) r
    by (Ok next) = rest next
    by (Err fault) = refl

lines_set : (before : ℕ) (ranges : Ranges) (raws : List (List ℕ)) → read_lines with_raw before ranges raws ≡ made_of_all C1 with_statement ranges (statements_from before raws)
lines_set before ranges [] = refl
lines_set before ranges (raw ∷ raws) = line_set before ranges (trimmed (content_of raw)) raws (λ next. lines_set (suc before) next raws)

-- the ranges of all lines
pub ranges_read : (bytes : List ℕ) → and_then (ordered (last_line bytes)) (read_lines with_raw 0 usual_ranges (raw_lines bytes)) ≡ ranges_of bytes
ranges_read bytes = ap (and_then (ordered (last_line bytes))) (lines_set 0 usual_ranges (raw_lines bytes))

-- a line more that is refused
pub one_bad : (bytes : List ℕ) (lines : ℕ) (ranges : Ranges) (left raw rest : List ℕ) (fault : ReadFault) → IsRead with_raw usual_ranges bytes lines ranges left → IsNext left raw rest → with_raw (lines + 1) ranges raw ≡ Err fault → ranges_of bytes ≡ Err fault
one_bad bytes lines ranges left raw rest fault read next bad =
    sym (ranges_read bytes)
    ∙ ap (and_then (ordered (last_line bytes)))
    (read.so_far ∙ ap (read_lines with_raw lines ranges) next.lines
    ∙ ap (λ n. and_then (λ more. read_lines with_raw n more (raw_lines rest)) (with_raw n ranges raw)) (sym (add-one lines))
    ∙ ap (and_then (λ more. read_lines with_raw (lines + 1) more (raw_lines rest))) bad)

-- no line is left
pub none_left : (bytes : List ℕ) (lines last : ℕ) (ranges : Ranges) (left : List ℕ) → IsRead with_raw usual_ranges bytes lines ranges left → left ≡ [] → last ≡ max lines 1 → ranges_of bytes ≡ ordered last ranges
none_left bytes lines last ranges left read none counted =
    all_read with_raw usual_ranges (ordered (last_line bytes)) (ranges_of bytes) bytes lines ranges left (ranges_read bytes) read none
    ∙ ap (λ last. ordered last ranges) (sym (counted ∙ lines_all with_raw usual_ranges bytes lines ranges left read none))
