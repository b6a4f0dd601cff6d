-- The lines of a file one after another, and what the whole comes to.
use Rattle.std.proofs.Common.{◌≡◌, ℕ, suc, ◌+◌, ◌<◌, ◌≤◌, false, max, List, ◌∷◌, [], length, refl, ap, sym, subst, ◌∙◌, arith, add-one}
use Rattle.std.specs.Prelude.{IfErr, IfOk, Result, Ok, Err}
use Rattle.moos_text.specs.declared.cause.ReadFault.{ReadFault}
use Rattle.moos_text.specs.declared.cause.ReadFault.TheVariants.{At, NoMemory}
use Rattle.moos_text.specs.declared.cause.LineFault.{LineFault}
use Rattle.moos_text.specs.declared.cause.LineFault.TheVariants.{Refused, NoMemory as OutOfMemory}
use Rattle.moos_text.specs.Lines.{is_unclosed, last_line, raw_lines}
use Rattle.moos_text.specs.Refusals.{and_then, fault_at, IsFirst, IsLineFault}
use Rattle.moos_text.specs.Sections.{Form}
use Rattle.moos_text.specs.Standing.{after_statement, after_text, read_lines, Standing}

-- what one line more comes to, by its number
abbrev pub After : Type 0 → Type 0
After S = ℕ → S → List ℕ → Result S ReadFault

-- what was read of the bytes: so many lines, which come to this state, and what is left
pub record IsRead {S : Type 0} (after : After S) (start : S) (bytes : List ℕ) (lines : ℕ) (state : S) (left : List ℕ) : Type 0 where
  pub so_far : read_lines after 0 start (raw_lines bytes) ≡ read_lines after lines state (raw_lines left)
  pub counted : lines + length (raw_lines left) ≡ length (raw_lines bytes)
  pub within : lines + length left ≤ length bytes

-- the next of the lines that are left
pub record IsNext (left raw rest : List ℕ) : Type 0 where
  pub lines : raw_lines left ≡ raw ∷ raw_lines rest
  pub shorter : suc (length rest) ≤ length left

-- the lines that are left, by the next one
lines_left : {S : Type 0} (after : After S) (lines : ℕ) (state : S) (left raw rest : List ℕ) → IsNext left raw rest → read_lines after lines state (raw_lines left) ≡ and_then (λ next. read_lines after (lines + 1) next (raw_lines rest)) (after (lines + 1) state raw)
lines_left after lines state left raw rest next =
    ap (read_lines after lines state) next.lines ∙ ap (λ n. and_then (λ s. read_lines after n s (raw_lines rest)) (after n state raw)) (sym (add-one lines))

-- a good line more
pub one_read : {S : Type 0} (after : After S) (start : S) (bytes : List ℕ) (lines : ℕ) (state then : S) (left raw rest : List ℕ) → IsRead after start bytes lines state left → IsNext left raw rest → after (lines + 1) state raw ≡ Ok then → IsRead after start bytes (lines + 1) then rest
one_read after start bytes lines state then left raw rest read next good = record {
  so_far = read.so_far ∙ lines_left after lines state left raw rest next ∙ ap (and_then (λ s. read_lines after (lines + 1) s (raw_lines rest))) good;
  counted = let long = ap length next.lines in omega (arith, read.counted);
  within = omega (arith, read.within, next.shorter);
}

-- a line that is refused, which is the first one
first_then : {S A : Type 0} (whole : S → Result A ReadFault) (fault : ReadFault) (r : Result S ReadFault) → IsFirst fault r → IsFirst fault (and_then whole r)
first_then whole (At line cause) r e = ap (and_then whole) e
first_then whole NoMemory r e = tt

first_as : {S : Type 0} (fault : ReadFault) (r same : Result S ReadFault) → r ≡ same → IsFirst fault r → IsFirst fault same
first_as fault r same e is = subst (IsFirst fault) e is

pub one_refused : {S A : Type 0} (after : After S) (start : S) (whole : S → Result A ReadFault) (all : Result A ReadFault) (bytes : List ℕ) (lines : ℕ) (state : S) (left raw rest : List ℕ) (fault : ReadFault) → and_then whole (read_lines after 0 start (raw_lines bytes)) ≡ all → IsRead after start bytes lines state left → IsNext left raw rest → IsFirst fault (after (lines + 1) state raw) → IsFirst fault all
one_refused after start whole all bytes lines state left raw rest fault e read next is =
    let here = first_then (λ s. read_lines after (lines + 1) s (raw_lines rest)) fault (after (lines + 1) state raw) is in
    let same = read.so_far ∙ lines_left after lines state left raw rest next in
    first_as fault _ all e (first_then whole fault _ (first_as fault _ _ (sym same) here))

-- what the whole comes to where nothing is left
pub all_read : {S A : Type 0} (after : After S) (start : S) (whole : S → Result A ReadFault) (all : Result A ReadFault) (bytes : List ℕ) (lines : ℕ) (state : S) (left : List ℕ) → and_then whole (read_lines after 0 start (raw_lines bytes)) ≡ all → IsRead after start bytes lines state left → left ≡ [] → all ≡ whole state
all_read after start whole all bytes lines state left e read none = sym e ∙ ap (and_then whole) (read.so_far ∙ ap (λ bytes. read_lines after lines state (raw_lines bytes)) none)

-- and how many lines there are then
pub lines_all : {S : Type 0} (after : After S) (start : S) (bytes : List ℕ) (lines : ℕ) (state : S) (left : List ℕ) → IsRead after start bytes lines state left → left ≡ [] → max lines 1 ≡ last_line bytes
lines_all after start bytes lines state left read none =
    let gone : length (raw_lines left) ≡ 0 = ap (λ bytes. length (raw_lines bytes)) none in
    let all : lines ≡ length (raw_lines bytes) = omega (arith, read.counted, gone) in
    omega (arith, all)

-- what the reader answers, where it is what the bytes stand for
pub told_value : {A : Type 0} (all answer : Result A ReadFault) → all ≡ answer → IfOk answer (λ value. all ≡ Ok value)
told_value all (Ok value) e = e
told_value all (Err fault) e = tt

pub told_fault : {A : Type 0} (all answer : Result A ReadFault) → all ≡ answer → IfErr answer (λ fault. IsFirst fault all)
told_fault all (Ok value) e = tt
told_fault all (Err (At line cause)) e = e
told_fault all (Err NoMemory) e = tt

-- a line that says something and leaves no quote open is refused as its statement is
pub line_refused : {W B : Type 0} (form : Form W B) (line : ℕ) (standing : Standing W B) (text : List ℕ) (fault : LineFault) → 0 < length text → is_unclosed text ≡ false → IsLineFault fault (after_statement form standing (record { line = line; text = text })) → IsFirst (fault_at line fault) (after_text form line standing text)
line_refused form line standing [] fault some closed is = absurd (omega arith)
line_refused form line standing (byte ∷ bytes) (Refused cause) some closed is = rw (closed, is) refl
line_refused form line standing (byte ∷ bytes) OutOfMemory some closed is = tt
