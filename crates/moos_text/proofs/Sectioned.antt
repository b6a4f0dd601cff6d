-- A reader that goes from line to line comes to what the sections of the file come to.
use Rattle.std.proofs.Common.{◌≡◌, ℕ, zero, suc, Bool, true, false, cond, List, [], ◌∷◌, drop, refl, ap, sym, ◌∙◌, one-add}
use Rattle.std.specs.Prelude.{codes, bytes_eq, Result, Ok, Err}
use Rattle.std.specs.List.{before_first, find, position_or_len}
use Rattle.std.proofs.lemmas.Bool.{true≢false}
use Rattle.std.proofs.lemmas.Slice.Eq.{bytes_eq-Decides}
use Rattle.moos_text.specs.declared.cause.Cause.{Cause}
use Rattle.moos_text.specs.declared.cause.ReadFault.{ReadFault}
use Rattle.moos_text.specs.declared.cause.ReadFault.TheVariants.{At}
use Rattle.moos_text.specs.Lines.{content_of, ends_with, is_unclosed, last_line, raw_lines, trimmed}
use Rattle.moos_text.specs.Refusals.{and_then, at_line}
use Rattle.moos_text.specs.Sections.{behind_brace, closing, Form, in_braces, made_of, made_of_all, made_of_file, Section, sections_of, Statement, statements_from, with_sections}
use Rattle.moos_text.specs.Standing.{after_raw, after_statement, at_end, behind_head, Inside, Opened, Outside, read_lines, Standing}

-- one step after another, and a third
pub and_then_then : {A B C E : Type 0} (next : B → Result C E) (make : A → Result B E) (r : Result A E) → and_then next (and_then make r) ≡ and_then (λ value. and_then next (make value)) r
and_then_then next make (Ok value) = refl
and_then_then next make (Err fault) = refl

-- what comes of one line as a further state, and then of those behind it
shift : {A S C : Type 0} (line : ℕ) (bad : Cause) (open' : Bool) (r : Result A Cause) (form : A → S) (next : S → Result C ReadFault) → and_then next (at_line line (cond open' (Err bad) (and_then (λ a. Ok (form a)) r))) ≡ and_then (λ a. next (form a)) (at_line line (cond open' (Err bad) r))
shift line bad true r form next = refl
shift line bad false (Ok a) form next = refl
shift line bad false (Err cause) form next = refl

-- a `{` alone leaves no quote open
brace_closed : (text : List ℕ) → bytes_eq text (codes "{") ≡ true → is_unclosed text ≡ false
brace_closed text same = let is : text ≡ codes "{" = (bytes_eq-Decides text (codes "{")).0 same in ap is_unclosed is

module _ {W B : Type 0} (form : Form W B) (last : ℕ)
  where
    -- the lines that say something, one after another, and the end
    run : Standing W B → List Statement → Result (Standing W B) ReadFault
    run standing [] = Ok standing
    run standing (said ∷ behind) = and_then (λ next. run next behind) (made_of form.bad (after_statement form) standing said)

    abbrev outcome : Standing W B → List Statement → Result W ReadFault
    outcome standing lines = and_then (at_end form last) (run standing lines)

    abbrev ends : Statement → Bool
    ends next = form.closes next.text

    step : (standing : Standing W B) (said : Statement) (behind : List Statement) → outcome standing (said ∷ behind) ≡ and_then (λ next. outcome next behind) (made_of form.bad (after_statement form) standing said)
    unfolding run
    step standing said behind = and_then_then (at_end form last) (λ next. run next behind) (made_of form.bad (after_statement form) standing said)

    -- from between the braces of a block on
    abbrev block_outcome : B → List Statement → Result W ReadFault
    block_outcome block lines =
        and_then (λ whole. outcome (Outside whole) (drop (suc (position_or_len ends lines)) lines))
        (and_then (closing form last (find ends lines)) (made_of_all form.bad form.inside block (before_first ends lines)))

    through : (behind : List Statement) (r : Result B ReadFault) → ((block : B) → outcome (Inside block) behind ≡ block_outcome block behind) → and_then (λ block. outcome (Inside block) behind) r ≡ and_then (λ whole. outcome (Outside whole) (drop (suc (position_or_len ends behind)) behind)) (and_then (closing form last (find ends behind)) (and_then (λ block. made_of_all form.bad form.inside block (before_first ends behind)) r))
    through behind (Ok block) more = more block
    through behind (Err fault) more = refl

    block_run : (lines : List Statement) (block : B) → outcome (Inside block) lines ≡ block_outcome block lines
    unfolding run
    block_run [] block = refl
    block_run (said ∷ behind) block = at (form.closes said.text) refl (block_run behind)
      where
        at : (b : Bool) → form.closes said.text ≡ b → ((more : B) → outcome (Inside more) behind ≡ block_outcome more behind) → outcome (Inside block) (said ∷ behind) ≡ block_outcome block (said ∷ behind)
        at true e more =
            step (Inside block) said behind ∙ rw e (shift said.line form.bad (is_unclosed said.text) (form.close block said) Outside (λ next. outcome next behind))
        at false e more =
            step (Inside block) said behind
            ∙ rw (e, one-add (position_or_len ends behind)) (shift said.line form.bad (is_unclosed said.text) (form.inside block said) Inside (λ next. outcome next behind) ∙ through behind (made_of form.bad form.inside block said) more)

    -- from behind the line that opens a block on
    abbrev opened_outcome : B → List Statement → Result W ReadFault
    opened_outcome block lines =
        and_then (λ whole. outcome (Outside whole) (drop (suc (position_or_len ends lines)) lines))
        (and_then (λ inside. and_then (closing form last (find ends lines)) (made_of_all form.bad form.inside block inside)) (behind_brace form last (before_first ends lines) (find ends lines)))

    -- the line behind it, which is a `{` or is refused
    brace : (b : Bool) (said : Statement) (block : B) (behind : List Statement) (then' : Result W ReadFault) → bytes_eq said.text (codes "{") ≡ b → outcome (Inside block) behind ≡ then' → outcome (Opened block) (said ∷ behind) ≡ cond b then' (Err (At said.line form.bad))
    brace true said block behind then' e is =
        let closed = brace_closed said.text e in
        step (Opened block) said behind ∙ rw (e, closed) is
    brace false said block behind then' e is = step (Opened block) said behind ∙ rw e (either (is_unclosed said.text))
      where
        either : (open' : Bool) → and_then (λ next. outcome next behind) (at_line said.line (cond open' (Err form.bad) (Err form.bad))) ≡ Err (At said.line form.bad)
        either true = refl
        either false = refl

    opened_run : form.closes (codes "{") ≡ false → (lines : List Statement) (block : B) → outcome (Opened block) lines ≡ opened_outcome block lines
    unfolding run
    opened_run other [] block = refl
    opened_run other (said ∷ behind) block = at (form.closes said.text) (bytes_eq said.text (codes "{")) refl refl
      where
        at : (b c : Bool) → form.closes said.text ≡ b → bytes_eq said.text (codes "{") ≡ c → outcome (Opened block) (said ∷ behind) ≡ opened_outcome block (said ∷ behind)
        at true true e same = let is : said.text ≡ codes "{" = (bytes_eq-Decides said.text (codes "{")).0 same in absurd (true≢false (sym e ∙ ap form.closes is ∙ other))
        at true false e same = brace false said block behind _ same refl ∙ rw e refl
        at false true e same = brace true said block behind _ same (block_run behind block) ∙ rw (e, one-add (position_or_len ends behind), same) refl
        at false false e same = brace false said block behind _ same refl ∙ rw (e, one-add (position_or_len ends behind), same) refl

    -- a section more, and what stands behind it
    then_sections : (behind : List Section) (k : W → Result W ReadFault) (r : Result W ReadFault) → ((whole : W) → k whole ≡ with_sections form last whole behind) → and_then k r ≡ and_then (λ whole. with_sections form last whole behind) r
    then_sections behind k (Ok whole) same = same whole
    then_sections behind k (Err fault) same = refl

    head_run : form.closes (codes "{") ≡ false → (b : Bool) (text : List ℕ) (line : ℕ) (block : B) (behind : List Statement) → ends_with 123 text ≡ b
        → outcome (behind_head text block) behind
        ≡ and_then (λ whole. outcome (Outside whole) (drop (suc (position_or_len ends behind)) behind))
        (and_then (λ inside. and_then (closing form last (find ends behind)) (made_of_all form.bad form.inside block inside)) (in_braces form last (record { line = line; text = text }) (before_first ends behind) (find ends behind)))
    head_run other true text line block behind e = rw e (block_run behind block)
    head_run other false text line block behind e = rw e (opened_run other behind block)

    block_then : (said : Statement) (behind : List Statement) (rest : List Section) (r : Result B ReadFault)
        → ((block : B) → outcome (behind_head said.text block) behind
        ≡ and_then (λ whole. outcome (Outside whole) (drop (suc (position_or_len ends behind)) behind))
        (and_then (λ inside. and_then (closing form last (find ends behind)) (made_of_all form.bad form.inside block inside)) (in_braces form last said (before_first ends behind) (find ends behind))))
        → ((whole : W) → outcome (Outside whole) (drop (suc (position_or_len ends behind)) behind) ≡ with_sections form last whole rest)
        → and_then (λ block. outcome (behind_head said.text block) behind) r
        ≡ and_then (λ whole. with_sections form last whole rest)
        (and_then (λ block. and_then (λ inside. and_then (closing form last (find ends behind)) (made_of_all form.bad form.inside block inside)) (in_braces form last said (before_first ends behind) (find ends behind))) r)
    block_then said behind rest (Err fault) head more = refl
    block_then said behind rest (Ok block) head more =
        head block ∙ then_sections rest (λ whole. outcome (Outside whole) (drop (suc (position_or_len ends behind)) behind)) _ more

    file_run : form.closes (codes "{") ≡ false → (lines : List Statement) (before : ℕ) (whole : W) → outcome (Outside whole) (drop before lines) ≡ with_sections form last whole (sections_of form.opens form.closes before lines)
    unfolding run
    file_run other [] zero whole = refl
    file_run other [] (suc before) whole = refl
    file_run other (said ∷ behind) (suc before) whole = file_run other behind before whole
    file_run other (said ∷ behind) zero whole = at (form.opens said.text) refl (file_run other behind)
      where
        at : (b : Bool) → form.opens said.text ≡ b → ((before : ℕ) (more : W) → outcome (Outside more) (drop before behind) ≡ with_sections form last more (sections_of form.opens form.closes before behind))
            → outcome (Outside whole) (said ∷ behind) ≡ with_sections form last whole (sections_of form.opens form.closes zero (said ∷ behind))
        at true e more =
            step (Outside whole) said behind
            ∙ rw e (shift said.line form.bad (is_unclosed said.text) (form.begin whole said) (behind_head said.text) (λ next. outcome next behind)
            ∙ block_then said behind (sections_of form.opens form.closes (suc (position_or_len ends behind)) behind) (made_of form.bad form.begin whole said)
            (λ block. head_run other (ends_with 123 said.text) said.text said.line block behind refl) (more (suc (position_or_len ends behind))))
        at false e more =
            step (Outside whole) said behind
            ∙ rw e (shift said.line form.bad (is_unclosed said.text) (form.loose whole said) Outside (λ next. outcome next behind)
            ∙ then_sections (sections_of form.opens form.closes zero behind) (λ next. outcome (Outside next) behind) (made_of form.bad form.loose whole said) (more zero))

    -- line by line, blank ones too
    read_run : (before : ℕ) (standing : Standing W B) (raws : List (List ℕ)) → read_lines (after_raw form) before standing raws ≡ run standing (statements_from before raws)
    unfolding run
    read_run before standing [] = refl
    read_run before standing (raw ∷ raws) = at (trimmed (content_of raw)) refl (λ next. read_run (suc before) next raws)
      where
        at : (text : List ℕ) → trimmed (content_of raw) ≡ text → ((next : Standing W B) → read_lines (after_raw form) (suc before) next raws ≡ run next (statements_from (suc before) raws)) → read_lines (after_raw form) before standing (raw ∷ raws) ≡ run standing (statements_from before (raw ∷ raws))
        at [] e more = rw e (more standing)
        at (byte ∷ bytes) e more = rw e (each (made_of form.bad (after_statement form) standing (record { line = suc before; text = byte ∷ bytes })))
          where
            each : (r : Result (Standing W B) ReadFault) → and_then (λ next. read_lines (after_raw form) (suc before) next raws) r ≡ and_then (λ next. run next (statements_from (suc before) raws)) r
            each (Ok next) = more next
            each (Err fault) = refl

-- What a file comes to line by line is what its sections come to.
pub file_read : {W B : Type 0} (form : Form W B) (start : W) (bytes : List ℕ) → form.closes (codes "{") ≡ false → and_then (at_end form (last_line bytes)) (read_lines (after_raw form) 0 (Outside start) (raw_lines bytes)) ≡ made_of_file form start bytes
file_read form start bytes other =
    ap (and_then (at_end form (last_line bytes))) (read_run form (last_line bytes) 0 (Outside start) (raw_lines bytes)) ∙ file_run form (last_line bytes) other (statements_from 0 (raw_lines bytes)) 0 start
