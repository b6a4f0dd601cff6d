-- What holds of every value that is judged good.
use Rattle.std.proofs.Common.{◌≡◌, ℕ, Bool, true, false, cond, List, [], ◌∷◌, Option, Some, None, refl, subst}
use Rattle.std.specs.Prelude.{Result, Ok, Err, IfOk}
use Rattle.moos_text.specs.declared.cause.Cause.{Cause}
use Rattle.moos_text.specs.Lines.{is_unclosed, last_line}
use Rattle.moos_text.specs.Refusals.{and_then, at_line}
use Rattle.moos_text.specs.Sections.{Block, closing, Form, in_braces, Loose, made_of, made_of_all, made_of_file, Section, sections_of, Statement, statements_of, with_section, with_sections}

-- one of two, by a test
pub cond_good : {A E : Type 0} (P : A → Type 0) (b : Bool) (one other : Result A E) → (b ≡ true → IfOk one P) → (b ≡ false → IfOk other P) → IfOk (cond b one other) P
cond_good P true one other h g = h refl
cond_good P false one other h g = g refl

-- one after another
pub and_then_good : {A B E : Type 0} (P : A → Type 0) (Q : B → Type 0) (next : A → Result B E) (r : Result A E) → IfOk r P → ((value : A) → P value → IfOk (next value) Q) → IfOk (and_then next r) Q
and_then_good P Q next (Ok value) h g = g value h
and_then_good P Q next (Err fault) h g = tt

-- what holds of every good value holds of this one
pub at_good : {A E : Type 0} (P : A → Type 0) (r : Result A E) (value : A) → IfOk r P → r ≡ Ok value → P value
at_good P (Ok other) value h is = let same : other ≡ value = cc in subst P same h
at_good P (Err fault) value h is = absurd cc

-- a line that leaves no quote open
line_good : {A : Type 0} (P : A → Type 0) (line : ℕ) (bad : Cause) (open' : Bool) (r : Result A Cause) → IfOk r P → IfOk (at_line line (cond open' (Err bad) r)) P
line_good P line bad true r h = tt
line_good P line bad false (Ok value) h = h
line_good P line bad false (Err cause) h = tt

-- what each line keeps, of what was read so far and of an unfinished block
pub record Keeps {W B : Type 0} (form : Form W B) (P : W → Type 0) (Q : B → Type 0) : Type 0 where
  pub loose : (whole : W) (said : Statement) → P whole → IfOk (form.loose whole said) P
  pub begin : (whole : W) (said : Statement) → P whole → IfOk (form.begin whole said) Q
  pub inside : (block : B) (said : Statement) → Q block → IfOk (form.inside block said) Q
  pub close : (block : B) (said : Statement) → Q block → IfOk (form.close block said) P

module _ {W B : Type 0} (form : Form W B) (P : W → Type 0) (Q : B → Type 0) (keeps : Keeps form P Q) (last : ℕ)
  where
    all_good : (block : B) (lines : List Statement) → Q block → IfOk (made_of_all form.bad form.inside block lines) Q
    all_good block [] h = h
    all_good block (said ∷ behind) h =
        and_then_good Q Q (λ more. made_of_all form.bad form.inside more behind) (made_of form.bad form.inside block said)
        (line_good Q said.line form.bad (is_unclosed said.text) (form.inside block said) (keeps.inside block said h)) (λ more. all_good more behind)

    close_good : (block : B) (close : Option Statement) → Q block → IfOk (closing form last close block) P
    close_good block None h = tt
    close_good block (Some said) h = line_good P said.line form.bad (is_unclosed said.text) (form.close block said) (keeps.close block said h)

    section_good : (whole : W) (section : Section) → P whole → IfOk (with_section form last whole section) P
    section_good whole (Loose said) h = line_good P said.line form.bad (is_unclosed said.text) (form.loose whole said) (keeps.loose whole said h)
    section_good whole (Block head lines close) h =
        and_then_good Q P (λ block. and_then (λ inside. and_then (closing form last close) (made_of_all form.bad form.inside block inside)) (in_braces form last head lines close)) (made_of form.bad form.begin whole head)
        (line_good Q head.line form.bad (is_unclosed head.text) (form.begin whole head) (keeps.begin whole head h))
        (λ block is. and_then_good (λ inside. Unit {0}) P (λ inside. and_then (closing form last close) (made_of_all form.bad form.inside block inside)) (in_braces form last head lines close) (anything (in_braces form last head lines close))
        (λ inside any. and_then_good Q P (closing form last close) (made_of_all form.bad form.inside block inside) (all_good block inside is) (λ more. close_good more close)))
      where
        anything : {A E : Type 0} (r : Result A E) → IfOk r (λ value. Unit {0})
        anything (Ok value) = tt
        anything (Err fault) = tt

    sections_good : (whole : W) (sections : List Section) → P whole → IfOk (with_sections form last whole sections) P
    sections_good whole [] h = h
    sections_good whole (section ∷ behind) h =
        and_then_good P P (λ more. with_sections form last more behind) (with_section form last whole section) (section_good whole section h) (λ more. sections_good more behind)

-- what every line keeps holds of what the whole file comes to
pub file_good : {W B : Type 0} (form : Form W B) (P : W → Type 0) (Q : B → Type 0) → Keeps form P Q → (start : W) (bytes : List ℕ) → P start → IfOk (made_of_file form start bytes) P
file_good form P Q keeps start bytes h = sections_good form P Q keeps (last_line bytes) start (sections_of form.opens form.closes 0 (statements_of bytes)) h
