-- A script none of whose clients has one of some names has no line of them.
use Rattle.std.proofs.Common.{◌≡◌, ℕ, suc, ◌+◌, Bool, true, false, ◌&&◌, cond, not, nat_le, nat_lt, List, [], ◌∷◌, ◌++◌, length, take, Some, None, codes, bytes_eq, refl, sym, ap, subst, ◌∙◌, arith}
use Rattle.std.proofs.Math.Numerals.{one-add}
use Rattle.std.specs.Prelude.{Result, Ok, Err, IfOk, ok_or}
use Rattle.std.specs.List.{list_any, position_or_len}
use Rattle.std.proofs.lemmas.Bool.{lt-ltb, ltb-true, or_parts}
use Rattle.std.proofs.lemmas.List.Folds.{list_any-append}
use Rattle.std.proofs.lemmas.Slice.Eq.{bytes_eq-Decides}
use Rattle.moos_post.specs.declared.entry.Call.{Call}
use Rattle.moos_text.specs.declared.cause.Cause.{Cause}
use Rattle.moos_text.specs.declared.cause.Cause.TheVariants.{S1, S5, S8}
use Rattle.moos_text.specs.declared.cause.Limit.TheVariants.{Lines as NonBlank}
use Rattle.moos_text.specs.Lines.{behind_word, content_of, first_word, is_blank, is_unclosed, raw_lines, without_front_blanks}
use Rattle.moos_text.specs.Refusals.{and_then}
use Rattle.moos_text.proofs.Judging.{and_then_good, at_good, cond_good}
use Rattle.moos_text.proofs.WordLemmas.{no_word_split}
use Rattle.script_reader.specs.declared.script.Script.{Script}
use Rattle.script_reader.specs.Named.{client_line_from, has_name, is_of_client, line_of_client}
use Rattle.script_reader.specs.Script.{after_client, after_filled, after_line, after_line_words, after_stamp, call_of, client_number, client_of, go_on, not_before, nothing_read, Progress, progress, progress_from, registrations_of, script_of, time_of, variables_of, with_client, with_client_call, with_none_behind}
use Rattle.script_reader.proofs.Joining.{first_place}
use Rattle.script_reader.proofs.Judging.{ended_good}

-- a value that anything may be said of
anything : {A E : Type 0} (r : Result A E) → IfOk r (λ value. Unit {0})
anything (Ok value) = tt
anything (Err fault) = tt

-- what follows of a value that is judged good
good_for : {A E : Type 0} (P Q : A → Type 0) (r : Result A E) → ((value : A) → P value → Q value) → IfOk r P → IfOk r Q
good_for P Q (Ok value) next is = next value is
good_for P Q (Err fault) next is = tt

-- where no first word is, there is nothing but blanks
nothing_found : (text : List ℕ) → first_word text ≡ [] → without_front_blanks text ≡ []
nothing_found [] none = refl
nothing_found (byte ∷ bytes) none = at (is_blank byte) refl none (nothing_found bytes)
  where
    found : (blank : Bool) → is_blank byte ≡ blank → without_front_blanks (byte ∷ bytes) ≡ cond blank (without_front_blanks bytes) (byte ∷ bytes)
    found blank is = ap (λ b. cond b (without_front_blanks bytes) (byte ∷ bytes)) is

    word : List ℕ → List ℕ
    word found = take (position_or_len is_blank found) found

    at : (blank : Bool) → is_blank byte ≡ blank → first_word (byte ∷ bytes) ≡ [] → (first_word bytes ≡ [] → without_front_blanks bytes ≡ []) → without_front_blanks (byte ∷ bytes) ≡ []
    at true is none rest = found true is ∙ rest (ap word (sym (found true is)) ∙ none)
    at false is none rest =
        let place : position_or_len is_blank (byte ∷ bytes) ≡ suc (position_or_len is_blank bytes) = ap (λ b. cond (not b) (1 + position_or_len is_blank bytes) 0) is ∙ one-add (position_or_len is_blank bytes) in
        let some : first_word (byte ∷ bytes) ≡ byte ∷ take (position_or_len is_blank bytes) bytes = ap word (found false is) ∙ ap (λ n. take n (byte ∷ bytes)) place in
        let gone : byte ∷ take (position_or_len is_blank bytes) bytes ≡ [] = sym some ∙ none in
        absurd cc

module _ (names : List (List ℕ)) (no_empty : has_name names [] ≡ false)
  where
    -- one of the names is among these clients
    abbrev named : List (List ℕ) → Bool
    named clients = list_any (has_name names) clients

    -- if none of the names is among the clients in the end, none was before, and what was read is of none
    abbrev Tells : List (List ℕ) → Bool → List (List ℕ) → Type 0
    Tells before read after = named after ≡ false → (named before ≡ false) × (read ≡ false)

    -- a client that is among them already
    known_tells : (clients : List (List ℕ)) (client : List ℕ) → nat_lt (client_number clients client) (length clients) ≡ true → named clients ≡ false → has_name names client ≡ false
    known_tells [] client known none = absurd (omega (arith, ltb-true (client_number [] client) 0 known))
    known_tells (one ∷ clients) client known none = at (bytes_eq one client) refl (λ known. known_tells clients client known parts.1)
      where
        parts : (has_name names one ≡ false) × (named clients ≡ false)
        parts = or_parts (has_name names one) (named clients) none

        at : (same : Bool) → bytes_eq one client ≡ same → (nat_lt (client_number clients client) (length clients) ≡ true → has_name names client ≡ false) → has_name names client ≡ false
        at true is rest = subst (λ client. has_name names client ≡ false) ((bytes_eq-Decides one client).0 is) parts.0
        at false is rest =
            let below = ltb-true (client_number (one ∷ clients) client) (suc (length clients)) known in
            let place = first_place false one client clients is in
            rest (lt-ltb (client_number clients client) (length clients) (omega (arith, below, place)))

    joined_tells : (clients : List (List ℕ)) (client : List ℕ) → Tells clients (has_name names client) (with_client clients client)
    joined_tells clients client = at (nat_lt (client_number clients client) (length clients)) refl
      where
        at : (known : Bool) → nat_lt (client_number clients client) (length clients) ≡ known → Tells clients (has_name names client) (cond known clients (clients ++ client ∷ []))
        at true is = λ none. (none, known_tells clients client is none)
        at false is = λ none.
            let both = or_parts (named clients) (named (client ∷ [])) (sym (list_any-append (has_name names) clients (client ∷ [])) ∙ none) in
            (both.0, (or_parts (has_name names client) false both.1).0)

    client_tells : (script : Script) (stamp : ℕ) (client text : List ℕ) (number : ℕ) → IfOk (after_client script stamp client text number) (λ after. Tells script.names (has_name names client) after.names)
    client_tells script stamp client text number =
        and_then_good (λ call. Unit {0}) (λ (after : Script). Tells script.names (has_name names client) after.names) (λ call. Ok (with_client_call script stamp client call)) call (anything call) (λ value any. joined_tells script.names client)
      where
        call : Result Call Cause
        call = call_of (registrations_of number script.lines) (variables_of script.lines) text

    abbrev is_of : List ℕ → Bool
    is_of word = not (bytes_eq word (codes "until")) && has_name names word

    stamp_tells : (script : Script) (text : List ℕ) (stamp : ℕ) → IfOk (after_stamp script text stamp) (λ after. Tells script.names (is_of (first_word text)) after.names)
    stamp_tells script text stamp =
        cond_good told (bytes_eq word (codes "until")) (with_none_behind until (first_word (behind_word text))) (and_then (after_client script stamp word (behind_word text)) (client_of script.names word))
        (λ is. ended_good told until (first_word (behind_word text)) (λ none. (none, ap (λ b. not b && has_name names word) is)))
        (λ other. and_then_good (λ number. Unit {0}) told (after_client script stamp word (behind_word text)) (client_of script.names word) (anything (client_of script.names word))
        (λ number any. subst (λ b. IfOk (after_client script stamp word (behind_word text) number) (λ (after : Script). Tells script.names (not b && has_name names word) after.names)) (sym other) (client_tells script stamp word (behind_word text) number)))
      where
        word : List ℕ
        word = first_word text

        until : Script
        until = record script { stop = stamp }

        told : Script → Type 0
        told after = Tells script.names (is_of word) after.names

    words_tell : (script : Script) (text : List ℕ) → IfOk (after_line_words script text) (λ after. Tells script.names (is_of_client names text) after.names)
    words_tell script text =
        and_then_good (λ stamp. Unit {0}) (λ (after : Script). Tells script.names (is_of_client names text) after.names) (after_stamp script (behind_word text)) (and_then (not_before script.stop) (ok_or (time_of (first_word text)) S1))
        (anything (and_then (not_before script.stop) (ok_or (time_of (first_word text)) S1)))
        (λ stamp any. stamp_tells script (behind_word text) stamp)

    filled_tells : (read : Progress) (content : List ℕ) → IfOk (after_filled read content) (λ after. Tells read.script.names (is_of_client names content) after.script.names)
    filled_tells read content =
        cond_good told (nat_le 100000 read.filled) (Err (S8 NonBlank)) (cond (is_unclosed content) (Err S5) (and_then more (after_line_words read.script content))) (λ _. tt)
        (λ room. cond_good told (is_unclosed content) (Err S5) (and_then more (after_line_words read.script content)) (λ _. tt)
        (λ _. and_then_good (λ (after : Script). Tells read.script.names (is_of_client names content) after.names) told more (after_line_words read.script content) (words_tell read.script content) (λ script tells. tells)))
      where
        more : Script → Result Progress Cause
        more script = Ok (progress script (suc read.filled))

        told : Progress → Type 0
        told after = Tells read.script.names (is_of_client names content) after.script.names

    line_tells : (read : Progress) (content word : List ℕ) → first_word content ≡ word → IfOk (after_line read content word) (λ after. Tells read.script.names (is_of_client names content) after.script.names)
    line_tells read content [] is = λ none. (none, ap (λ text. is_of (first_word text)) behind ∙ no_empty)
      where
        behind : behind_word content ≡ []
        behind = (no_word_split content (without_front_blanks content) refl (ap length (nothing_found content is))).1
    line_tells read content (byte ∷ bytes) is = filled_tells read content

    -- the same of all lines from one number on
    abbrev LinesTell : List (List ℕ) → ℕ → List (List ℕ) → Progress → Type 0
    LinesTell before number raws after = named after.script.names ≡ false → (named before ≡ false) × (client_line_from number names raws ≡ None)

    lines_tell : (number : ℕ) (read : Progress) (raws : List (List ℕ)) → IfOk (progress_from number read raws) (LinesTell read.script.names number raws)
    lines_tell number read [] = λ none. (none, refl)
    lines_tell number read (raw ∷ raws) = at (after_line read content (first_word content)) (line_tells read content (first_word content) refl) (λ next. lines_tell (suc number) next raws)
      where
        content : List ℕ
        content = content_of raw

        at : (line : Result Progress Cause) → IfOk line (λ next. Tells read.script.names (is_of_client names content) next.script.names)
            → ((next : Progress) → IfOk (progress_from (suc number) next raws) (LinesTell next.script.names (suc number) raws))
            → IfOk (go_on number (λ next. progress_from (suc number) next raws) line) (LinesTell read.script.names number (raw ∷ raws))
        at (Err cause) here rest = tt
        at (Ok next) here rest =
            good_for (LinesTell next.script.names (suc number) raws) (LinesTell read.script.names number (raw ∷ raws)) (progress_from (suc number) next raws)
            (λ after tells none.
            let later = tells none in
            let now = here later.0 in
            (now.0, ap (λ b. cond b (Some number) (client_line_from (suc number) names raws)) now.1 ∙ later.1))
            (rest next)

pub no_line : (names : List (List ℕ)) (bytes : List ℕ) (script : Script) → has_name names [] ≡ false → script_of bytes ≡ Ok script → list_any (has_name names) script.names ≡ false → line_of_client names bytes ≡ None
no_line names bytes script no_empty read none =
    at_good tells (script_of bytes) script
    (and_then_good (LinesTell names no_empty [] 1 (raw_lines bytes)) tells (λ read. Ok read.script) (progress_from 1 nothing_read (raw_lines bytes)) (lines_tell names no_empty 1 nothing_read (raw_lines bytes))
    (λ read told none. (told none).1)) read none
  where
    tells : Script → Type 0
    tells script = list_any (has_name names) script.names ≡ false → line_of_client names bytes ≡ None
