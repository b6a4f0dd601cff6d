-- A script without a line of some clients has none of them.
use Rattle.std.proofs.Common.{◌≡◌, ℕ, suc, Bool, true, false, ◌&&◌, ◌||◌, cond, not, nat_lt, nat_le, List, [], ◌∷◌, ◌++◌, length, refl, ap, ◌∙◌, codes, bytes_eq, Some, None}
use Rattle.std.specs.Prelude.{ok_or, Result, Ok, Err, IfOk}
use Rattle.std.specs.List.{list_any}
use Rattle.std.proofs.lemmas.List.Folds.{list_any-append}
use Rattle.moos_post.specs.declared.entry.Call.{Call}
use Rattle.moos_text.specs.declared.cause.Cause.{Cause}
use Rattle.moos_text.specs.declared.cause.Cause.TheVariants.{S1, S5, S8}
use Rattle.moos_text.specs.declared.cause.Limit.TheVariants.{Lines as NonBlank}
use Rattle.moos_text.specs.Lines.{raw_lines, content_of, is_unclosed, first_word, behind_word}
use Rattle.moos_text.specs.Refusals.{and_then}
use Rattle.moos_text.proofs.Judging.{cond_good, and_then_good, at_good}
use Rattle.script_reader.specs.declared.script.Script.{Script}
use Rattle.script_reader.specs.Named.{has_name, is_of_client, client_line_from, line_of_client}
use Rattle.script_reader.specs.Script.{with_none_behind, time_of, registrations_of, variables_of, call_of, client_number, with_client, client_of, with_client_call, after_client, after_stamp, not_before, after_line_words, Progress, progress, after_filled, after_line, go_on, progress_from, nothing_read, script_of}
use Rattle.script_reader.proofs.Judging.{ended_good}

-- a value that anything may be said of
anything : {A E : Type 0} (r : Result A E) → IfOk r (λ value. Unit {0})
anything (Ok value) = tt
anything (Err fault) = tt

-- a line that isn't `until` and is of none of them
other_client : (until named : Bool) → (not until && named) ≡ false → until ≡ false → named ≡ false
other_client false named none other = none
other_client true named none other = absurd cc

module _ (names : List (List ℕ))
  where
    -- none of the names is a client of the script
    abbrev IsFree : Script → Type 0
    IsFree script = list_any (has_name names) script.names ≡ false

    -- it stays so where another client joins
    joined_free : (clients : List (List ℕ)) (client : List ℕ) → list_any (has_name names) clients ≡ false → has_name names client ≡ false → list_any (has_name names) (with_client clients client) ≡ false
    joined_free clients client free other = at (nat_lt (client_number clients client) (length clients))
      where
        at : (known : Bool) → list_any (has_name names) (cond known clients (clients ++ client ∷ [])) ≡ false
        at true = free
        at false = list_any-append (has_name names) clients (client ∷ []) ∙ ap (λ b. b || (has_name names client || false)) free ∙ ap (λ b. b || false) other

    client_free : (script : Script) (stamp : ℕ) (client text : List ℕ) (number : ℕ) → IsFree script → has_name names client ≡ false → IfOk (after_client script stamp client text number) IsFree
    client_free script stamp client text number free other =
        and_then_good (λ call. Unit {0}) IsFree (λ call. Ok (with_client_call script stamp client call)) call (anything call) (λ value any. joined_free script.names client free other)
      where
        call : Result Call Cause
        call = call_of (registrations_of number script.lines) (variables_of script.lines) text

    stamp_free : (script : Script) (text : List ℕ) (stamp : ℕ) → IsFree script → (not (bytes_eq (first_word text) (codes "until")) && has_name names (first_word text)) ≡ false
        → IfOk (after_stamp script text stamp) IsFree
    stamp_free script text stamp free none =
        cond_good IsFree (bytes_eq (first_word text) (codes "until")) (with_none_behind (record script { stop = stamp }) (first_word (behind_word text)))
        (and_then (after_client script stamp (first_word text) (behind_word text)) (client_of script.names (first_word text)))
        (λ _. ended_good IsFree (record script { stop = stamp }) (first_word (behind_word text)) free)
        (λ other. and_then_good (λ number. Unit {0}) IsFree (after_client script stamp (first_word text) (behind_word text))
        (client_of script.names (first_word text)) (anything (client_of script.names (first_word text)))
        (λ number any. client_free script stamp (first_word text) (behind_word text) number free
        (other_client (bytes_eq (first_word text) (codes "until")) (has_name names (first_word text)) none other)))

    words_free : (script : Script) (text : List ℕ) → IsFree script → is_of_client names text ≡ false → IfOk (after_line_words script text) IsFree
    words_free script text free none =
        and_then_good (λ stamp. Unit {0}) IsFree (after_stamp script (behind_word text)) (and_then (not_before script.stop) (ok_or (time_of (first_word text)) S1))
        (anything (and_then (not_before script.stop) (ok_or (time_of (first_word text)) S1)))
        (λ stamp any. stamp_free script (behind_word text) stamp free none)

    abbrev IsReadFree : Progress → Type 0
    IsReadFree read = IsFree read.script

    filled_free : (read : Progress) (content : List ℕ) → IsReadFree read → is_of_client names content ≡ false → IfOk (after_filled read content) IsReadFree
    filled_free read content free none =
        cond_good IsReadFree (nat_le 100000 read.filled) (Err (S8 NonBlank)) (cond (is_unclosed content) (Err S5) (and_then more (after_line_words read.script content))) (λ _. tt)
        (λ room. cond_good IsReadFree (is_unclosed content) (Err S5) (and_then more (after_line_words read.script content)) (λ _. tt)
        (λ _. and_then_good IsFree IsReadFree more (after_line_words read.script content) (words_free read.script content free none) (λ script still. still)))
      where
        more : Script → Result Progress Cause
        more script = Ok (progress script (suc read.filled))

    line_free : (read : Progress) (content word : List ℕ) → IsReadFree read → is_of_client names content ≡ false → IfOk (after_line read content word) IsReadFree
    line_free read content [] free none = free
    line_free read content (byte ∷ bytes) free none = filled_free read content free none

    read_free : (number : ℕ) (read : Progress) (raws : List (List ℕ)) → client_line_from number names raws ≡ None → IsReadFree read → IfOk (progress_from number read raws) IsReadFree
    read_free number read [] none free = free
    read_free number read (raw ∷ raws) none free =
        by (is_of_client names (content_of raw)) refl none (λ rest next. read_free (suc number) next raws rest)
      where
        at : (result : Result Progress Cause) → IfOk result IsReadFree → ((next : Progress) → IsReadFree next → IfOk (progress_from (suc number) next raws) IsReadFree)
            → IfOk (go_on number (λ next. progress_from (suc number) next raws) result) IsReadFree
        at (Ok next) here rest = rest next here
        at (Err cause) here rest = tt

        by : (named : Bool) → is_of_client names (content_of raw) ≡ named → cond named (Some number) (client_line_from (suc number) names raws) ≡ None
            → (client_line_from (suc number) names raws ≡ None → (next : Progress) → IsReadFree next → IfOk (progress_from (suc number) next raws) IsReadFree)
            → IfOk (progress_from number read (raw ∷ raws)) IsReadFree
        by true is gone rest = absurd cc
        by false is gone rest =
            at (after_line read (content_of raw) (first_word (content_of raw))) (line_free read (content_of raw) (first_word (content_of raw)) free is) (rest gone)

pub no_client : (names : List (List ℕ)) (bytes : List ℕ) (script : Script) → script_of bytes ≡ Ok script → line_of_client names bytes ≡ None → list_any (has_name names) script.names ≡ false
no_client names bytes script read none =
    at_good (IsFree names) (script_of bytes) script
    (and_then_good (IsReadFree names) (IsFree names) (λ read. Ok read.script) (progress_from 1 nothing_read (raw_lines bytes)) (read_free names 1 nothing_read (raw_lines bytes) none refl)
    (λ read still. still)) read
