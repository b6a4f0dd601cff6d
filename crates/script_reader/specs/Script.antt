-- What the bytes of a script stand for: the script, or its first refusal with its line and cause. At a line the causes
-- are judged from left to right.
use Rattle.std.specs.Prelude.{ℕ, suc, ℤ, pos, negsuc, Bool, true, false, ◌&&◌, ◌==◌, not, nat_le, nat_lt, if◌then◌else◌, List, [], ◌∷◌, ◌++◌, length, fold, count_by, codes, bytes_eq, slice_index_or, Option, Some, None, ok_or, option_and_then, Result, Ok, Err}
use Rattle.std.specs.List.{list_any, position_or_len}
use Rattle.moos_post.specs.declared.entry.Call.{Call}
use Rattle.moos_post.specs.declared.entry.Call.TheVariants.{Register, Unregister, Post as Posts, Fetch}
use Rattle.moos_post.specs.declared.entry.Entry.{Entry}
use Rattle.moos_post.specs.declared.registration.Reg.{Reg}
use Rattle.moos_post.specs.declared.value.Pair.{Pair}
use Rattle.moos_post.specs.History.{posts_of}
use Rattle.moos_post.specs.Words.{is_name, is_pattern}
use Rattle.moos_text.specs.declared.cause.Cause.{Cause}
use Rattle.moos_text.specs.declared.cause.Cause.TheVariants.{S1, S2, S3, S4, S5, S6, S7, S8, S9}
use Rattle.moos_text.specs.declared.cause.Limit.TheVariants.{Clients, Registrations, Variables, Lines as NonBlank, Batch as InBatch, Text as OfText}
use Rattle.moos_text.specs.declared.cause.ReadFault.{ReadFault}
use Rattle.moos_text.specs.declared.cause.ReadFault.TheVariants.{At}
use Rattle.moos_text.specs.declared.pair.PairFault.{PairFault}
use Rattle.moos_text.specs.declared.pair.PairFault.TheVariants.{NoEquals, BadName, BadValue, TooLong, NoMemory}
use Rattle.moos_text.specs.Lines.{raw_lines, content_of, is_unclosed, first_word, behind_word, words_of}
use Rattle.moos_text.specs.Numbers.{milli_of}
use Rattle.moos_text.specs.Pairs.{pair_of, parts_of}
use Rattle.moos_text.specs.Refusals.{and_then}
use Rattle.script_reader.specs.declared.script.Script.{Script}

-- what is in front of this word, which must be missing
abbrev pub with_none_behind : {A : Type 0} → A → List ℕ → Result A Cause
with_none_behind value [] = Ok value
with_none_behind value (byte ∷ bytes) = Err S3

-- a stamp or an interval is a number of seconds from 0 to 1,000,000, kept in milliseconds
abbrev pub milliseconds_of : ℤ → Option ℕ
milliseconds_of (pos n) = if nat_le n 1000000000 then Some n else None
milliseconds_of (negsuc n) = None

-- a stamp or an interval, if the word is such a number
abbrev pub time_of : List ℕ → Option ℕ
time_of word = option_and_then milliseconds_of (milli_of word)

-- the pattern that the word is, or none
abbrev pub pattern_of : List ℕ → Option (List ℕ)
pattern_of word = if is_pattern word then Some word else None

-- the interval is 0 if its word is missing
abbrev pub interval_of : List ℕ → Option ℕ
interval_of [] = Some 0
interval_of (byte ∷ bytes) = time_of (byte ∷ bytes)

-- the source pattern is `*` if its word is missing
abbrev pub source_of : List ℕ → Option (List ℕ)
source_of [] = Some (codes "*")
source_of (byte ∷ bytes) = pattern_of (byte ∷ bytes)

-- a registration of these three, or the cause of the first of them that isn't good
abbrev pub reg_of : Option (List ℕ) → Option ℕ → Option (List ℕ) → Result Reg Cause
reg_of None interval source = Err S6
reg_of (Some var) None source = Err S7
reg_of (Some var) (Some interval) None = Err S6
reg_of (Some var) (Some interval) (Some source) = Ok (record { var = var; source = source; interval = interval })

-- one more registration of a client that has made `made`
abbrev pub register_one : ℕ → Reg → Result Call Cause
register_one made reg = if nat_le 256 made then Err (S8 Registrations) else Ok (Register (reg ∷ []))

-- the word at this place, counted from 0, empty if there is none
abbrev pub word_at : ℕ → List (List ℕ) → List ℕ
word_at place words = slice_index_or words place []

-- the words VARPATTERN [INTERVAL [SOURCEPATTERN]], and none behind them
abbrev pub register_of : ℕ → List (List ℕ) → Result Call Cause
register_of made words =
    let reg = reg_of (pattern_of (word_at 0 words)) (interval_of (word_at 1 words)) (source_of (word_at 2 words)) in
    and_then (λ call. with_none_behind call (word_at 3 words)) (and_then (register_one made) reg)

-- a withdrawal of these two, or the cause of the first of them that isn't good
abbrev pub withdrawal_of : Option (List ℕ) → Option (List ℕ) → Result Call Cause
withdrawal_of None source = Err S6
withdrawal_of (Some var) None = Err S6
withdrawal_of (Some var) (Some source) = Ok (Unregister var source)

-- the words VARPATTERN [SOURCEPATTERN], and none behind them
abbrev pub unregister_of : List (List ℕ) → Result Call Cause
unregister_of words = and_then (λ call. with_none_behind call (word_at 2 words)) (withdrawal_of (pattern_of (word_at 0 words)) (source_of (word_at 1 words)))

-- why a pair is refused; no text has the fault NoMemory, so its case is never used
abbrev pub cause_of : PairFault → Cause
cause_of NoEquals = S5
cause_of BadName = S4
cause_of BadValue = S5
cause_of TooLong = S8 OfText
cause_of NoMemory = S5

-- a pair, or why its line is refused
abbrev pub with_cause : Result Pair PairFault → Result Pair Cause
with_cause (Ok pair) = Ok pair
with_cause (Err fault) = Err (cause_of fault)

-- the variables, and this one if it isn't among them
abbrev pub with_variable : List (List ℕ) → List ℕ → List (List ℕ)
with_variable known var = if list_any (bytes_eq var) known then known else known ++ var ∷ []

-- the variables that lines post, in the order of their first posts
abbrev pub variables_of : List Entry → List (List ℕ)
variables_of lines = fold (λ vars post. with_variable vars post.var) [] (posts_of lines)

-- a post so far: the variables that are posted up to here, and its own pairs
pub record Posting : Type 0 where
  pub variables : List (List ℕ)
  pub pairs : List Pair

-- a post so far, of these variables and these pairs
abbrev pub posting : List (List ℕ) → List Pair → Posting
posting variables pairs = record { variables = variables; pairs = pairs }

-- the variables that are posted, with one more; a new one may be too many
abbrev pub with_known : List (List ℕ) → List ℕ → Result (List (List ℕ)) Cause
with_known known var =
    if not (list_any (bytes_eq var) known) && nat_le 4096 (length known) then Err (S8 Variables) else Ok (with_variable known var)

-- a post with one more pair, which may be too many
abbrev pub with_pair : Posting → Pair → Result Posting Cause
with_pair post pair =
    if nat_le 64 (length post.pairs) then Err (S8 InBatch)
    else and_then (λ variables. Ok (posting variables (post.pairs ++ pair ∷ []))) (with_known post.variables pair.var)

-- what is between two `#`, or an end of the text, is a pair
abbrev pub with_part : Posting → List ℕ → Result Posting Cause
with_part post part = and_then (with_pair post) (with_cause (pair_of part))

-- the parts of a post, from left to right
abbrev pub with_parts : Posting → List (List ℕ) → Result Posting Cause
with_parts post [] = Ok post
with_parts post (part ∷ parts) = and_then (λ more. with_parts more parts) (with_part post part)

-- PAIR [# PAIR]
abbrev pub post_of_text : List (List ℕ) → List ℕ → Result Call Cause
post_of_text known text = and_then (λ post. Ok (Posts post.pairs)) (with_parts (posting known []) (parts_of text))

-- the call is a registration
abbrev pub is_register : Call → Bool
is_register (Register regs) = true
is_register (Unregister var source) = false
is_register (Posts batch) = false
is_register Fetch = false

-- how many of the lines are the client's registrations
abbrev pub registrations_of : ℕ → List Entry → ℕ
registrations_of client lines = count_by (λ line. line.client == client && is_register line.call) lines

-- what the words after the client ask for, if the client has made `made` registrations and these variables are posted
abbrev pub call_of : ℕ → List (List ℕ) → List ℕ → Result Call Cause
call_of made known text =
    let verb = first_word text in
    let rest = behind_word text in
    if bytes_eq verb (codes "register") then register_of made (words_of rest)
    else if bytes_eq verb (codes "unregister") then unregister_of (words_of rest)
    else if bytes_eq verb (codes "post") then post_of_text known rest
    else if bytes_eq verb (codes "fetch") then with_none_behind Fetch (first_word rest)
    else Err S3

-- a client's number is its place among the names, which it joins if it is new
abbrev pub client_number : List (List ℕ) → List ℕ → ℕ
client_number names client = position_or_len (λ name. bytes_eq name client) names

-- the names with a client, which joins if it is new
abbrev pub with_client : List (List ℕ) → List ℕ → List (List ℕ)
with_client names client = if nat_lt (client_number names client) (length names) then names else names ++ client ∷ []

-- a client is a name other than the helm's, and one of the first 64
abbrev pub client_of : List (List ℕ) → List ℕ → Result ℕ Cause
client_of names word =
    if not (is_name word) then Err S4
    else if bytes_eq word (codes "pHelmIvP") then Err S9
    else if nat_le 64 (client_number names word) then Err (S8 Clients)
    else Ok (client_number names word)

-- the script with one more call of a client
abbrev pub with_client_call : Script → ℕ → List ℕ → Call → Script
with_client_call script stamp client call = record {
  names = with_client script.names client;
  lines = script.lines ++ record { stamp = stamp; client = client_number script.names client; call = call } ∷ [];
  stop = stamp;
}

-- the script with the call of the client of this number and name
abbrev pub after_client : Script → ℕ → List ℕ → List ℕ → ℕ → Result Script Cause
after_client script stamp name text number =
    and_then (λ call. Ok (with_client_call script stamp name call)) (call_of (registrations_of number script.lines) (variables_of script.lines) text)

-- what follows a good stamp: `until`, which only carries the stamp, or a client and its call
abbrev pub after_stamp : Script → List ℕ → ℕ → Result Script Cause
after_stamp script text stamp =
    let word = first_word text in
    let rest = behind_word text in
    if bytes_eq word (codes "until") then with_none_behind (record script { stop = stamp }) (first_word rest)
    else and_then (after_client script stamp word rest) (client_of script.names word)

-- a stamp isn't below that of an earlier line
abbrev pub not_before : ℕ → ℕ → Result ℕ Cause
not_before last stamp = if nat_lt stamp last then Err S2 else Ok stamp

-- the script after the words of one more line
abbrev pub after_line_words : Script → List ℕ → Result Script Cause
after_line_words script text =
    and_then (after_stamp script (behind_word text)) (and_then (not_before script.stop) (ok_or (time_of (first_word text)) S1))

-- what was read so far: the script, and how many lines weren't blank
pub record Progress : Type 0 where
  pub script : Script
  pub filled : ℕ

-- this script, of `filled` lines that weren't blank
abbrev pub progress : Script → ℕ → Progress
progress script filled = record { script = script; filled = filled }

-- a line that isn't blank may be one too many, or leave a quote open, before its words are judged
abbrev pub after_filled : Progress → List ℕ → Result Progress Cause
after_filled read content =
    if nat_le 100000 read.filled then Err (S8 NonBlank)
    else if is_unclosed content then Err S5
    else and_then (λ script. Ok (progress script (suc read.filled))) (after_line_words read.script content)

-- what is read after one more line, of which this is the first word; a blank line says nothing
abbrev pub after_line : Progress → List ℕ → List ℕ → Result Progress Cause
after_line read content [] = Ok read
after_line read content (byte ∷ bytes) = after_filled read content

-- what follows a good line, or the refusal of this line
abbrev pub go_on : ℕ → (Progress → Result Progress ReadFault) → Result Progress Cause → Result Progress ReadFault
go_on number rest (Err cause) = Err (At number cause)
go_on number rest (Ok read) = rest read

-- what is read up to the end, of which the lines from this number on are left
abbrev pub progress_from : ℕ → Progress → List (List ℕ) → Result Progress ReadFault
progress_from number read [] = Ok read
progress_from number read (raw ∷ raws) =
    let content = content_of raw in
    go_on number (λ next. progress_from (suc number) next raws) (after_line read content (first_word content))

-- before the first line
abbrev pub nothing_read : Progress
nothing_read = progress (record { names = []; lines = []; stop = 0 }) 0

-- What the bytes of a script stand for. Lines are counted from 1.
abbrev pub script_of : List ℕ → Result Script ReadFault
script_of bytes = and_then (λ read. Ok read.script) (progress_from 1 nothing_read (raw_lines bytes))
