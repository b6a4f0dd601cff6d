-- What the bytes of a bridge file stand for: its rules, or its first refusal with its line and cause.
use Rattle.std.specs.Prelude.{ℕ, ◌&&◌, ◌==◌, nat_le, if◌then◌else◌, List, [], ◌∷◌, ◌++◌, length, codes, bytes_eq, Option, Some, None, ok_or, Result, Ok, Err}
use Rattle.moos_post.specs.Words.{is_name, is_pattern}
use Rattle.moos_text.specs.declared.cause.Cause.{Cause}
use Rattle.moos_text.specs.declared.cause.Cause.TheVariants.{G1, G2, G3, G5, G6}
use Rattle.moos_text.specs.declared.cause.ReadFault.{ReadFault}
use Rattle.moos_text.specs.Lines.{is_unclosed, words_of}
use Rattle.moos_text.specs.Refusals.{and_then, at_line}
use Rattle.moos_text.specs.Sections.{Statement, statements_of}
use Rattle.script_reader.specs.Script.{time_of, word_at}
use Rattle.moos_share.specs.declared.rule.Rule.{Rule}

-- the pattern that a word must be
abbrev pub pattern_word : List ℕ → Result (List ℕ) Cause
pattern_word word = if is_pattern word then Ok word else Err G2

-- the interval in milliseconds, if a word is a number of seconds from 0 to 1,000,000
abbrev pub interval_word : List ℕ → Result ℕ Cause
interval_word word = ok_or (time_of word) G3

-- the prefix that a word stands for: none for `-`, and else a name of at most 32 bytes
abbrev pub prefix_word : List ℕ → Result (Option (List ℕ)) Cause
prefix_word word =
    if bytes_eq word (codes "-") then Ok None
    else if is_name word && nat_le (length word) 32 then Ok (Some word)
    else Err G5

-- the rule of the line with this number, of two patterns, an interval and a prefix
abbrev pub rule_with : ℕ → List ℕ → List ℕ → ℕ → Option (List ℕ) → Rule
rule_with line var source interval prefix =
    record { reg = record { var = var; source = source; interval = interval }; prefix = prefix; line = line }

-- the rule of four words, judged from left to right: the first is judged on the last line
abbrev pub rule_from : ℕ → List ℕ → List ℕ → List ℕ → List ℕ → Result Rule Cause
rule_from line var source interval prefix =
    and_then (λ var.
    and_then (λ source.
    and_then (λ interval.
    and_then (λ prefix. Ok (rule_with line var source interval prefix))
    (prefix_word prefix))
    (interval_word interval))
    (pattern_word source))
    (pattern_word var)

-- `share VARPATTERN SOURCEPATTERN INTERVAL PREFIX`: that there are five words, and the first one, is judged before the others
abbrev pub rule_of : ℕ → List (List ℕ) → Result Rule Cause
rule_of line words =
    if length words == 5 && bytes_eq (word_at 0 words) (codes "share") then rule_from line (word_at 1 words) (word_at 2 words) (word_at 3 words) (word_at 4 words)
    else Err G1

-- The rules with that of one more line. It may be one too many, or leave a quote open, before its words are judged.
abbrev pub with_rule : List Rule → Statement → Result (List Rule) Cause
with_rule rules said =
    if nat_le 64 (length rules) then Err G6
    else if is_unclosed said.text then Err G1
    else and_then (λ rule. Ok (rules ++ rule ∷ [])) (rule_of said.line (words_of said.text))

-- the rules with those of some more lines, one after another
abbrev pub with_rules : List Rule → List Statement → Result (List Rule) ReadFault
with_rules rules [] = Ok rules
with_rules rules (said ∷ behind) = and_then (λ more. with_rules more behind) (at_line said.line (with_rule rules said))

-- What the bytes of a bridge file stand for. Lines are counted from 1, and blank ones say nothing.
abbrev pub rules_of : List ℕ → Result (List Rule) ReadFault
rules_of bytes = with_rules [] (statements_of bytes)

-- What a reader makes of one more line, by its number and its text without blanks at its ends. This serves `reading` alone.
abbrev pub after_said : ℕ → List Rule → List ℕ → Result (List Rule) ReadFault
after_said line rules [] = Ok rules
after_said line rules (byte ∷ bytes) = at_line line (with_rule rules (record { line = line; text = byte ∷ bytes }))
