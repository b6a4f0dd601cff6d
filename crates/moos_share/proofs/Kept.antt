-- Every rule that is read is as its parts let it be.
use Rattle.std.proofs.Common.{◌≡◌, ℕ, ◌&&◌, ◌==◌, cond, nat_le, List, [], ◌∷◌, ◌++◌, length, codes, bytes_eq, Option, Some, None, arith}
use Rattle.std.specs.Prelude.{IfOk, IfSome, IsTrue, ok_or, Result, Ok, Err}
use Rattle.std.specs.List.{All}
use Rattle.std.proofs.lemmas.Bool.{leb-true}
use Rattle.std.proofs.lemmas.List.Elements.{All-nil, All-push}
use Rattle.moos_post.specs.Words.{is_name, is_pattern}
use Rattle.moos_text.specs.declared.cause.Cause.{Cause}
use Rattle.moos_text.specs.declared.cause.Cause.TheVariants.{G1, G2, G3, G5, G6}
use Rattle.moos_text.specs.Lines.{is_unclosed, words_of}
use Rattle.moos_text.specs.Refusals.{and_then, at_line}
use Rattle.moos_text.specs.Sections.{Statement, statements_of}
use Rattle.moos_text.proofs.Judging.{and_then_good, at_good, cond_good}
use Rattle.script_reader.specs.Script.{time_of, word_at}
use Rattle.script_reader.proofs.Calls.{IsEarly, time_early}
use Rattle.moos_share.specs.BridgeFiles.{interval_word, pattern_word, prefix_word, rule_from, rule_of, rule_with, rules_of, with_rule, with_rules}
use Rattle.moos_share.specs.declared.rule.Rule.{Rule}
use Rattle.moos_share.specs.Validity.{IsRule}

abbrev IsPattern : List ℕ → Type 0
IsPattern word = IsTrue (is_pattern word)

pattern_good : (word : List ℕ) → IfOk (pattern_word word) IsPattern
pattern_good word = cond_good IsPattern (is_pattern word) (Ok word) (Err G2) (λ is. is) (λ _. tt)

interval_good : (word : List ℕ) → IfOk (interval_word word) IsEarly
interval_good word = at (time_of word) (time_early word)
  where
    at : (time : Option ℕ) → IfSome time IsEarly → IfOk (ok_or time G3) IsEarly
    at None early = tt
    at (Some time) early = early

abbrev IsPrefix : Option (List ℕ) → Type 0
IsPrefix prefix = IfSome prefix (λ prefix. IsTrue (is_name prefix && nat_le (length prefix) 32))

prefix_good : (word : List ℕ) → IfOk (prefix_word word) IsPrefix
prefix_good word =
    cond_good IsPrefix (bytes_eq word (codes "-")) (Ok None) (cond (is_name word && nat_le (length word) 32) (Ok (Some word)) (Err G5)) (λ _. tt)
    (λ _. cond_good IsPrefix (is_name word && nat_le (length word) 32) (Ok (Some word)) (Err G5) (λ is. is) (λ _. tt))

-- the rule of a line
from_good : (line : ℕ) (var source interval prefix : List ℕ) → IfOk (rule_from line var source interval prefix) IsRule
from_good line var source interval prefix =
    and_then_good IsPattern IsRule with_var (pattern_word var) (pattern_good var)
    (λ var named. and_then_good IsPattern IsRule (with_source var) (pattern_word source) (pattern_good source)
    (λ source sourced. and_then_good IsEarly IsRule (with_interval var source) (interval_word interval) (interval_good interval)
    (λ interval early. and_then_good IsPrefix IsRule (λ prefix. Ok (rule_with line var source interval prefix)) (prefix_word prefix) (prefix_good prefix)
    (λ prefix is. let short = leb-true interval 1000000000 early in record { reg = record { var = named; source = sourced; interval = omega (arith, short) }; prefix = is }))))
  where
    with_interval : List ℕ → List ℕ → ℕ → Result Rule Cause
    with_interval var source interval = and_then (λ prefix. Ok (rule_with line var source interval prefix)) (prefix_word prefix)

    with_source : List ℕ → List ℕ → Result Rule Cause
    with_source var source = and_then (with_interval var source) (interval_word interval)

    with_var : List ℕ → Result Rule Cause
    with_var var = and_then (with_source var) (pattern_word source)

rule_good : (line : ℕ) (words : List (List ℕ)) → IfOk (rule_of line words) IsRule
rule_good line words =
    cond_good IsRule (length words == 5 && bytes_eq (word_at 0 words) (codes "share")) (rule_from line (word_at 1 words) (word_at 2 words) (word_at 3 words) (word_at 4 words)) (Err G1)
    (λ _. from_good line (word_at 1 words) (word_at 2 words) (word_at 3 words) (word_at 4 words)) (λ _. tt)

-- the rules with those of one line more, and of more lines
more_good : (rules : List Rule) (said : Statement) → All IsRule rules → IfOk (with_rule rules said) (All IsRule)
more_good rules said good =
    cond_good (All IsRule) (nat_le 64 (length rules)) (Err G6) (cond (is_unclosed said.text) (Err G1) more) (λ _. tt)
    (λ _. cond_good (All IsRule) (is_unclosed said.text) (Err G1) more (λ _. tt)
    (λ _. and_then_good IsRule (All IsRule) (λ rule. Ok (rules ++ rule ∷ [])) (rule_of said.line (words_of said.text)) (rule_good said.line (words_of said.text))
    (λ rule is. All-push IsRule rules rule good is)))
  where
    more : Result (List Rule) Cause
    more = and_then (λ rule. Ok (rules ++ rule ∷ [])) (rule_of said.line (words_of said.text))

all_good : (rules : List Rule) (lines : List Statement) → All IsRule rules → IfOk (with_rules rules lines) (All IsRule)
all_good rules [] good = good
all_good rules (said ∷ behind) good =
    and_then_good (All IsRule) (All IsRule) (λ more. with_rules more behind) (at_line said.line (with_rule rules said)) (line_good (with_rule rules said) (more_good rules said good)) (λ more. all_good more behind)
  where
    line_good : (read : Result (List Rule) Cause) → IfOk read (All IsRule) → IfOk (at_line said.line read) (All IsRule)
    line_good (Ok more) good = good
    line_good (Err cause) good = tt

pub rules_good : (bytes : List ℕ) (rules : List Rule) → rules_of bytes ≡ Ok rules → All IsRule rules
rules_good bytes rules read = at_good (All IsRule) (rules_of bytes) rules (all_good [] (statements_of bytes) (All-nil IsRule)) read
