-- The reader, line by line, comes to what the bytes of a bridge file stand for.
use Rattle.std.proofs.Common.{◌≡◌, ℕ, suc, List, [], ◌∷◌, refl, ◌∙◌}
use Rattle.std.specs.Prelude.{Result, Ok, Err}
use Rattle.moos_text.specs.declared.cause.ReadFault.{ReadFault}
use Rattle.moos_text.specs.Lines.{content_of, raw_lines, trimmed}
use Rattle.moos_text.specs.Refusals.{and_then, at_line}
use Rattle.moos_text.specs.Sections.{stated, statements_from}
use Rattle.moos_text.specs.Standing.{read_lines}
use Rattle.moos_share.specs.declared.rule.Rule.{Rule}
use Rattle.moos_share.specs.BridgeFiles.{after_said, rules_of, with_rule, with_rules}

-- one line more, by its number and all that is on it
abbrev pub after_bridge_line : ℕ → List Rule → List ℕ → Result (List Rule) ReadFault
after_bridge_line line rules raw = after_said line rules (trimmed (content_of raw))

-- lines one after another, by what is on them
lines_said : (before : ℕ) (rules : List Rule) (raws : List (List ℕ)) → read_lines after_bridge_line before rules raws ≡ with_rules rules (statements_from before raws)
lines_said before rules [] = refl
lines_said before rules (raw ∷ raws) = by (trimmed (content_of raw)) (λ next. lines_said (suc before) next raws)
  where
    on : (read : Result (List Rule) ReadFault) → ((next : List Rule) → read_lines after_bridge_line (suc before) next raws ≡ with_rules next (statements_from (suc before) raws))
        → and_then (λ next. read_lines after_bridge_line (suc before) next raws) read ≡ and_then (λ more. with_rules more (statements_from (suc before) raws)) read
    on (Ok next) behind = behind next
    on (Err fault) behind = refl

    by : (text : List ℕ) → ((next : List Rule) → read_lines after_bridge_line (suc before) next raws ≡ with_rules next (statements_from (suc before) raws))
        → and_then (λ next. read_lines after_bridge_line (suc before) next raws) (after_said (suc before) rules text) ≡ with_rules rules (stated (suc before) text (statements_from (suc before) raws))
    by [] behind = behind rules
    by (byte ∷ bytes) behind = on (at_line (suc before) (with_rule rules (record { line = suc before; text = byte ∷ bytes }))) behind

-- what was read is what the file is
abbrev pub whole : List Rule → Result (List Rule) ReadFault
whole rules = Ok rules

itself : (read : Result (List Rule) ReadFault) → and_then whole read ≡ read
itself (Ok rules) = refl
itself (Err fault) = refl

pub bridge_read : (bytes : List ℕ) → and_then whole (read_lines after_bridge_line 0 [] (raw_lines bytes)) ≡ rules_of bytes
bridge_read bytes = itself (read_lines after_bridge_line 0 [] (raw_lines bytes)) ∙ lines_said 0 [] (raw_lines bytes)
