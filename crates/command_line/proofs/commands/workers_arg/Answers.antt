-- The rule, step by step.
use Rattle.std.proofs.Common.{◌≡◌, ◌∙◌, ◌∷◌, [], Some, ap, codes, pos, subst}
use Rattle.clap.specs.Words.{NarrowsTo, Rule}
use Rattle.clap.specs.declared.builder.value_parser.ValueParser.{ValueParser}
use Rattle.clap.specs.declared.builder.value_parser.ValueParser.TheVariants.{Unsigned}
use Rattle.command_line.proofs.commands.workers_arg.Goals as goal

pub returns-clause-rule : goal.returns-clause-rule
returns-clause-rule c =
    let range = subst (λ (parser : ValueParser). NarrowsTo parser (Some (pos 1)) (Some (pos 16)) c.range.result) c.value_parser.ensures
    (rw (c.new-2.ensures.start, c.new-2.ensures.end) at c.range.ensures) in
    let given = c.value_parser-2.ensures.given in
    let parser : c.value_parser-2.result.value_parser ≡ Some (Unsigned 1 16) = given.1 ∙ ap (λ one. Some one) (given.2 ∙ range) in
    rw (c.default_value.ensures, c.value_parser-2.ensures.others, parser, c.long.ensures)
    (ap (λ (rule : Rule). record rule { long = Some (codes "workers"); parser = Some (Unsigned 1 16); defaults = codes "1" ∷ [] }) c.new.ensures.rule)

pub returns-clause-local : goal.returns-clause-local
returns-clause-local c = rw (c.default_value.ensures, c.value_parser-2.ensures.others, c.long.ensures) c.new.ensures.optional.1
