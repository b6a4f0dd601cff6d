-- The rule, step by step.
use Rattle.std.proofs.Common.{◌≡◌, ◌∙◌, Some, ap, pos, subst, true}
use Rattle.clap.specs.Words.{NarrowsTo, Rule}
use Rattle.clap.specs.declared.builder.value_parser.ValueParser.{ValueParser}
use Rattle.clap.specs.declared.builder.value_parser.ValueParser.TheVariants.{Unsigned}
use Rattle.command_line.proofs.commands.number_arg.Goals as goal

pub returns-clause-rule : goal.returns-clause-rule
returns-clause-rule c =
    let range = subst (λ (parser : ValueParser). NarrowsTo parser (Some (pos 0)) (Some (pos 999999999)) c.range.result) c.value_parser.ensures
    (rw (c.new-2.ensures.start, c.new-2.ensures.end) at c.range.ensures) in
    let given = c.value_parser-2.ensures.given in
    let parser : c.value_parser-2.result.value_parser ≡ Some (Unsigned 0 999999999) = given.1 ∙ ap (λ one. Some one) (given.2 ∙ range) in
    rw (c.value_parser-2.ensures.others, parser, c.required.ensures)
    (ap (λ (rule : Rule). record rule { required = true; parser = Some (Unsigned 0 999999999) }) c.new.ensures.rule)

pub returns-clause-local : goal.returns-clause-local
returns-clause-local c = rw (c.value_parser-2.ensures.others, c.required.ensures) c.new.ensures.optional.1
