-- The rule, step by step.
use Rattle.std.proofs.Common.{Some, ap, codes}
use Rattle.clap.specs.Words.{Rule}
use Rattle.clap.specs.declared.builder.ArgAction.TheVariants.{SetTrue}
use Rattle.command_line.proofs.commands.race_arg.Goals as goal

pub returns-clause-rule : goal.returns-clause-rule
returns-clause-rule c =
    rw (c.action.ensures, c.long.ensures) (ap (λ (rule : Rule). record rule { long = Some (codes "race"); action = Some SetTrue }) c.new.ensures.rule)

pub returns-clause-local : goal.returns-clause-local
returns-clause-local c = rw (c.action.ensures, c.long.ensures) c.new.ensures.optional.1
