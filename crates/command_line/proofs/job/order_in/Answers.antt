-- The order is told by the flag.
use Rattle.std.proofs.Common.{ap}
use Rattle.std.specs.Prelude.{if◌then◌else◌}
use Rattle.script_reader.specs.declared.script.Order.TheVariants.{Stamp, Race}
use Rattle.command_line.proofs.job.order_in.Goals as goal

pub returns-then-is_set : goal.returns-then-is_set
returns-then-is_set c = ap (λ race. if race then Race else Stamp) c.if-is_set.ensures

pub returns-else-is_set : goal.returns-else-is_set
returns-else-is_set c = ap (λ race. if race then Race else Stamp) c.if-is_set.ensures
