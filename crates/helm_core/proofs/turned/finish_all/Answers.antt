use Rattle.std.proofs.Common.{◌∙◌, ap}
use Rattle.std.specs.List.{list_any}
use Rattle.helm_core.specs.Standings.{raised_fault}
use Rattle.helm_core.proofs.Turning.{turned_by_fault}
use Rattle.helm_core.proofs.turned.finish_all.Goals as goal

pub returns-clause-turned : goal.returns-clause-turned
returns-clause-turned c =
    turned_by_fault c.args.begun.items c.some_fault-fault.result (c.some_fault-fault.ensures ∙ ap (list_any raised_fault) c.deref.ensures.value) c.finish_each.result c.finish_each.ensures.turned
