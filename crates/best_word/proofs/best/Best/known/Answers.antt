use Rattle.std.proofs.Common.{sym, ◌∙◌, arith}
use mathlib.Core.Option.{none}
use Rattle.atomic_table.specs.Table.{step}
use Rattle.best_word.proofs.Scouts.{looks}
use Rattle.best_word.proofs.best.Best.known.Goals as goal

pub load-requires : goal.load-requires
load-requires c =
    let table = c.self.inside.table.shared in (
      c.requires.word ∙ sym c.self.view_is,
      omega (arith, c.self.invariant),
      looks table.key table.table_id.slots c.args.scout.now.id c.args.scout.now.me (step table.table_id.slots 0 0 0 none),
    )
