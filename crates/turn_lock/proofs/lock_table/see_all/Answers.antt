use Rattle.std.proofs.Common.{arith}
use mathlib.Core.Option.{none}
use Rattle.atomic_table.specs.Table.{step}
use Rattle.turn_lock.proofs.Seeing.{sees}
use Rattle.turn_lock.proofs.lock_table.see_all.Goals as goal

pub load-requires : goal.load-requires
load-requires g c =
    let table = c.args.table.now.table_id in
    let base = g.S.Journaled.base c.args.table.now.key.0.value in (
      c.requires.table.0,
      omega (arith, c.requires.table.1),
      sees g.S.Journaled.base g.S.Journaled.history g.S.Journaled.number base table.slots c.args.seat.now.id c.args.seat.now.me (step table.slots 1 0 0 none) c.requires.free.0 c.requires.free.1 c.requires.all.0 c.requires.all.1,
    )
