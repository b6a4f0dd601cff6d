use Rattle.std.proofs.Common.{arith}
use mathlib.Core.Option.{none}
use Rattle.atomic_table.specs.Table.{step}
use Rattle.turn_lock.proofs.Queues.{draws}
use Rattle.turn_lock.proofs.lock_table.draw.Goals as goal

pub fetch_add-requires : goal.fetch_add-requires
fetch_add-requires g c =
    let table = c.args.table.now.table_id in
    let base = g.S.Journaled.base c.args.table.now.key.0.value in (
      c.requires.table.0,
      omega (arith, c.requires.table.1),
      draws g.S.Journaled.base g.S.Journaled.history g.S.Journaled.number base table.slots c.args.seat.now.id c.args.seat.now.me (step table.slots 0 1 0 none) c.requires.free.0 c.requires.free.1,
    )
