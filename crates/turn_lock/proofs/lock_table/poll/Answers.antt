use Rattle.std.proofs.Common.{arith}
use mathlib.Core.Option.{none}
use Rattle.atomic_table.specs.Table.{step}
use Rattle.turn_lock.proofs.Turns.{polls}
use Rattle.turn_lock.proofs.lock_table.poll.Goals as goal

pub load-requires : goal.load-requires
load-requires g c =
    let table = c.args.table.now.table_id in
    let base = g.S.Journaled.base c.args.table.now.key.0.value in (
      c.requires.table.0,
      omega (arith, c.requires.table.1),
      polls g.S.Journaled.base g.S.Journaled.history g.S.Journaled.number base table.slots c.args.seat.now.id c.requires.waits.1.0 c.args.seat.now.me (step table.slots 1 0 0 none) c.requires.waits.0 c.requires.waits.1.1,
    )
