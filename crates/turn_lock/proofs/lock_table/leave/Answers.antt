use Rattle.std.proofs.Common.{arith}
use Rattle.turn_lock.proofs.Closing.{leaves}
use Rattle.turn_lock.proofs.lock_table.leave.Goals as goal

pub split_seat-requires : goal.split_seat-requires
split_seat-requires g c =
    let base = g.S.Journaled.base c.args.table.now.key.0.value in (
      c.requires.table.0,
      omega (arith, c.requires.table.1),
      leaves g.S.Journaled.base g.S.Journaled.history g.S.Journaled.number base c.args.seat.now.id c.args.seat.now.me.0 c.requires.free.0,
    )
