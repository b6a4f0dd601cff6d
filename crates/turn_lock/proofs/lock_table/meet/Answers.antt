use Rattle.std.proofs.Common.{◌≡◌, true, ap, ◌∙◌, arith}
use mathlib.Core.Option.{none}
use Rattle.atomic_table.specs.Table.{step}
use Rattle.turn_lock.specs.declared.view.Turn.TheVariants.{Idle}
use Rattle.turn_lock.proofs.Meeting.{meets, settles}
use Rattle.turn_lock.proofs.lock_table.meet.Goals as goal

pub join_seat-requires : goal.join_seat-requires
join_seat-requires g c =
    let base = g.S.Journaled.base c.args.table.now.key.0.value in (
      c.requires.table.0,
      c.requires.table.1,
      c.requires.other.2,
      omega (arith, c.requires.table.2),
      meets g.S.Journaled.base g.S.Journaled.history g.S.Journaled.number base c.args.seat.now.id c.args.other.id c.args.seat.now.me.0 c.args.other.me.0 c.requires.free.0 c.requires.other.0 c.requires.free.1 c.requires.other.1,
    )

pub load-requires : goal.load-requires
load-requires g c =
    let table = c.args.table.now.table_id in
    let base = g.S.Journaled.base c.args.table.now.key.0.value in
    let seat = c.join_seat.new.seat in
    let joined = c.join_seat.ensures.2 in
    let live : seat.me.0.live ≡ true = ap (λ m. m.0.live) joined ∙ c.requires.free.0 in
    let idle : seat.me.0.turn ≡ Idle = ap (λ m. m.0.turn) joined ∙ c.requires.free.1 in (
      c.join_seat.ensures.0 ∙ c.requires.table.0,
      omega (arith, c.requires.table.2),
      settles g.S.Journaled.base g.S.Journaled.history g.S.Journaled.number base table.slots seat.id seat.me (step table.slots 1 0 0 none) live idle,
    )
