use Rattle.std.proofs.Common.{sym, ap, ◌∙◌, subst}
use Rattle.turn_lock.specs.Passes.{Begins, own}
use Rattle.turn_lock.proofs.Closing.{ends, held_in}
use Rattle.turn_lock.proofs.lock_table.close.Goals as goal

pub unreachable-requires : goal.unreachable-requires
unreachable-requires g c =
    let base = g.S.Journaled.base c.args.table.shared.key.0.value in
    let end = ends g.S.Journaled.base g.S.Journaled.history g.S.Journaled.number base c.args.seat.id c.args.seat.me.0 _ _ c.take-slot.result c.requires.free.0 c.requires.free.1 c.requires.all.0 c.requires.all.1 c.close_with-closed.ensures.values.2 c.take-slot.ensures.value in
    c.in_default.not-Some end.x end.is

pub returns-clause-base : goal.returns-clause-base
returns-clause-base g c =
    let base = g.S.Journaled.base c.args.table.shared.key.0.value in
    let end = ends g.S.Journaled.base g.S.Journaled.history g.S.Journaled.number base c.args.seat.id c.args.seat.me.0 _ _ c.take-slot.result c.requires.free.0 c.requires.free.1 c.requires.all.0 c.requires.all.1 c.close_with-closed.ensures.values.2 c.take-slot.ensures.value in
    ap g.S.Journaled.base (held_in c.take-slot.result end.x c.in-Some.value end.is c.in-Some.is) ∙ end.base_is

pub returns-clause-seen : goal.returns-clause-seen
returns-clause-seen g c =
    let base = g.S.Journaled.base c.args.table.shared.key.0.value in
    let end = ends g.S.Journaled.base g.S.Journaled.history g.S.Journaled.number base c.args.seat.id c.args.seat.me.0 _ _ c.take-slot.result c.requires.free.0 c.requires.free.1 c.requires.all.0 c.requires.all.1 c.close_with-closed.ensures.values.2 c.take-slot.ensures.value in
    subst (λ x. Begins (g.S.Journaled.history x) c.args.seat.me.0.seen) (sym (held_in c.take-slot.result end.x c.in-Some.value end.is c.in-Some.is)) end.seen

pub returns-clause-whole : goal.returns-clause-whole
returns-clause-whole g c n =
    let base = g.S.Journaled.base c.args.table.shared.key.0.value in
    let end = ends g.S.Journaled.base g.S.Journaled.history g.S.Journaled.number base c.args.seat.id c.args.seat.me.0 _ _ c.take-slot.result c.requires.free.0 c.requires.free.1 c.requires.all.0 c.requires.all.1 c.close_with-closed.ensures.values.2 c.take-slot.ensures.value in
    ap (λ x. own g.S.Journaled.number n (g.S.Journaled.history x)) (held_in c.take-slot.result end.x c.in-Some.value end.is c.in-Some.is) ∙ end.whole_is n
