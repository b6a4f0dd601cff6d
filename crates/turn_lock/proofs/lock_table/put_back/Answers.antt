use Rattle.std.proofs.Common.{◌≡◌, true, [], ◌∷◌, Some, sym, ap, ◌∙◌, subst, arith}
use mathlib.Core.Option.{none}
use Rattle.atomic_table.specs.Table.{rest, step}
use Rattle.turn_lock.specs.declared.view.Known.{Known}
use Rattle.turn_lock.specs.Steps.{Returns}
use Rattle.turn_lock.proofs.Advancing.{advances}
use Rattle.turn_lock.proofs.lock_table.put_back.Goals as goal

pub fetch_add-turn-requires : goal.fetch_add-turn-requires
fetch_add-turn-requires g c =
    let table = c.args.table.now.table_id in
    let base = g.S.Journaled.base c.args.table.now.key.0.value in
    let seat = c.exchange-hand.new.seat in
    let ticket = c.requires.turn.0 in
    let added = c.requires.turn.1 in
    let moved = c.exchange-hand.ensures.3 in
    let live : seat.me.0.live ≡ true = ap (λ m. m.0.live) moved ∙ c.requires.holds.0 in
    let hand : seat.me.1 ≡ (0, Some c.args.value) ∷ [] = ap (λ m. m.1) moved ∙ ap (λ hs. (0, Some c.args.value) ∷ rest hs) c.requires.holds.1 in
    let returns = subst (λ (v : Known g.row.S-Event.Denot g.row.S-Base.Denot). Returns g.S.Journaled.base g.S.Journaled.history g.S.Journaled.number ticket added v c.args.value) (sym (ap (λ m. m.0) moved)) c.requires.turn.2 in (
      c.exchange-hand.ensures.0 ∙ c.requires.table.0,
      omega (arith, c.requires.table.1),
      advances g.S.Journaled.base g.S.Journaled.history g.S.Journaled.number base table.slots seat.id ticket seat.me (step table.slots 1 1 0 none) c.args.value added live hand returns,
    )
