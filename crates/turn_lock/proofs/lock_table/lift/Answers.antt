use Rattle.std.proofs.Common.{◌∷◌, Some, sym, ap, ◌∙◌}
use Rattle.atomic_table.specs.Table.{rest}
use Rattle.turn_lock.proofs.lock_table.lift.Goals as goal

pub exchange-requires : goal.exchange-requires
exchange-requires g c = let hand = c.requires.hand in (c.requires.table, (Some hand.0, hand.1 ∙ ap (λ hs. (0, Some hand.0) ∷ rest hs) (sym hand.1)))
