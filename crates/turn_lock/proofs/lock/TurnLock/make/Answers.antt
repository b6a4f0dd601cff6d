use Rattle.std.proofs.Common.{[], ◌∷◌, sym, ap, subst}
use Rattle.atomic_table.specs.Table.{opening}
use Rattle.turn_lock.specs.Rule.{TurnRule, newcomer}
use Rattle.turn_lock.proofs.Closing.{begins}
use Rattle.turn_lock.proofs.lock.TurnLock.make.Goals as goal

pub new-requires : goal.new-requires
new-requires g c =
    let base = g.S.Journaled.base c.of.result.value in
    let kept = begins g.S.Journaled.base g.S.Journaled.history g.S.Journaled.number base c.args.value c.args.passes c.requires.empty (ap g.S.Journaled.base (sym c.of.ensures)) c.requires.some c.ranges.passes.fits in
    subst (λ slots. TurnRule g.S.Journaled.base g.S.Journaled.history g.S.Journaled.number base (opening (0 ∷ 0 ∷ []) slots (newcomer base c.args.passes))) (sym c.in-Ok.ensures.slots) kept
