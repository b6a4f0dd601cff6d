use Rattle.std.proofs.Common.{inr, sym, ◌∙◌, refl, arith}
use mathlib.Core.Option.{none}
use Rattle.atomic_table.specs.Table.{step}
use Rattle.best_word.proofs.Scouts.{raises}
use Rattle.best_word.proofs.best.Best.offer.Goals as goal

pub fetch_max-found-requires : goal.fetch_max-found-requires
fetch_max-found-requires c =
    let table = c.self.inside.table.shared in (
      c.requires.word ∙ sym c.self.view_is,
      omega (arith, c.self.invariant),
      raises table.key c.args.problem.now table.table_id.slots c.args.scout.now.id c.args.sum c.args.scout.now.me (step table.table_id.slots 0 c.args.sum 0 none) refl c.requires.problem (inr (c.args.p.now, c.requires.point.0, c.requires.point.1)),
    )
