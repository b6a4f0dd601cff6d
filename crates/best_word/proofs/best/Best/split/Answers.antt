use Rattle.std.proofs.Common.{sym, ◌∙◌, arith}
use Rattle.best_word.proofs.Scouts.{forks}
use Rattle.best_word.proofs.best.Best.split.Goals as goal

pub split_seat-requires : goal.split_seat-requires
split_seat-requires c = (c.requires.word ∙ sym c.self.view_is, omega (arith, c.self.invariant), forks c.self.inside.table.shared.key c.args.scout.now.id c.args.scout.now.me.0)
