use Rattle.std.proofs.Common.{sym, ◌∙◌, arith}
use Rattle.best_word.proofs.Scouts.{merges}
use Rattle.best_word.proofs.best.Best.join.Goals as goal

pub join_seat-requires : goal.join_seat-requires
join_seat-requires c = (
  c.requires.word.0 ∙ sym c.self.view_is,
  c.requires.word.1 ∙ sym c.self.view_is,
  c.requires.word.2,
  omega (arith, c.self.invariant),
  merges c.self.inside.table.shared.key c.args.scout.now.id c.args.other.id c.args.scout.now.me.0 c.args.other.me.0 c.requires.problem.0 c.requires.problem.1 c.requires.problem.2,
)
