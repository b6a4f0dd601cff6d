use Rattle.std.proofs.Common.{refl, sym}
use Rattle.mode_tree.proofs.Scanned.{mode_is}
use Rattle.mode_tree.proofs.walk.Walk.start.Goals as goal

pub returns-clause-comes : goal.returns-clause-comes
returns-clause-comes c known decls rooted = record {
  parts = 16;
  room = refl;
  row = refl;
  named = refl;
  is = sym (mode_is known decls rooted);
}
