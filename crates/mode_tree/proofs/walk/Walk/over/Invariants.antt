use Rattle.std.proofs.Common.{drop}
use Rattle.helm_cond.specs.Infos.{knowledge_of}
use Rattle.mode_tree.specs.Modes.{mode_of}
use Rattle.mode_tree.specs.Scans.{ComesTo, IsWithin}
use Rattle.mode_tree.proofs.walk.Walk.over.Given as goal

abbrev pub invariant-loop-number : goal.invariant-loop-number
invariant-loop-number l = record {
  within : IsWithin l.decls l.number l.walk;
  comes : ComesTo (knowledge_of l.info) l.walk l.number (drop l.number l.decls) (mode_of l.decls (knowledge_of l.info));
}
