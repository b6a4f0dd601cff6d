use Rattle.helm_core.proofs.Turning.{AreFirst}
use Rattle.helm_core.proofs.behavior_list.first_kept.Given as goal

abbrev pub invariant-loop-place : goal.invariant-loop-place
invariant-loop-place l = record {
  first : AreFirst l.domain l.blocks l.place l.kept.items;
}
