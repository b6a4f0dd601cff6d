use Rattle.std.proofs.Common.{drop}
use Rattle.helm_cond.specs.Conditions.{comparison_holds, holds}
use Rattle.helm_cond.specs.Infos.{knowledge_of}
use Rattle.helm_cond.specs.Levels.{LeadsTo}
use Rattle.helm_cond.specs.KeptConditions.{condition_in}
use Rattle.helm_cond.proofs.cond.symbols_hold.Given as goal

-- What is left comes to whether the condition holds.
abbrev pub invariant-loop-symbol : goal.invariant-loop-symbol
invariant-loop-symbol l = LeadsTo (comparison_holds (knowledge_of l.info) l.mode) l.levels (drop l.symbol-index l.symbols) (holds (knowledge_of l.info) l.mode (condition_in l.symbols))
