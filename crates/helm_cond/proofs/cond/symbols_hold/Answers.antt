use Rattle.std.proofs.Common.{◌+◌, ◌∷◌, ◌∙◌, drop, ap, sym, subst}
use Rattle.std.proofs.lemmas.List.{drop_more}
use Rattle.helm_cond.specs.Conditions.{comparison_holds, holds}
use Rattle.helm_cond.specs.Infos.{knowledge_of}
use Rattle.helm_cond.specs.Levels.{LeadsTo}
use Rattle.helm_cond.specs.KeptConditions.{condition_in}
use Rattle.helm_cond.proofs.Whole.{begins_whole}
use Rattle.helm_cond.proofs.cond.symbols_hold.Goals as goal

pub loop-symbol-init : goal.loop-symbol-init
loop-symbol-init c =
    subst (λ open_levels. LeadsTo (comparison_holds (knowledge_of c.args.info.now) c.args.mode.now) open_levels c.args.symbols.now (holds (knowledge_of c.args.info.now) c.args.mode.now (condition_in c.args.symbols.now)))
    (sym c.outermost-levels.ensures) (begins_whole (knowledge_of c.args.info.now) c.args.mode.now c.args.symbols.now c.requires)

pub add_symbol-requires : goal.add_symbol-requires
add_symbol-requires c = (
  drop (c.loop-symbol.symbol-index + 1) c.args.symbols.now,
  (
    holds (knowledge_of c.args.info.now) c.args.mode.now (condition_in c.args.symbols.now),
    subst (λ symbols. LeadsTo (comparison_holds (knowledge_of c.args.info.now) c.args.mode.now) c.loop-symbol.levels symbols (holds (knowledge_of c.args.info.now) c.args.mode.now (condition_in c.args.symbols.now)))
        (drop_more c.args.symbols.now c.loop-symbol.symbol-index c.symbol-item.result c.loop-symbol-test.true
        ∙ ap (λ first. first ∷ drop (c.loop-symbol.symbol-index + 1) c.args.symbols.now) (sym c.symbol-item.is))
        c.loop-symbol.invariant,
  ),
)
