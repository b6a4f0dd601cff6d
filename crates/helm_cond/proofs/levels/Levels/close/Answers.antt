use Rattle.std.proofs.Common.{◌<◌, ◌∙◌, length, ap, sym, subst, arith}
use Rattle.helm_cond.specs.Stacks.{level_closed}
use Rattle.helm_cond.proofs.Stacked.{ends}
use Rattle.helm_cond.proofs.levels.Levels.close.Goals as goal

pub returns : goal.returns
returns c =
    let within : c.self.inside.innermost < length c.self.inside.levels = omega (arith, c.self.invariant.row, c.self.invariant.within) in
    c.operand.ensures
    ∙ ends c.self.inside.levels c.self.inside.innermost _ c.holds-holds.result within (subst (λ stack. 1 < length stack) (sym c.self.view_is) c.requires) c.holds-holds.ensures
    ∙ ap level_closed c.self.view_is
