use Rattle.std.proofs.Common.{◌<◌, ◌≡◌, ◌+◌, ◌∷◌, ◌∙◌, length, ap, sym, subst, arith}
use Rattle.helm_cond.specs.Levels.{fresh_level}
use Rattle.helm_cond.specs.Stacks.{stack_of}
use Rattle.helm_cond.proofs.Stacked.{opens, stack_length}
use Rattle.helm_cond.proofs.levels.Levels.open.Goals as goal

pub returns : goal.returns
returns c =
    let few : length (stack_of c.self.inside.levels c.self.inside.innermost) < 65 = subst (λ stack. length stack < 65) (sym c.self.view_is) c.requires in
    let each : length (stack_of c.self.inside.levels c.self.inside.innermost) ≡ c.self.inside.innermost + 1 = stack_length c.self.inside.levels c.self.inside.innermost in
    let within : c.self.inside.innermost + 1 < length c.self.inside.levels = omega (arith, c.self.invariant.row) in
    opens c.self.inside.levels c.self.inside.innermost c.fresh.result within
    ∙ ap (λ first. first ∷ stack_of c.self.inside.levels c.self.inside.innermost) c.fresh.ensures
    ∙ ap (λ rest. fresh_level ∷ rest) c.self.view_is
