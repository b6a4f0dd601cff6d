use Rattle.std.proofs.Common.{◌<◌, ◌∙◌, length, ap, arith}
use Rattle.helm_cond.specs.Levels.{with_or}
use Rattle.helm_cond.specs.Stacks.{on_innermost}
use Rattle.helm_cond.proofs.Stacked.{innermost_changes}
use Rattle.helm_cond.proofs.levels.Levels.alternative.Goals as goal

pub returns : goal.returns
returns c =
    let within : c.self.inside.innermost < length c.self.inside.levels = omega (arith, c.self.invariant.row, c.self.invariant.within) in
    innermost_changes c.self.inside.levels c.self.inside.innermost with_or c.with_or.result _ within c.with_or.ensures
    ∙ ap (on_innermost with_or) c.self.view_is
