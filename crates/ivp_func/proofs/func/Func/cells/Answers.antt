use Rattle.std.proofs.Common.{ap, ◌∙◌}
use Rattle.ivp_func.specs.Functions.{Function}
use Rattle.ivp_func.specs.Grids.{cells_of}
use Rattle.ivp_func.proofs.func.Func.cells.Goals as goal

pub returns : goal.returns
returns c = c.cells.ensures.cells ∙ (c.of_domain.ensures.count ∙ ap (λ (f : Function). cells_of f.axes) c.body.ensures.function)
