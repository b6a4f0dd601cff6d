use Rattle.std.proofs.Common.{◌<◌, sym, ap, subst, ◌∙◌}
use Rattle.ivp_func.specs.Functions.{Function}
use Rattle.ivp_func.specs.Grids.{cell_box, cells_of}
use Rattle.ivp_func.proofs.func.Func.cell_box.Goals as goal

pub cell_box-requires : goal.cell_box-requires
cell_box-requires c = subst (λ n. c.args.k < n) (sym (c.of_domain.ensures.count ∙ ap (λ (f : Function). cells_of f.axes) c.body.ensures.function)) c.requires

pub returns : goal.returns
returns c = c.cell_box.ensures ∙ (c.of_domain.ensures.boxes c.args.k ∙ ap (λ (f : Function). cell_box f.axes c.args.k) c.body.ensures.function)
