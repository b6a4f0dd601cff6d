use Rattle.std.proofs.Common.{◌≡◌, true, ap, sym, subst, ◌∙◌}
use Rattle.ivp_domain.specs.declared.boxes.BoxN.{BoxN}
use Rattle.ivp_domain.specs.Domains.{is_point}
use Rattle.ivp_func.specs.Grids.{cell_at}
use Rattle.ivp_func.specs.Kept.{clipped}
use Rattle.ivp_func.proofs.Keeping.{corner_in}
use Rattle.ivp_func.proofs.grid.Grid.cell_of.Goals as goal

pub cell_at-requires : goal.cell_at-requires
cell_at-requires c =
    let cuts = c.args.self.now.cuts in
    subst (λ (area : BoxN). is_point cuts (record { at = area.low }) ≡ true) (sym c.clip.ensures) (corner_in cuts (clipped cuts c.args.area.now) c.requires)

pub returns-clause-cell : goal.returns-clause-cell
returns-clause-cell c = c.cell_at.ensures.cell ∙ ap (λ (area : BoxN). cell_at c.args.self.now.cuts (record { at = area.low })) c.clip.ensures
