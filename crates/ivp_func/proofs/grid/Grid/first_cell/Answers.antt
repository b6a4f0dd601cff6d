use Rattle.ivp_func.proofs.Cutting.{cells_rise}
use Rattle.ivp_func.proofs.Facts.{place_in}
use Rattle.ivp_func.proofs.grid.Grid.first_cell.Goals as goal

pub returns-clause-first : goal.returns-clause-first
returns-clause-first c = λ point inside. rw c.cell_at.ensures.cell (cells_rise c.args.self.now.cuts (record { at = c.args.area.now.low }) point (λ k within. (place_in c.args.area.now point inside k within).0))
