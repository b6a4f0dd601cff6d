use Rattle.ivp_func.proofs.Cutting.{cells_rise}
use Rattle.ivp_func.proofs.Facts.{place_in}
use Rattle.ivp_func.proofs.grid.Grid.last_cell.Goals as goal

pub returns-clause-last : goal.returns-clause-last
returns-clause-last c = λ point inside. rw c.cell_at.ensures.cell (cells_rise c.args.self.now.cuts point (record { at = c.args.area.now.high }) (λ k within. (place_in c.args.area.now point inside k within).1))
