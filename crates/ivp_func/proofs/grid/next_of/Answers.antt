use Rattle.std.proofs.Common.{◌≡◌, true, length, Option, sym, subst}
use Rattle.std.specs.Prelude.{IfSome}
use Rattle.std.specs.Borrow.{Bor}
use Rattle.ivp_domain.specs.declared.boxes.BoxN.{BoxN}
use Rattle.ivp_func.specs.declared.grid.Grid.{Grid}
use Rattle.ivp_func.specs.Cells.{HasArea, IsLeast, IsMeeting}
use Rattle.ivp_func.specs.Pieces.{is_box_of}
use Rattle.ivp_func.proofs.Keeping.{area_kept, least_kept, meeting_kept}
use Rattle.ivp_func.proofs.Seeking.{all_passed}
use Rattle.ivp_func.proofs.grid.next_of.Goals as goal

pub first_cell-first-requires : goal.first_cell-first-requires
first_cell-first-requires c =
    let grid = c.in-Some.grid.now in
    let has = subst (λ (o : Option (Bor Grid)). IfSome o (λ (g : Bor Grid). HasArea c.args.pieces.now c.args.area.now g.now)) c.in-Some.is c.requires.grid in
    subst (λ (area : BoxN). is_box_of grid.cuts area ≡ true) (sym c.clip-kept.ensures) (area_kept c.args.pieces.now c.args.area.now grid has)

pub last_cell-last-requires : goal.last_cell-last-requires
last_cell-last-requires c =
    let grid = c.in-Some.grid.now in
    let has = subst (λ (o : Option (Bor Grid)). IfSome o (λ (g : Bor Grid). HasArea c.args.pieces.now c.args.area.now g.now)) c.in-Some.is c.requires.grid in
    subst (λ (area : BoxN). is_box_of grid.cuts area ≡ true) (sym c.clip-kept.ensures) (area_kept c.args.pieces.now c.args.area.now grid has)

pub next_in_cells-requires-clause-cells : goal.next_in_cells-requires-clause-cells
next_in_cells-requires-clause-cells c =
    let has = subst (λ (o : Option (Bor Grid)). IfSome o (λ (g : Bor Grid). HasArea c.args.pieces.now c.args.area.now g.now)) c.in-Some.is c.requires.grid in
    has.1.cells

pub next_in_cells-requires-clause-area : goal.next_in_cells-requires-clause-area
next_in_cells-requires-clause-area c =
    let grid = c.in-Some.grid.now in
    let has = subst (λ (o : Option (Bor Grid)). IfSome o (λ (g : Bor Grid). HasArea c.args.pieces.now c.args.area.now g.now)) c.in-Some.is c.requires.grid in
    subst (λ (area : BoxN). is_box_of grid.cuts area ≡ true) (sym c.clip-kept.ensures) (area_kept c.args.pieces.now c.args.area.now grid has)

pub returns-then-last-first-clause-meeting : goal.returns-then-last-first-clause-meeting
returns-then-last-first-clause-meeting c =
    let grid = c.in-Some.grid.now in
    let pieces = c.args.pieces.now in
    let has = subst (λ (o : Option (Bor Grid)). IfSome o (λ (g : Bor Grid). HasArea pieces c.args.area.now g.now)) c.in-Some.is c.requires.grid in
    meeting_kept pieces c.args.area.now grid c.args.from (length pieces) c.next_in_cells.result has
    (subst (λ (area : BoxN). IsMeeting pieces area c.args.from (length pieces) c.next_in_cells.result) c.clip-kept.ensures c.next_in_cells.ensures.meeting)

pub returns-then-last-first-clause-least : goal.returns-then-last-first-clause-least
returns-then-last-first-clause-least c =
    let grid = c.in-Some.grid.now in
    let pieces = c.args.pieces.now in
    let has = subst (λ (o : Option (Bor Grid)). IfSome o (λ (g : Bor Grid). HasArea pieces c.args.area.now g.now)) c.in-Some.is c.requires.grid in
    least_kept pieces c.args.area.now grid c.args.from c.next_in_cells.result has
    (subst (λ (area : BoxN). IsLeast pieces area c.args.from c.next_in_cells.result) c.clip-kept.ensures
    (all_passed grid.cuts pieces c.clip-kept.result c.args.from c.next_in_cells.result c.first_cell-first.result c.last_cell-last.result c.first_cell-first.ensures.first c.last_cell-last.ensures.last c.next_in_cells.ensures.least))
