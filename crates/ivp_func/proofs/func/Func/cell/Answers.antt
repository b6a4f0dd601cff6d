use Rattle.std.proofs.Common.{◌≡◌, ◌<◌, List, true, refl, length, sym, ap, subst, ◌∙◌}
use Rattle.std.proofs.lemmas.Option.{slice_get_read}
use Rattle.ivp_domain.specs.declared.axis.Axis.{Axis}
use Rattle.ivp_domain.specs.declared.boxes.BoxN.{BoxN}
use Rattle.ivp_func.specs.Functions.{Function}
use Rattle.ivp_func.specs.Grids.{cell_at, cell_box, cells_of, meeting}
use Rattle.ivp_func.specs.Kept.{clipped, kept_axes}
use Rattle.ivp_func.specs.Pieces.{is_box_of}
use Rattle.ivp_func.proofs.Keeping.{clipped_cell_fits, clipped_list}
use Rattle.ivp_func.proofs.func.Func.cell.Goals as goal

pub cell_of-number-requires : goal.cell_of-number-requires
cell_of-number-requires c =
    let body = c.body.result.now in
    let grid = c.body.ensures.kept.grid in
    let axes : body.domain ≡ c.args.self.now.axes = ap (λ (f : Function). f.axes) c.body.ensures.function in
    let area : c.cell_box.result ≡ cell_box body.domain c.args.k = c.cell_box.ensures ∙ ap (λ all. cell_box all c.args.k) (sym axes) in
    let within : c.args.k < cells_of body.domain = subst (λ all. c.args.k < cells_of all) (sym axes) c.requires in
    subst (λ (cuts : List Axis). is_box_of cuts (clipped cuts c.cell_box.result) ≡ true) (sym grid.cuts)
    (subst (λ (one : BoxN). is_box_of (kept_axes body.domain body.pieces.items) (clipped (kept_axes body.domain body.pieces.items) one) ≡ true) (sym area) (clipped_cell_fits body.domain body.pieces.items c.args.k grid.domain within))

pub numbers_of-requires : goal.numbers_of-requires
numbers_of-requires c =
    let grid = c.body.ensures.kept.grid in
    let cells = c.body.result.now.grid.cells.items in
    let number = c.cell_of-number.result in
    let within : number < length cells = subst (λ n. number < n) (sym grid.cells.count) c.cell_of-number.ensures.within in
    let is = grid.cells.each number c.index.result.now (slice_get_read cells (length cells) number c.index.result.now refl within c.index.ensures) in
    record { order = is.order; within = is.within }

pub returns : goal.returns
returns c =
    let body = c.body.result.now in
    let pieces = body.pieces.items in
    let grid = c.body.ensures.kept.grid in
    let cells = body.grid.cells.items in
    let number = c.cell_of-number.result in
    let kept = kept_axes body.domain pieces in
    let axes : body.domain ≡ c.args.self.now.axes = ap (λ (f : Function). f.axes) c.body.ensures.function in
    let area : c.cell_box.result ≡ cell_box body.domain c.args.k = c.cell_box.ensures ∙ ap (λ all. cell_box all c.args.k) (sym axes) in
    let within : c.args.k < cells_of body.domain = subst (λ all. c.args.k < cells_of all) (sym axes) c.requires in
    let below : number < length cells = subst (λ n. number < n) (sym grid.cells.count) c.cell_of-number.ensures.within in
    let is = grid.cells.each number c.index.result.now (slice_get_read cells (length cells) number c.index.result.now refl below c.index.ensures) in
    let at : number ≡ cell_at kept (record { at = (clipped kept (cell_box body.domain c.args.k)).low }) =
    c.cell_of-number.ensures.cell
    ∙ (ap (λ (cuts : List Axis). cell_at cuts (record { at = (clipped cuts c.cell_box.result).low })) grid.cuts
    ∙ ap (λ (one : BoxN). cell_at kept (record { at = (clipped kept one).low })) area) in
    c.numbers_of.ensures
    ∙ (is.listed
    ∙ (ap (λ (cuts : List Axis). meeting pieces (cell_box cuts number)) grid.cuts
    ∙ (ap (λ n. meeting pieces (cell_box kept n)) at
    ∙ (clipped_list body.domain pieces c.args.k grid.domain within
    ∙ (ap (λ all. meeting pieces (cell_box all c.args.k)) axes ∙ ap (λ (f : Function). meeting f.pieces (cell_box c.args.self.now.axes c.args.k)) c.body.ensures.function)))))
