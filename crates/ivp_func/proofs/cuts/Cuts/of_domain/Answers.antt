use Rattle.std.proofs.Common.{length, false, sym, ap, subst, ◌∙◌}
use Rattle.ivp_domain.specs.declared.boxes.BoxN.{BoxN}
use Rattle.ivp_func.specs.Cuts.{axes_to, CanBeCut}
use Rattle.ivp_func.specs.Grids.{cell_box, cells_of}
use Rattle.ivp_func.proofs.Keeping.{can_be_cut, like_domain}
use Rattle.ivp_func.proofs.cuts.Cuts.of_domain.Goals as goal

pub of-requires : goal.of-requires
of-requires c =
    let axes = c.args.domain.now in
    subst (λ n. CanBeCut n c.whole.result.high) (sym c.axes.ensures.count)
    (subst (λ (area : BoxN). CanBeCut (length axes) area.high) (sym c.whole.ensures.whole) (can_be_cut axes (λ _. false) c.axes.ensures.lawful))

pub returns-clause-count : goal.returns-clause-count
returns-clause-count c =
    let axes = c.args.domain.now in
    ap cells_of (c.of.ensures ∙ (ap (λ n. axes_to n c.whole.result.high) c.axes.ensures.count ∙ ap (λ (area : BoxN). axes_to (length axes) area.high) c.whole.ensures.whole)) ∙ (like_domain axes c.axes.ensures.lawful).0

pub returns-clause-boxes : goal.returns-clause-boxes
returns-clause-boxes c = λ cell.
    let axes = c.args.domain.now in
    ap (λ all. cell_box all cell) (c.of.ensures ∙ (ap (λ n. axes_to n c.whole.result.high) c.axes.ensures.count ∙ ap (λ (area : BoxN). axes_to (length axes) area.high) c.whole.ensures.whole)) ∙ (like_domain axes c.axes.ensures.lawful).1 cell
