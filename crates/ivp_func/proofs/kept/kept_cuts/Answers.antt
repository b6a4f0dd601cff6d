use Rattle.std.proofs.Common.{◌≡◌, [], ◌∷◌, length, ap, sym, subst, ◌∙◌}
use Rattle.std.specs.Prelude.{slice_index}
use Rattle.ivp_domain.specs.declared.boxes.BoxN.{BoxN}
use Rattle.ivp_func.specs.Cuts.{CanBeCut}
use Rattle.ivp_func.specs.Kept.{kept_places, kept_to}
use Rattle.ivp_func.proofs.Keeping.{can_be_cut, four_of, spanned}
use Rattle.ivp_func.proofs.kept.kept_cuts.Goals as goal

pub of-requires : goal.of-requires
of-requires c =
    let axes = c.args.domain.now in
    let pieces = c.args.pieces.now in
    let at : (c.kept_to.result ∷ c.kept_to-2.result ∷ c.kept_to-3.result ∷ c.kept_to-4.result ∷ []) ≡ kept_places axes pieces =
    four_of
    (c.kept_to.ensures ∙ ap (λ (area : BoxN). kept_to 0 (slice_index area.high 0) pieces) c.whole.ensures.whole)
    (c.kept_to-2.ensures ∙ ap (λ (area : BoxN). kept_to 1 (slice_index area.high 1) pieces) c.whole.ensures.whole)
    (c.kept_to-3.ensures ∙ ap (λ (area : BoxN). kept_to 2 (slice_index area.high 2) pieces) c.whole.ensures.whole)
    (c.kept_to-4.ensures ∙ ap (λ (area : BoxN). kept_to 3 (slice_index area.high 3) pieces) c.whole.ensures.whole)
    in
    subst (λ n. CanBeCut n (c.kept_to.result ∷ c.kept_to-2.result ∷ c.kept_to-3.result ∷ c.kept_to-4.result ∷ [])) (sym c.axes.ensures.count)
    (subst (CanBeCut (length axes)) (sym at) (can_be_cut axes (spanned axes pieces) c.whole.ensures.lawful))
