use Rattle.std.proofs.Common.{◌≡◌, List, ℤ, pos, neg_ℤ, ◌-ℤ◌, ◌*ℤ◌, ◌≤ℤ◌, slice_set, subst, sym, ap, ◌∙◌}
use Rattle.ivp_domain.specs.declared.boxes.BoxN.{BoxN}
use Rattle.ivp_func.specs.declared.piece.Piece.{Piece}
use Rattle.ivp_build.specs.Builders.{level}
use Rattle.ivp_build.specs.Shapes.{utility_along}
use Rattle.ivp_build.proofs.Rises.{base_fits, base_kept, change_kept}
use Rattle.ivp_build.proofs.along.piece_over.Goals as goal

-- a piece from its parts
joined : (area area' : BoxN) (base base' : ℤ) (slope slope' : List ℤ) → area ≡ area' → base ≡ base' → slope ≡ slope'
    → ◌≡◌ {A = Piece} (record { area = area; base = base; slope = slope }) (record { area = area'; base = base'; slope = slope' })
joined area area' base base' slope slope' a b s = cc

pub rise-requires-clause-least : goal.rise-requires-clause-least
rise-requires-clause-least c =
    let change = c.change-change in
    subst (λ (z : ℤ). neg_ℤ (pos 100000) ≤ℤ z) (sym (change_kept change.result change.ensures.least change.ensures.most)) change.ensures.least

pub rise-requires-clause-most : goal.rise-requires-clause-most
rise-requires-clause-most c =
    let change = c.change-change in
    subst (λ (z : ℤ). z ≤ℤ pos 100000) (sym (change_kept change.result change.ensures.least change.ensures.most)) change.ensures.most

pub overflow_sub-result : goal.overflow_sub-result
overflow_sub-result c = base_fits c.utility.result c.rise.result c.utility.ensures.least c.utility.ensures.most c.rise.ensures.above c.rise.ensures.below

pub returns : goal.returns
returns c =
    let change = c.change-change in
    let utility = c.utility in
    let rise = c.rise in
    let kept = change_kept change.result change.ensures.least change.ensures.most ∙ change.ensures.change in
    let risen = rise.ensures.rise ∙ ap (λ (z : ℤ). z *ℤ pos c.args.low) kept in
    let base = base_kept utility.result rise.result utility.ensures.least utility.ensures.most rise.ensures.above rise.ensures.below
    ∙ ap (λ (u : ℤ). u -ℤ rise.result) utility.ensures.value ∙ ap (λ (r : ℤ). pos (utility_along c.args.profile.now c.args.low) -ℤ r) risen in
    joined _ _ _ _ _ _ c.band.ensures base (ap (slice_set level c.args.axis) kept)
