use Rattle.std.proofs.Common.{◌≡◌, ◌+◌, ◌⊎◌, [], ◌∷◌, get_or, refl, sym, subst, ◌∙◌, to_z, of_z, w64, arith}
use Rattle.std.specs.Prelude.{◌≤ℤ◌}
use Rattle.std.proofs.lemmas.Int.{ints}
use Rattle.ivp_domain.specs.declared.boxes.Point.{Point}
use Rattle.ivp_func.specs.Pieces.{piece_value}
use Rattle.ivp_func.proofs.Facts.{blank, piece_at}
use Rattle.ivp_func.proofs.Tops.{max_either, top_at_first, top_more, top_of_all, TopSoFar}
use Rattle.ivp_func.proofs.values.top.Goals as goal

pub value-requires : goal.value-requires
value-requires c = (piece_at c.args.domain.now c.args.pieces.now c.loop-piece.piece-index c.requires.fit c.loop-piece-test.true).1

pub loop-piece-init : goal.loop-piece-init
loop-piece-init c =
    let first : Point = record { at = 0 ∷ 0 ∷ 0 ∷ 0 ∷ [] } in
    let kept : to_z w64 (of_z w64 c.value_at-top.result) ≡ c.value_at-top.result = omega (arith, ints) in
    top_at_first c.args.domain.now c.args.pieces.now first (to_z w64 (of_z w64 c.value_at-top.result)) refl (kept ∙ c.value_at-top.ensures)

pub loop-piece-preserved : goal.loop-piece-preserved
loop-piece-preserved c =
    let pieces = c.args.pieces.now in
    let corner = c.high_corner.result in
    let value = piece_value (get_or pieces c.loop-piece.piece-index blank) corner in
    let kept : to_z w64 (of_z w64 c.max-top.result) ≡ c.max-top.result = omega (arith, ints) in
    let same : to_z w64 (of_z w64 c.value.result) ≡ value = let fits : to_z w64 (of_z w64 c.value.result) ≡ c.value.result = omega (arith, ints) in fits ∙ c.value.ensures in
    subst (TopSoFar c.args.domain.now pieces (c.loop-piece.piece-index + 1)) (sym kept)
    (top_more c.args.domain.now pieces c.loop-piece.piece-index (to_z w64 c.loop-piece.top-bits) c.max-top.result corner c.requires.partition c.requires.fit c.loop-piece-test.true c.loop-piece.invariant c.high_corner.ensures.inside c.high_corner.ensures.greatest c.max-top.ensures.self_bound (subst (λ v. v ≤ℤ c.max-top.result) same c.max-top.ensures.other_bound) (subst (λ v. (c.max-top.result ≡ to_z w64 c.loop-piece.top-bits) ⊎ (c.max-top.result ≡ v)) same (max_either (to_z w64 c.loop-piece.top-bits) (to_z w64 (of_z w64 c.value.result)) c.max-top.result c.max-top.ensures.value)))

pub returns : goal.returns
returns c = top_of_all c.args.domain.now c.args.pieces.now c.loop-piece.piece-index (to_z w64 c.loop-piece.top-bits) c.requires.partition c.loop-piece-test.false c.loop-piece.invariant
