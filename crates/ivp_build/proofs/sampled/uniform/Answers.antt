use Rattle.std.proofs.Common.{◌≡◌, ◌≤◌, List, length, arith, ap, subst, ◌∙◌}
use Rattle.ivp_func.specs.declared.piece.Piece.{Piece}
use Rattle.ivp_func.specs.Functions.{Function}
use Rattle.ivp_func.specs.Pieces.{value_at}
use Rattle.ivp_build.specs.Sampled.{uniform_pieces}
use Rattle.ivp_build.proofs.Covers.{ArePieces, boxes_function, uniform_value}
use Rattle.ivp_build.proofs.sampled.uniform.Goals as goal

pub of_pieces-requires : goal.of_pieces-requires
of_pieces-requires g c =
    let all = c.box_count.ensures.boxes in
    let same = c.in-Ok.ensures.sampled.all in
    let few : length c.in-Ok.pieces.items ≤ 4096 = omega (arith, all, same, c.if-box_count.false) in
    boxes_function c.args.domain.now c.args.size c.in-Ok.pieces.items (record { some = c.requires.size; domain = c.box_count.ensures.lawful; sampled = c.in-Ok.ensures.sampled }) few

pub returns-in-Ok-of_pieces-clause-value : goal.returns-in-Ok-of_pieces-clause-value
returns-in-Ok-of_pieces-clause-value g c = λ gives computes p inside.
    let axes = c.args.domain.now in
    let size = c.args.size in
    let all : ArePieces axes size c.in-Ok.pieces.items = record { some = c.requires.size; domain = c.box_count.ensures.lawful; sampled = c.in-Ok.ensures.sampled } in
    let made : c.in-Ok.pieces.items ≡ uniform_pieces axes size gives = c.in-Ok.ensures.pieces gives computes in
    ap (λ (func : Function). value_at func.pieces p) c.in-Ok-of_pieces.ensures ∙ ap (λ (pieces : List Piece). value_at pieces p) made ∙ uniform_value axes size gives (subst (ArePieces axes size) made all) p inside
