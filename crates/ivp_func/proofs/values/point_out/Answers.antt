use Rattle.std.proofs.Common.{◌≡◌, IsTrue, get_or, sym, ap, subst, ◌∙◌, arith}
use Rattle.std.proofs.lemmas.Option.{slice_get-get_or}
use Rattle.ivp_domain.specs.declared.boxes.Point.{Point}
use Rattle.ivp_func.specs.Pieces.{piece_has, is_value, value_at, piece_value}
use Rattle.ivp_func.proofs.Counting.{find_at, value_at-only}
use Rattle.ivp_func.proofs.Facts.{blank, each_more, fits_at, piece_at, piece_point}
use Rattle.ivp_func.proofs.values.point_out.Goals as goal

pub out_in-requires : goal.out_in-requires
out_in-requires c =
    let parts = piece_at c.args.domain.now c.args.pieces.now c.loop-piece.piece-index c.requires.fit c.loop-piece-test.true in
    record { proper = parts.0; small = parts.1 }

pub returns-in-Some-clause-some : goal.returns-in-Some-clause-some
returns-in-Some-clause-some c =
    let pieces = c.args.pieces.now in
    let place = c.loop-piece.piece-index in
    let piece = get_or pieces place blank in
    let p = c.in-Some.point in
    let inside = piece_point c.args.domain.now piece p (fits_at c.args.domain.now pieces place c.requires.fit c.loop-piece-test.true) c.in-Some.ensures.some.0 in
    let same : value_at pieces p ≡ piece_value piece p = value_at-only pieces place piece p (c.requires.partition p inside) (slice_get-get_or pieces place blank c.loop-piece-test.true) c.in-Some.ensures.some.0 in
    (inside, ap is_value same ∙ c.in-Some.ensures.some.1)

pub loop-piece-preserved : goal.loop-piece-preserved
loop-piece-preserved c = each_more (λ x. (p : Point) → IsTrue (piece_has p x) → IsTrue (is_value (piece_value x p))) c.args.pieces.now c.loop-piece.piece-index c.loop-piece.invariant c.in_default.ensures.none

pub returns-clause-none : goal.returns-clause-none
returns-clause-none c = λ p inside.
    let one = find_at c.args.pieces.now p (c.requires.partition p inside) in
    subst (λ v. IsTrue (is_value v)) (sym one.value) (c.loop-piece.invariant one.place one.piece (omega (arith, one.within, c.loop-piece-test.false)) one.stands p one.holds_it)
