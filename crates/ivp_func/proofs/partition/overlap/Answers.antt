use Rattle.std.proofs.Common.{◌≡◌, true, false, get_or, sym, subst, ◌∙◌, inl, inr, arith}
use Rattle.std.specs.Borrow.{Bor}
use Rattle.std.proofs.lemmas.Bool.{cases_Bool, cases_lt}
use Rattle.std.proofs.lemmas.Option.{get_or_from_slice_get, slice_get-get_or, slice_get_within}
use Rattle.ivp_func.specs.declared.grid.Grid.{Grid}
use Rattle.ivp_func.specs.declared.piece.Piece.{Piece}
use Rattle.ivp_func.specs.Cells.{HasArea, HasPieces}
use Rattle.ivp_func.specs.Grids.{meets}
use Rattle.ivp_func.specs.Pieces.{piece_has}
use Rattle.ivp_func.proofs.Counting.{no_two, two_hold}
use Rattle.ivp_func.proofs.Facts.{blank, fits_at, piece_parts}
use Rattle.ivp_func.proofs.Meetings.{meets_from, meets_piece_at}
use Rattle.ivp_func.proofs.Seeking.{some_more}
use Rattle.ivp_func.proofs.partition.overlap.Goals as goal

pub next_meet-requires-clause-grid : goal.next_meet-requires-clause-grid
next_meet-requires-clause-grid c =
    let pieces = c.args.pieces.now in
    let place = c.loop-place.place in
    some_more
    (λ (g : Bor Grid). HasPieces pieces g.now)
    (λ (g : Bor Grid). HasArea pieces (get_or pieces place blank).area g.now)
    c.args.grid c.requires.grid
    (λ g has. (has.0, has.1, (piece_parts has.0 (get_or pieces place blank) (fits_at has.0 pieces place has.2 c.loop-place-test.true)).0))

pub shared_point-requires : goal.shared_point-requires
shared_point-requires c =
    let pieces = c.args.pieces.now in
    let area = (get_or pieces c.loop-place.place blank).area in
    let other = c.in-Some.other in
    let met : meets pieces area other ≡ true = c.in-Some.ensures.some.2 in
    sym (meets_piece_at pieces area other (get_or pieces other blank) (slice_get-get_or pieces other blank c.in-Some.ensures.some.1)) ∙ met

pub returns-in-Some-clause-some : goal.returns-in-Some-clause-some
returns-in-Some-clause-some c =
    let pieces = c.args.pieces.now in
    let place = c.loop-place.place in
    let other = c.in-Some.other in
    two_hold pieces place other (get_or pieces place blank) (get_or pieces other blank) c.shared_point.result (omega (arith, c.in-Some.ensures.some.0)) (slice_get-get_or pieces place blank c.loop-place-test.true) (slice_get-get_or pieces other blank c.in-Some.ensures.some.1) c.shared_point.ensures.one c.shared_point.ensures.other

pub loop-place-preserved : goal.loop-place-preserved
loop-place-preserved c =
    let pieces = c.args.pieces.now in
    let place = c.loop-place.place in
    λ k other piece below stands behind.
    elim (cases_lt k place) [
      | inl before ↦ c.loop-place.invariant k other piece before stands behind
      | inr here ↦
          let same : k ≡ place = omega arith in
          let at : get_or pieces place blank ≡ piece = subst (λ j. get_or pieces j blank ≡ piece) same (get_or_from_slice_get pieces k piece blank stands) in
          subst (λ (x : Piece). meets pieces x.area other ≡ false) at (c.in_default.ensures.none other (omega arith))
    ]

pub returns-clause-none : goal.returns-clause-none
returns-clause-none c = λ p.
    let pieces = c.args.pieces.now in
    no_two pieces p (λ i j x y below at at' held.
    elim (cases_Bool (piece_has p y)) [
      | inl both ↦
          let apart : meets pieces x.area j ≡ false = c.loop-place.invariant i j x (omega (arith, slice_get_within pieces i x at, c.loop-place-test.false)) at below in
          let met : meets pieces x.area j ≡ true = meets_from pieces x.area j y p at' held both in
          absurd (cc)
      | inr apart ↦ apart
    ])
