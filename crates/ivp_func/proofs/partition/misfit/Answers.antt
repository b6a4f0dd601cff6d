use Rattle.std.proofs.Common.{◌≡◌, ◌≤◌, ◌<◌, ap, arith}
use Rattle.std.specs.Borrow.{Bor}
use Rattle.ivp_domain.specs.Boxes.{volume_of}
use Rattle.ivp_domain.specs.Domains.{whole}
use Rattle.ivp_func.specs.declared.grid.Grid.{Grid}
use Rattle.ivp_func.specs.Cells.{HasPieces, IsGrid}
use Rattle.ivp_func.specs.Covering.{covered_in}
use Rattle.ivp_func.specs.Pieces.{count_at}
use Rattle.ivp_func.proofs.Bounds.{exactly_one}
use Rattle.ivp_func.proofs.Counting.{held_point}
use Rattle.ivp_func.proofs.Seeking.{some_more}
use Rattle.ivp_func.proofs.partition.misfit.Goals as goal

pub overlap-requires-clause-grid : goal.overlap-requires-clause-grid
overlap-requires-clause-grid c =
    let axes = c.args.domain.now in
    let pieces = c.args.pieces.now in
    some_more (λ (g : Bor Grid). IsGrid axes pieces g.now) (λ (g : Bor Grid). HasPieces pieces g.now) c.args.grid c.requires.grid (λ g is. (axes, is, c.requires.fit))

pub returns-in-Some-clause-some : goal.returns-in-Some-clause-some
returns-in-Some-clause-some c =
    let several : 1 < count_at c.args.pieces.now c.in-Some.point = c.in-Some.ensures.some in
    (held_point c.args.domain.now c.args.pieces.now c.in-Some.point c.requires.fit (omega arith), λ one. absurd (omega arith))

pub returns-clause-none : goal.returns-clause-none
returns-clause-none c =
    let area = whole c.args.domain.now in
    let pieces = c.args.pieces.now in
    let covered : covered_in c.whole-area.result pieces ≡ covered_in area pieces = ap (λ all. covered_in all pieces) c.whole-area.ensures.whole in
    let full : volume_of area ≤ covered_in area pieces = omega (arith, covered, c.covered.ensures, c.points-points.ensures.volume, c.if-covered-points.false) in
    exactly_one pieces area c.in_default.ensures.none c.points-points.ensures.proper full
