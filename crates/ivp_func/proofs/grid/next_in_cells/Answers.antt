use Rattle.std.proofs.Common.{ℕ, ◌+◌, ◌<◌, List, length, refl, sym, subst, ◌∙◌, arith}
use Rattle.std.specs.Prelude.{slice_index}
use Rattle.std.proofs.lemmas.Option.{slice_get_read}
use Rattle.ivp_func.specs.Cells.{IsCell, IsRising, NoneLess}
use Rattle.ivp_func.specs.Grids.{cell_box}
use Rattle.ivp_func.proofs.Seeking.{cell_apart, cell_looked, cell_rising, cell_within, SoFar}
use Rattle.ivp_func.proofs.grid.next_in_cells.Goals as goal
use Rattle.ivp_func.proofs.grid.next_in_cells.Goals.{then-share, else-share}

pub next_in-next-requires : goal.next_in-next-requires
next_in-next-requires c =
    let pieces = c.args.pieces.now in
    let cells = c.args.grid.now.cells.items in
    let number = c.loop-number.number in
    let within : number < length cells = omega (arith, c.loop-number-test.true, c.requires.last, c.requires.cells.count) in
    let is = c.requires.cells.each number c.index-cell.result.now (slice_get_read cells (length cells) number c.index-cell.result.now refl within c.index-cell.ensures) in
    let numbers = c.args.grid.now.numbers.items in
    let place = cell_box c.args.grid.now.cuts number in
    record {
      inside = subst (λ (part : List ℕ). (k : ℕ) → k < length part → slice_index part k < length pieces) (sym c.numbers_of.ensures) (cell_within pieces place numbers c.index-cell.result.now is);
      rising = subst IsRising (sym c.numbers_of.ensures) (cell_rising pieces place numbers c.index-cell.result.now is);
    }

pub loop-number-preserved : goal.loop-number-preserved
loop-number-preserved c =
    let axes = c.args.grid.now.cuts in
    let pieces = c.args.pieces.now in
    let area = c.args.area.now in
    let cells = c.args.grid.now.cells.items in
    let number = c.loop-number.number in
    let cell = c.index-cell.result.now in
    let within : number < length cells = omega (arith, c.loop-number-test.true, c.requires.last, c.requires.cells.count) in
    let numbers = c.args.grid.now.numbers.items in
    let is : IsCell pieces numbers (cell_box axes number) cell = c.requires.cells.each number cell (slice_get_read cells (length cells) number cell refl within c.index-cell.ensures) in
    elim c.if-share.branch [
      | then-share w ↦
          subst (SoFar axes pieces area c.args.from c.args.first (number + 1)) (sym w.next-is)
          (cell_looked axes pieces area c.args.from c.loop-number.next w.next_in-next.result c.args.first number numbers cell c.requires.area is w.next_in-next.ensures.meeting (subst (λ (part : List ℕ). NoneLess pieces area c.args.from w.next_in-next.result part) w.numbers_of.ensures w.next_in-next.ensures.least) c.loop-number.invariant)
      | else-share w ↦
          subst (SoFar axes pieces area c.args.from c.args.first (number + 1)) (sym w.next-is)
          (cell_apart axes pieces area c.args.from c.loop-number.next c.args.first number numbers cell c.requires.area is (sym c.share.ensures ∙ w.if-share.false) c.loop-number.invariant)
    ]

pub returns-clause-least : goal.returns-clause-least
returns-clause-least c = λ n piece p above stands held inside begin below. c.loop-number.invariant.least n piece p above stands held inside begin (omega (arith, below, c.loop-number-test.false))

pub numbers_of-requires : goal.numbers_of-requires
numbers_of-requires c =
    let cells = c.args.grid.now.cells.items in
    let number = c.loop-number.number in
    let within : number < length cells = omega (arith, c.loop-number-test.true, c.requires.last, c.requires.cells.count) in
    let is = c.requires.cells.each number c.index-cell.result.now (slice_get_read cells (length cells) number c.index-cell.result.now refl within c.index-cell.ensures) in
    record { order = is.order; within = is.within }
