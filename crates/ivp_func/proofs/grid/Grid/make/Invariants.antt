use Rattle.std.proofs.Common.{◌≡◌, ℕ, Some, length}
use Rattle.std.specs.Prelude.{slice_get}
use Rattle.ivp_func.specs.declared.grid.Cell.{Cell}
use Rattle.ivp_func.specs.Cells.{IsCell, IsNear}
use Rattle.ivp_func.specs.Grids.{cell_box}
use Rattle.ivp_func.proofs.grid.Grid.make.Given as goal

abbrev pub invariant-loop-number : goal.invariant-loop-number
invariant-loop-number l =
    record {
      near : IsNear l.pieces l.near;
      count : length l.cells.items ≡ l.number;
      each : (number : ℕ) (cell : Cell) → slice_get l.cells.items number ≡ Some cell → IsCell l.pieces l.numbers.items (cell_box l.cuts number) cell;
    }
