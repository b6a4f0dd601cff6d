-- What a function has: its domain and pieces, and what is kept to find its greatest value and the pieces of an area.
use Rattle.ivp_func.specs.declared.func.Body.{Body}
use Rattle.ivp_func.specs.Cells.{IsGrid}
use Rattle.ivp_func.specs.Functions.{Function, IsFunction, IsTop}

-- the function that it is the body of
abbrev pub function_in : Body → Function
function_in body = record { axes = body.domain; pieces = body.pieces.items }

-- the function is one, and the greatest value and the grid are its own
pub record IsBody (body : Body) : Type 0 where
  pub function : IsFunction (function_in body)
  pub top : IsTop body.domain body.pieces.items body.top
  pub grid : IsGrid body.domain body.pieces.items body.grid
