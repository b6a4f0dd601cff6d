-- How a path keeps its numbers: few in place, and more in a list.
use Rattle.std.specs.Prelude.{ℕ, ◌≤◌, List, length, take, Option, unwrap_or}

-- the numbers: those of the list, or the first ones of those in place
abbrev pub path_kept : ℕ → List ℕ → Option (List ℕ) → List ℕ
path_kept count few many = unwrap_or many (take count few)

-- at most five are counted in place, and there are at most 64 in all
pub record IsPathKept (count : ℕ) (few : List ℕ) (many : Option (List ℕ)) : Type 0 where
  pub room : count ≤ 5
  pub most : length (path_kept count few many) ≤ 64
