-- One load from a folder.
use Rattle.std.specs.Prelude.{ℕ, List, Option}

-- one load: the name that was asked for, and the bytes that were given, or none if the load failed
pub record Load : Type 0 where
  pub name : List ℕ
  pub given : Option (List ℕ)
